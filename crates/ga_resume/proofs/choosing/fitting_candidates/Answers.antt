use Rattle.std.proofs.Common.{◌≡◌, ◌+◌, ◌∙◌, ap, sym, subst, arith, take, List, Vec, Global, ℕ}
use Rattle.std.proofs.lemmas.Bool.{true≢false}
use Rattle.sha2.specs.Sha256.{sha256}
use Rattle.sha2.specs.Hashers.{Holds256}
use Rattle.ga_resume.specs.Steps.Choosing.{AreFitting}
use Rattle.ga_resume.specs.declared.choosing.Candidate.{Candidate}
use Rattle.ga_resume.proofs.Choices.{fit-more, fit-skipped, longer-front, leads-rise}
use Rattle.ga_resume.proofs.choosing.fitting_candidates.Goals as goal
use Rattle.ga_resume.proofs.choosing.fitting_candidates.Goals.{then-fit+in_ok-push, else-fit}

pub loop-candidate-preserved : goal.loop-candidate-preserved
loop-candidate-preserved c =
    let lead = c.from-lead.result in
    let is : lead ≡ c.candidate-item.result.entry.lead = c.from-lead.ensures in
    let there = ap (λ (x : Candidate). x.entry.lead) c.candidate-item.is in
    let next = c.loop-candidate.invariant.next c.loop-candidate.candidate-index c.candidate-item.result (omega arith) c.loop-candidate-test.true in
    let within = c.requires.within c.loop-candidate.candidate-index c.candidate-item.result c.loop-candidate-test.true in
    let holds : Holds256 c.update.new.self (take lead c.args.front.now) =
    subst (λ (m : List ℕ). Holds256 c.update.new.self m) (longer-front c.args.front.now c.loop-candidate.hashed lead (omega (arith, next, there, is)))
    (c.update.ensures (take c.loop-candidate.hashed c.args.front.now) c.loop-candidate.invariant.holds) in
    let answer = c.in_ok-fit.ensures (take lead c.args.front.now) holds in
    record {
      within = omega (arith, c.loop-candidate-test.true);
      far = omega (arith, within, there, is);
      holds = holds;
      next = λ k d le below. rw (is) (leads-rise c.args.candidates.now c.loop-candidate.candidate-index k c.candidate-item.result d c.requires.rise (omega (arith, le)) below c.candidate-item.is);
      fits = elim c.if-fit.branch [
        | then-fit+in_ok-push w ↦
            subst (λ (fits : List Candidate). AreFitting c.args.front.now c.args.candidates.now (c.loop-candidate.candidate-index + 1) fits)
            (sym (ap (λ (v : Vec Candidate Global). v.items) w.fits-is ∙ w.in_ok-push.ensures.items))
            (fit-more c.args.front.now c.args.candidates.now c.loop-candidate.fits.items c.loop-candidate.candidate-index c.candidate-item.result
            c.loop-candidate-test.true c.candidate-item.is (answer.0 w.if-fit.true ∙ ap (λ (n : ℕ). sha256 (take n c.args.front.now)) is) c.loop-candidate.invariant.fits)
        | else-fit w ↦
            subst (λ (fits : List Candidate). AreFitting c.args.front.now c.args.candidates.now (c.loop-candidate.candidate-index + 1) fits)
            (sym (ap (λ (v : Vec Candidate Global). v.items) w.fits-is))
            (fit-skipped c.args.front.now c.args.candidates.now c.loop-candidate.fits.items c.loop-candidate.candidate-index c.candidate-item.result
            c.loop-candidate-test.true c.candidate-item.is
            (λ has. absurd (true≢false (sym (answer.1 (has ∙ ap (λ (n : ℕ). sha256 (take n c.args.front.now)) (sym is))) ∙ w.if-fit.false))) c.loop-candidate.invariant.fits)
      ];
    }
