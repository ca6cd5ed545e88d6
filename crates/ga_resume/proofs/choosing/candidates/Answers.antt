use Rattle.std.proofs.Common.{◌+◌, ◌∙◌, ap, sym, subst, arith, List, Vec, Global}
use Rattle.ga_resume.specs.Steps.Choosing.{AreCandidates}
use Rattle.ga_resume.specs.declared.choosing.Candidate.{Candidate}
use Rattle.ga_resume.proofs.Choices.{no-candidates, candidate-more, candidate-skipped}
use Rattle.ga_resume.proofs.choosing.candidates.Goals as goal
use Rattle.ga_resume.proofs.choosing.candidates.Goals.{then-entry-end+in_ok-push, else-entry-end}

pub loop-place-init : goal.loop-place-init
loop-place-init c = record {
  within = omega arith;
  so_far = subst (λ (cs : List Candidate). AreCandidates c.args.entries.now 0 c.args.end cs) (sym c.new-candidates.ensures.items) (no-candidates c.args.entries.now c.args.end);
}

pub loop-place-preserved : goal.loop-place-preserved
loop-place-preserved c = record {
  within = omega (arith, c.loop-place-test.true);
  so_far = elim c.if-entry-end.branch [
    | then-entry-end+in_ok-push w ↦
        subst (λ (cs : List Candidate). AreCandidates c.args.entries.now (c.loop-place.place + 1) c.args.end cs)
        (sym (ap (λ (v : Vec Candidate Global). v.items) w.candidates-is ∙ w.in_ok-push.ensures.items))
        (candidate-more c.args.entries.now c.loop-place.place c.args.end c.loop-place.candidates.items c.index-entries-place.result c.loop-place-test.true c.index-entries-place.is
        w.if-entry-end.true c.loop-place.invariant.so_far)
    | else-entry-end w ↦
        subst (λ (cs : List Candidate). AreCandidates c.args.entries.now (c.loop-place.place + 1) c.args.end cs)
        (sym (ap (λ (v : Vec Candidate Global). v.items) w.candidates-is))
        (candidate-skipped c.args.entries.now c.loop-place.place c.args.end c.loop-place.candidates.items c.index-entries-place.result c.loop-place-test.true c.index-entries-place.is
        (omega (arith, w.if-entry-end.false)) c.loop-place.invariant.so_far)
  ];
}
