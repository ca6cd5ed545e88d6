use Rattle.std.proofs.Common.{ℕ, ◌+◌, Bool, not, eqb, ap, sym, ◌∙◌}
use Rattle.std.proofs.lemmas.Bool.{ne_eqb}
use Rattle.std.proofs.Common.{eq-eqb}
use Rattle.std.proofs.lemmas.List.Sums.{count_by_more_yes, count_by_more_no}
use Rattle.ga_draws.proofs.Views.{seat-there, seat-is}
use Rattle.ga_pairs.proofs.set.count_used.Goals as goal
use Rattle.ga_pairs.proofs.set.count_used.Goals.{then-word-ne0, else-word-ne0}

pub loop-at-preserved : goal.loop-at-preserved
loop-at-preserved c =
    let test : ℕ → Bool = λ word. not (eqb word 0) in
    let within = seat-there _ c.loop-at.at c.word.result c.word.ensures in
    let is = seat-is _ c.loop-at.at c.word.result 0 c.word.ensures in
    elim c.if-word-ne0.branch [
      | then-word-ne0 w ↦
          w.pairs-is
          ∙ (ap (λ (n : ℕ). n + 1) c.loop-at.invariant
          ∙ sym (count_by_more_yes test _ c.loop-at.at 0 within (ap test is ∙ ap not (ne_eqb c.word.result 0 w.if-word-ne0.true))))
      | else-word-ne0 w ↦
          w.pairs-is
          ∙ (c.loop-at.invariant ∙ sym (count_by_more_no test _ c.loop-at.at 0 within (ap test is ∙ ap not (eq-eqb c.word.result 0 w.if-word-ne0.false))))
    ]
