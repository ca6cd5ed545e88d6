use Rattle.std.proofs.Common.{inl, inr, refl, arith}
use Rattle.std.proofs.lemmas.Bool.Decides.{Decides-eqb}
use Rattle.ga_report.specs.Steps.Alone.{has_none}
use Rattle.ga_report.proofs.PanelIndexes.{differs, partition-all, partition-more}
use Rattle.ga_report.proofs.row_index.halves_of.Goals as goal
use Rattle.ga_report.proofs.row_index.halves_of.Goals.{then-row_index-bits-eq0+in_ok-push, else-row_index-bits-eq0+in_ok-push-2}

pub loop-row_index-preserved : goal.loop-row_index-preserved
loop-row_index-preserved c = λ rows those are.
    let indexes = c.args.indexes.now in
    let index = c.loop-row_index.row_index-index in
    let less = c.loop-row_index-test.true in
    let some = c.loop-row_index.halves.passing.items in
    let others = c.loop-row_index.halves.others.items in
    elim c.if-row_index-bits-eq0.branch [
      | then-row_index-bits-eq0+in_ok-push w ↦
          rw w.halves-is (partition-more rows (has_none c.args.bits) indexes those are index _ less some others _ _
          (inl ((Decides-eqb _ _).1 w.if-row_index-bits-eq0.true, w.in_ok-push.ensures.items, refl)) (c.loop-row_index.invariant rows those are))
      | else-row_index-bits-eq0+in_ok-push-2 w ↦
          rw w.halves-is (partition-more rows (has_none c.args.bits) indexes those are index _ less some others _ _
          (inr (differs _ _ w.if-row_index-bits-eq0.false, refl, w.in_ok-push-2.ensures.items)) (c.loop-row_index.invariant rows those are))
    ]

pub returns : goal.returns
returns c = λ rows those are.
    partition-all rows (has_none c.args.bits) c.args.indexes.now those are c.loop-row_index.row_index-index _ _ (omega (arith, c.loop-row_index-test.false)) (c.loop-row_index.invariant rows those are)
