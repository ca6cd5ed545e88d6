use Rattle.std.proofs.Common.{◌∙◌, inl, inr, refl, sym, arith}
use Rattle.ga_report.specs.Steps.Alone.{is_alone}
use Rattle.ga_report.proofs.PanelIndexes.{partition-all, partition-more}
use Rattle.ga_report.proofs.buckets.Buckets.partition.Goals as goal
use Rattle.ga_report.proofs.buckets.Buckets.partition.Goals.{then-is_alone+in_ok-push, else-is_alone+in_ok-push-2}

pub loop-row_index-preserved : goal.loop-row_index-preserved
loop-row_index-preserved c = λ rows those are.
    let indexes = c.args.indexes.now in
    let index = c.loop-row_index.row_index-index in
    let less = c.loop-row_index-test.true in
    let some = c.loop-row_index.partition.passing.items in
    let others = c.loop-row_index.partition.others.items in
    elim c.if-is_alone.branch [
      | then-is_alone+in_ok-push w ↦
          rw w.partition-is (partition-more rows (is_alone c.args.self.now) indexes those are index _ less some others _ _
          (inl (sym c.is_alone.ensures ∙ w.if-is_alone.true, w.in_ok-push.ensures.items, refl)) (c.loop-row_index.invariant rows those are))
      | else-is_alone+in_ok-push-2 w ↦
          rw w.partition-is (partition-more rows (is_alone c.args.self.now) indexes those are index _ less some others _ _
          (inr (sym c.is_alone.ensures ∙ w.if-is_alone.false, refl, w.in_ok-push-2.ensures.items)) (c.loop-row_index.invariant rows those are))
    ]

pub returns : goal.returns
returns c = λ rows those are.
    partition-all rows (is_alone c.args.self.now) c.args.indexes.now those are c.loop-row_index.row_index-index _ _ (omega (arith, c.loop-row_index-test.false)) (c.loop-row_index.invariant rows those are)
