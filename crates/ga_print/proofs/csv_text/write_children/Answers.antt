use Rattle.std.proofs.Common.{◌++◌, ◌+◌, List, ℕ, arith, subst}
use Rattle.std.specs.Prelude.{decimal}
use Rattle.ga_print.specs.Csv.{item_fields, line}
use Rattle.ga_print.specs.Steps.Writing.{HasWritten}
use Rattle.ga_print.proofs.Lines.{child-step, child-done}
use Rattle.ga_print.proofs.csv_text.write_children.Goals as goal

pub loop-child-preserved : goal.loop-child-preserved
loop-child-preserved c = record {
  counts = omega (arith, c.loop-child.invariant.counts);
  written = λ text written.
      let before = c.loop-child.invariant.written text written in
      let own = c.in_ok-write_item.ensures before.0 before.1 in (
        before.0 ++ line (item_fields c.args.panel.now (c.loop-child.id + 1) (decimal c.args.parent_id) c.child-item.result),
        rw (c.as_bytes-parent.ensures.value, c.format.ensures.text) at own,
        child-step c.args.panel.now c.args.parent_id c.loop-child.id c.args.children.now c.loop-child.child-index c.child-item.result before.0 _ c.loop-child-test.true c.child-item.is before.2,
      );
}

pub returns : goal.returns
returns c = λ text written.
    let after = c.loop-child.invariant.written text written in
    subst (λ (now : List ℕ). HasWritten now c.loop-child.writer) (child-done c.args.panel.now c.args.parent_id _ c.args.children.now c.loop-child.child-index after.0 _ c.loop-child-test.false after.2) after.1
