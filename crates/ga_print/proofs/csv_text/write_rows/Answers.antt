use Rattle.std.proofs.Common.{◌++◌, ◌+◌, ◌∙◌, [], ap, drop, length, suc, List, ℕ, arith, subst}
use Rattle.ga_report.specs.declared.report.Item.{Item}
use Rattle.ga_print.specs.Csv.{child_lines, item_fields, line, row_lines}
use Rattle.ga_print.specs.Steps.Writing.{HasWritten}
use Rattle.ga_print.proofs.Lines.{row-step, row-done}
use Rattle.ga_print.proofs.csv_text.write_rows.Goals as goal

pub loop-row-preserved : goal.loop-row-preserved
loop-row-preserved c = record {
  below = omega (arith, c.loop-row.invariant.below, c.items-in-loop-row.type_inv.0);
  written = λ text written.
      let before = c.loop-row.invariant.written text written in
      let id = c.loop-row.id in
      let own = before.0 ++ line (item_fields c.args.panel.now id [] c.row-item.result.item) in (
        own ++ child_lines c.args.panel.now id (suc id) c.row-item.result.children,
        subst (λ (cs : List Item). HasWritten (own ++ child_lines c.args.panel.now id (suc id) cs) c.write_children.new.writer) c.items.ensures
            (c.in_ok-write_children.ensures _ (c.in_ok-write_item.ensures before.0 before.1)),
        ap (λ (cs : List Item). (own ++ child_lines c.args.panel.now id (suc id) c.row-item.result.children) ++ row_lines c.args.panel.now (id + 1 + length cs) (drop (c.loop-row.row-index + 1) c.args.rows.now)) c.items-in-loop-row.ensures
            ∙ row-step c.args.panel.now id c.args.rows.now c.loop-row.row-index c.row-item.result before.0 _ c.loop-row-test.true c.row-item.is before.2,
      );
}

pub returns : goal.returns
returns c = λ text written.
    let after = c.loop-row.invariant.written text written in
    subst (λ (now : List ℕ). HasWritten now c.loop-row.writer) (row-done c.args.panel.now _ c.args.rows.now c.loop-row.row-index after.0 _ c.loop-row-test.false after.2) after.1
