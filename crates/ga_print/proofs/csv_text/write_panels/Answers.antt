use Rattle.std.proofs.Common.{◌++◌, List, ℕ, subst}
use Rattle.ga_print.specs.Csv.{row_lines}
use Rattle.ga_print.specs.Names.{panel_name}
use Rattle.ga_print.specs.Steps.Writing.{HasWritten}
use Rattle.ga_print.proofs.Lines.{panel-step, panel-done}
use Rattle.ga_print.proofs.csv_text.write_panels.Goals as goal

pub loop-list-preserved : goal.loop-list-preserved
loop-list-preserved c = λ text written.
    let before = c.loop-list.invariant text written in
    let own = c.in_ok-write_rows.ensures before.0 before.1 in (
      before.0 ++ row_lines (panel_name c.list-item.result.panel) 0 c.list-item.result.rows,
      rw (c.as_bytes.ensures.value, c.panel_name.ensures, c.items.ensures) at own,
      panel-step c.args.lists.now c.loop-list.list-index c.list-item.result before.0 _ c.loop-list-test.true c.list-item.is before.2,
    )

pub returns : goal.returns
returns c = λ text written.
    let after = c.loop-list.invariant text written in
    subst (λ (now : List ℕ). HasWritten now c.loop-list.writer) (panel-done c.args.lists.now c.loop-list.list-index after.0 _ c.loop-list-test.false after.2) after.1
