use Rattle.std.proofs.Common.{◌++◌, List, ℕ, arith, subst}
use Rattle.ga_print.specs.Csv.{line}
use Rattle.ga_print.specs.Keys.{key_fields}
use Rattle.ga_print.specs.Steps.Writing.{HasWritten}
use Rattle.ga_summary.specs.SummaryRows.{SummaryRow}
use Rattle.ga_print.proofs.Lines.{key-done, key-step}
use Rattle.ga_print.proofs.keys_text.write_keys.Goals as goal

pub loop-at-preserved : goal.loop-at-preserved
loop-at-preserved c = record {
  within = omega (arith, c.loop-at-test.true, c.len.ensures);
  written = λ text written.
      let before = c.loop-at.invariant.written text written in
      let row : SummaryRow = record { key = c.row-row.result.key.now; sums = c.row-row.result.sums; names = c.row-row.result.names.now } in (
        before.0 ++ line (key_fields row),
        rw (c.as_bytes-panel.ensures.value, c.panel_name.ensures, c.items.ensures) at (c.in_ok-write_key.ensures before.0 before.1),
        key-step c.args.summary.now.rows c.loop-at.at row before.0 _ c.row-row.ensures before.2,
      );
}

pub returns : goal.returns
returns c = λ text written.
    let after = c.loop-at.invariant.written text written in
    subst (λ (now : List ℕ). HasWritten now c.loop-at.writer) (key-done c.args.summary.now.rows c.loop-at.at after.0 _ (omega (arith, c.loop-at-test.false, c.len.ensures)) after.2) after.1
