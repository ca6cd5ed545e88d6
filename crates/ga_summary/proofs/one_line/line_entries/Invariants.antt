use Rattle.std.proofs.Common.{◌≡◌, take, map}
use Rattle.std.specs.Option.{option_copied}
use Rattle.ga_summary.specs.Steps.Entries.{AllClosed, rows_of}
use Rattle.ga_summary.specs.OneLine.{line_row}
use Rattle.ga_summary.proofs.one_line.line_entries.Given as goal

abbrev pub invariant-loop-key : goal.invariant-loop-key
invariant-loop-key l = record {
  rows : rows_of l.entries.items ≡ map (line_row l.sums (option_copied l.visitor)) (take l.key-index l.keys);
  closed : AllClosed l.entries.items;
}
