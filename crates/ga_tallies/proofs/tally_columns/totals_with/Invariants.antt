use Rattle.std.proofs.Common.{◌≡◌, take}
use Rattle.ga_base.specs.Totals.{LinesAdd}
use Rattle.ga_tallies.specs.Tallies.{totals_from}
use Rattle.ga_tallies.proofs.tally_columns.totals_with.Given as goal

abbrev pub invariant-loop-tally : goal.invariant-loop-tally
invariant-loop-tally l = record {
  value : l.totals ≡ totals_from l.fn.start (take l.tally-index l.tallies);
  lines : LinesAdd l.totals;
}
