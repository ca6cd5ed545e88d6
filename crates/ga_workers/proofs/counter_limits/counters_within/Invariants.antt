use Rattle.std.proofs.Common.{◌≡◌, drop}
use Rattle.ga_workers.specs.Together.{totals_in}
use Rattle.ga_tallies.specs.Tallies.{totals_from}
use Rattle.ga_base.specs.Totals.{totals_plus, TotalsFit}
use Rattle.ga_workers.proofs.counter_limits.counters_within.Given as goal

abbrev pub invariant-loop-tally : goal.invariant-loop-tally
invariant-loop-tally l = record {
  rest : totals_from l.totals (drop l.tally-index l.tallies) ≡ totals_plus l.start (totals_in l.tallies);
  fit : TotalsFit l.totals;
}
