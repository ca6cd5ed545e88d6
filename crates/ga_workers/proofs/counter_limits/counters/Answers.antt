use Rattle.std.proofs.Common.{drop, sym, subst}
use Rattle.ga_workers.proofs.Together.{fit-before, from-alone}
use Rattle.ga_base.specs.Totals.{TotalsFit}
use Rattle.ga_workers.proofs.counter_limits.counters.Goals as goal

pub loop-tally-init : goal.loop-tally-init
loop-tally-init c = record { rest = from-alone c.args.start.now c.args.tallies.now; lines = c.requires.lines }

pub plus-totals-requires-clause-fit : goal.plus-totals-requires-clause-fit
plus-totals-requires-clause-fit c = (
  fit-before c.loop-tally.totals (drop c.loop-tally.tally-index c.args.tallies.now) (subst TotalsFit (sym c.loop-tally.invariant.rest) c.requires.fit),
  c.totals.ensures.fit,
)
