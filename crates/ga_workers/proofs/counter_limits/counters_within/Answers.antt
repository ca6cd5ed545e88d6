use Rattle.ga_workers.proofs.Together.{from-alone}
use Rattle.ga_workers.proofs.counter_limits.counters_within.Goals as goal

pub loop-tally-init : goal.loop-tally-init
loop-tally-init c = record { rest = from-alone c.args.start.now c.args.tallies.now; fit = c.requires }
