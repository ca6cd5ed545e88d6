use Rattle.std.proofs.Common.{◌≡◌, true}
use Rattle.ga_base.specs.declared.counts.Totals.{Totals}
use Rattle.ga_line.specs.Lines.{lines}
use Rattle.ga_workers.specs.Steps.CounterLimits.{IsWithin, weight_in}
use Rattle.ga_workers.proofs.WeighedLines.{PassedUpTo}
use Rattle.ga_workers.proofs.counter_limits.weigh_lines.Given as goal

abbrev pub invariant-loop-line : goal.invariant-loop-line
invariant-loop-line l = record {
  within : IsWithin l.weight;
  passed : (before : Totals) → l.fn.start ≡ weight_in before → PassedUpTo l.setup before (lines l.batch true) l.line-iterator l.weight;
}
