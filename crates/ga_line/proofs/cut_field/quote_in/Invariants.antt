use Rattle.std.proofs.Common.{length, ◌-◌, ◌<◌, ◌≤◌, take}
use Rattle.ga_line.specs.Fits.{double_quote, NeverEnds, IsFree}
use Rattle.ga_line.proofs.cut_field.quote_in.Given as goal

abbrev pub invariant-loop-from : goal.invariant-loop-from
invariant-loop-from l = record {
  passed : l.from ≤ length l.rest → IsFree double_quote (take l.from l.rest);
  past : length l.rest < l.from → NeverEnds double_quote l.rest;
}

abbrev pub decreases-loop-from : goal.decreases-loop-from
decreases-loop-from l = length l.rest - l.from
