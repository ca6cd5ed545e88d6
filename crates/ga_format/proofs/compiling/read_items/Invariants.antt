use Rattle.std.proofs.Common.{◌≤◌, length}
use Rattle.ga_format.proofs.Reading.{HasRead}
use Rattle.ga_format.proofs.compiling.read_items.Given as goal

abbrev pub invariant-loop-rest : goal.invariant-loop-rest
invariant-loop-rest l = record {
  read : HasRead l.earlier l.text l.items.items l.field l.rest;
  within : length l.rest ≤ length l.text;
}

abbrev pub decreases-loop-rest : goal.decreases-loop-rest
decreases-loop-rest l = length l.rest
