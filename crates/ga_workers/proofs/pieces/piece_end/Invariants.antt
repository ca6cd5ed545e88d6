use Rattle.std.proofs.Common.{◌≤◌, length, take, true}
use Rattle.ga_base.specs.Lines.{IsEnded}
use Rattle.ga_line.specs.Lines.{lines}
use Rattle.ga_workers.proofs.pieces.piece_end.Given as goal

abbrev pub invariant-loop-passed : goal.invariant-loop-passed
invariant-loop-passed l = record {
  within : l.at ≤ length l.bytes;
  moved : l._passed ≤ l.at;
  few : length (lines (take l.at l.bytes) true) ≤ l._passed;
  ended : IsEnded (take l.at l.bytes);
}
