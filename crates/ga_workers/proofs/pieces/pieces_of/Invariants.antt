use Rattle.std.proofs.Common.{◌≡◌, ◌+◌, ◌≤◌, ◌++◌, true, length, map}
use Rattle.ga_line.specs.Lines.{lines}
use Rattle.ga_workers.specs.Steps.Drawing.{AreShort, all_lines}
use Rattle.ga_workers.proofs.pieces.pieces_of.Given as goal

abbrev pub invariant-loop-rest : goal.invariant-loop-rest
invariant-loop-rest l = record {
  so_far : all_lines (map (λ piece. piece.now) l.pieces.items) ++ lines l.rest true ≡ lines l.batch true;
  short : AreShort l.workers.chunk (map (λ piece. piece.now) l.pieces.items);
  few : length l.pieces.items + length l.rest ≤ length l.batch;
}

abbrev pub decreases-loop-rest : goal.decreases-loop-rest
decreases-loop-rest l = length l.rest
