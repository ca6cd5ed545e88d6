use Rattle.std.proofs.Common.{◌≡◌, map, take}
use Rattle.serde_json.specs.View.{view}
use Rattle.ga_jsonlog.specs.Pieces.{piece_at}
use Rattle.ga_jsonlog.proofs.pieces.pieces_of.Given as goal

abbrev pub invariant-loop-leaf : goal.invariant-loop-leaf
invariant-loop-leaf l = record {
  value : l.value ≡ l.initial.value;
  pieces : l.pieces.items ≡ map (piece_at (view l.value)) (take l.leaf-index l.leaves);
}
