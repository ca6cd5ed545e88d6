use Rattle.std.proofs.Common.{◌≡◌, take}
use Rattle.std.specs.List.{filter_map}
use Rattle.ga_report.specs.Steps.RowPlaces.{index_at}
use Rattle.ga_report.proofs.row_index.indexes_in_turn.Given as goal

abbrev pub invariant-loop-place : goal.invariant-loop-place
invariant-loop-place g l = l.indexes.items ≡ filter_map (index_at (g.T.RowSource.view l.source).rows) (take l.place-index l.places)
