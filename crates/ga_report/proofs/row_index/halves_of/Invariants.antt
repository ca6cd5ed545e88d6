use Rattle.std.proofs.Common.{List, take}
use Rattle.ga_report.specs.Steps.Alone.{IsPartition, has_none}
use Rattle.ga_report.specs.Steps.RowPlaces.{AreIndexes}
use Rattle.ga_report.specs.Source.{SourceRow}
use Rattle.ga_report.proofs.row_index.halves_of.Given as goal

abbrev pub invariant-loop-row_index : goal.invariant-loop-row_index
invariant-loop-row_index l = (rows those : List SourceRow) → AreIndexes rows l.indexes those
    → IsPartition rows (has_none l.bits) (take l.row_index-index those) l.halves.passing.items l.halves.others.items
