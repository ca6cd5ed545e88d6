use Rattle.std.proofs.Common.{List, take}
use Rattle.ga_report.specs.Steps.Alone.{IsPartition, is_alone}
use Rattle.ga_report.specs.Steps.RowPlaces.{AreIndexes}
use Rattle.ga_report.specs.Source.{SourceRow}
use Rattle.ga_report.proofs.buckets.Buckets.partition.Given as goal

abbrev pub invariant-loop-row_index : goal.invariant-loop-row_index
invariant-loop-row_index l = (rows those : List SourceRow) → AreIndexes rows l.indexes those
    → IsPartition rows (is_alone l.self) (take l.row_index-index those) l.partition.passing.items l.partition.others.items
