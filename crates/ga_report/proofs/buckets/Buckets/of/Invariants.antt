use Rattle.std.proofs.Common.{map, take}
use Rattle.ga_report.specs.Steps.Alone.{AreBuckets}
use Rattle.ga_report.proofs.buckets.Buckets.of.Given as goal

abbrev pub invariant-loop-row_index : goal.invariant-loop-row_index
invariant-loop-row_index l = AreBuckets (take l.row_index-index (map (λ row_index. row_index.hash) l.indexes)) l.counts.items
