use Rattle.std.proofs.Common.{◌≡◌, map, take}
use Rattle.std.specs.List.{AllByRecursion}
use Rattle.ga_codec.specs.Values.{entry_value}
use Rattle.ga_codec.specs.Shapes.{IsEntry}
use Rattle.ga_codec.specs.Steps.Shapes.{shape_value}
use Rattle.ga_codec.proofs.snapshot_reading.entries_of.Given as goal

abbrev pub invariant-loop-shape : goal.invariant-loop-shape
invariant-loop-shape l = record {
  same : map entry_value l.entries.items ≡ map shape_value (take l.shape-index l.shapes);
  good : AllByRecursion IsEntry (map shape_value (take l.shape-index l.shapes));
}
