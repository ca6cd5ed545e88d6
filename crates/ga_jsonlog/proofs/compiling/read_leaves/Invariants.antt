use Rattle.std.proofs.Common.{◌≡◌, [], take}
use Rattle.ga_jsonlog.specs.JsonFormats.{AreLeaves, all_items}
use Rattle.ga_jsonlog.proofs.compiling.read_leaves.Given as goal

abbrev pub invariant-loop-number : goal.invariant-loop-number
invariant-loop-number l = record {
  leaves : AreLeaves [] (take l.number l.places) l.leaves.items;
  given : l.given.items ≡ all_items l.leaves.items;
}
