use Rattle.std.proofs.Common.{◌≡◌, Some, map, take}
use Rattle.std.specs.Prelude.{slice_get}
use Rattle.std.specs.List.{All}
use Rattle.ga_totals.proofs.numbered_key.number_keys.Given as goal

abbrev pub invariant-loop-number : goal.invariant-loop-number
invariant-loop-number l = record {
  keys : map (λ n. n.key) l.all.items ≡ take l.number l.keys;
  numbers : All (λ n. slice_get l.keys n.number ≡ Some n.key) l.all.items;
}
