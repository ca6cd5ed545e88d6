use Rattle.std.proofs.Common.{◌≡◌, ℕ, ◌<◌, length, get_or, take}
use Rattle.std.specs.Prelude.{Vec}
use Rattle.ga_base.specs.declared.name.Name.{Name}
use Rattle.ga_pool.specs.Steps.CountedRows.{names_under}
use Rattle.ga_pool.proofs.key_names.names_of_keys.Given as goal

abbrev pub invariant-loop-at : goal.invariant-loop-at
invariant-loop-at l = record {
  many : length l.names.items ≡ l.keys;
  each : (k : ℕ) (d : Vec Name _) → k < l.keys → (get_or l.names.items k d).items ≡ names_under l.visitors.items k (take l.at l.pairs);
}
