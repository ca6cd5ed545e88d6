use Rattle.std.proofs.Common.{◌≡◌, ℕ, ◌<◌, [], length, get_or}
use Rattle.std.specs.Prelude.{Vec}
use Rattle.ga_base.specs.declared.name.Name.{Name}
use Rattle.ga_pool.proofs.key_names.no_names.Given as goal

abbrev pub invariant-loop-key : goal.invariant-loop-key
invariant-loop-key l = record {
  many : length l.names.items ≡ l._key;
  each : (k : ℕ) (d : Vec Name _) → k < length l.names.items → (get_or l.names.items k d).items ≡ [];
}
