-- The first item that passes a test.
use Rattle.std.proofs.Common.{◌≡◌, ℕ, ◌<◌, Bool, true, List, length, get_or, Some, sym, subst}
use Rattle.std.proofs.lemmas.List.Folds.{list_any_at}
use Rattle.std.proofs.lemmas.List.Sums.{passes_at_first}
use Rattle.std.proofs.lemmas.Option.{slice_get-get_or}
use Rattle.std.specs.Prelude.{slice_get}
use Rattle.std.specs.List.{list_any, position_or_len}

module _ {T : Type 0} (p : T → Bool) (items : List T) (at : ℕ) (x : T) (is : position_or_len p items ≡ at) (inside : at < length items) where
  passes : p (get_or items at x) ≡ true
  passes = subst (λ k. p (get_or items k x) ≡ true) is (passes_at_first p items x (subst (λ k. k < length items) (sym is) inside))

  pub is-there : list_any p items ≡ true
  is-there = list_any_at p items at x inside passes

  pub known-at : (known : T) × (slice_get items at ≡ Some known) × (p known ≡ true)
  known-at = (get_or items at x, slice_get-get_or items at x inside, passes)
