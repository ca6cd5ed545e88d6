-- What comes from remapped tallies, one more.
use Rattle.std.proofs.Common.{◌≡◌, ℕ, ◌⊎◌, inl, inr, List, [], ◌∷◌, ◌++◌, refl, ⊎_elim}
use Rattle.ga_base.specs.declared.counts.Sums.{Sums}
use Rattle.ga_tallies.specs.Steps.Absorbing.{IsBrought, IsRemapped, RemappedSeen, rows_added, sums_remapped}

pub sums-behind : (remapped_tallies : List RemappedSeen) (remapped : RemappedSeen) (rows : List Sums) → sums_remapped (remapped_tallies ++ remapped ∷ []) rows ≡ rows_added remapped.keys remapped.counts.sums (sums_remapped remapped_tallies rows)
sums-behind [] remapped rows = refl
sums-behind (first ∷ remapped_tallies) remapped rows = sums-behind remapped_tallies remapped (rows_added first.keys first.counts.sums rows)

module _ (remapped : RemappedSeen) (pair : ℕ × ℕ) where
  pub remapped-cases : (remapped_tallies : List RemappedSeen) → IsRemapped (remapped_tallies ++ remapped ∷ []) pair → IsRemapped remapped_tallies pair ⊎ IsBrought remapped pair
  remapped-cases [] is = ⊎_elim (λ own. inr own) (λ none. absurd none) is
  remapped-cases (first ∷ remapped_tallies) is =
      ⊎_elim (λ own. inl (inl own)) (λ rest. ⊎_elim (λ before. inl (inr before)) (λ own. inr own) (remapped-cases remapped_tallies rest)) is

  pub remapped-before : (remapped_tallies : List RemappedSeen) → IsRemapped remapped_tallies pair → IsRemapped (remapped_tallies ++ remapped ∷ []) pair
  remapped-before [] is = absurd is
  remapped-before (first ∷ remapped_tallies) is = ⊎_elim (λ own. inl own) (λ rest. inr (remapped-before remapped_tallies rest)) is

  pub remapped-there : (remapped_tallies more : List RemappedSeen) → IsBrought remapped pair → IsRemapped (remapped_tallies ++ remapped ∷ more) pair
  remapped-there [] more is = inl is
  remapped-there (first ∷ remapped_tallies) more is = inr (remapped-there remapped_tallies more is)
