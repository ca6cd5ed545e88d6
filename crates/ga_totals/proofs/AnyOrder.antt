-- Told rows that are sound are so in any order.
use Rattle.std.proofs.Common.{◌≡◌, ℕ, ◌≤◌, ◌==◌, ◌&&◌, ◌||◌, Bool, true, false, cond, List, [], ◌∷◌, filter, map, sum_by, refl, sym, ap, ◌∙◌, subst, All}
use Rattle.std.specs.List.{list_any}
use Rattle.std.specs.List.Sorted.{IsPermutation}
use Rattle.std.proofs.lemmas.List.Elements.{All-from_recursion, All-weaker, recursion_from_All}
use Rattle.std.proofs.lemmas.List.Sorted.{All-permutation, IsPermutation-map, IsPermutation-sym, list_any-IsPermutation, sum_by-IsPermutation}
use Rattle.std.proofs.lemmas.Map.Keys.{IsDistinct-IsPermutation}
use Rattle.ga_base.specs.declared.counts.TheConstants.{LIMIT}
use Rattle.ga_base.specs.declared.counts.Sums.{Sums}
use Rattle.ga_base.specs.Layers.{Layer, in_layer, is_day}
use Rattle.ga_base.specs.Orders.{is_same_key}
use Rattle.ga_report.specs.SoundRows.{AreSound, HasDay, SumsWithin, day_rows, layer_rows}
use Rattle.ga_report.specs.Source.{SourceRow}
use Rattle.ga_report.proofs.Lists.{all-in, at-all, filter-in, in-filter, in-permutation, sum_by-filter}
use Rattle.ga_numbers.proofs.Same.{key-laws}

any-filter : (p q : SourceRow → Bool) (xs : List SourceRow) → list_any q (filter p xs) ≡ list_any (λ x. p x && q x) xs
any-filter p q [] = refl
any-filter p q (x ∷ xs) = elim (p x) as (λ v. list_any q (cond v (x ∷ filter p xs) (filter p xs)) ≡ ((v && q x) || list_any (λ y. p y && q y) xs)) [
  | true ↦ ap (λ b. q x || b) (any-filter p q xs)
  | false ↦ any-filter p q xs
]

module _ (xs ys : List SourceRow) (moved : IsPermutation xs ys) where
  -- a key has at most the day's visitors
  abbrev IsVisited : SourceRow → SourceRow → Type 0
  IsVisited day row = row.key.date ≡ day.key.date → row.visitors ≤ day.visitors

  abbrev is-day : SourceRow → Bool
  is-day row = is_day row.key

  any-moved : (p q : SourceRow → Bool) → list_any q (filter p xs) ≡ list_any q (filter p ys)
  any-moved p q = any-filter p q xs ∙ list_any-IsPermutation (λ x. p x && q x) xs ys moved ∙ sym (any-filter p q ys)

  sum-moved : (p : SourceRow → Bool) (f : SourceRow → ℕ) → sum_by f (filter p xs) ≡ sum_by f (filter p ys)
  sum-moved p f = sum_by-filter f p xs ∙ sym (sum_by-IsPermutation (λ x. cond (p x) (f x) 0) xs ys moved) ∙ sym (sum_by-filter f p ys)

  all-moved : (p : SourceRow → Bool) (P : SourceRow → Type 0) → All P (filter p xs) → All P (filter p ys)
  all-moved p P all = All-from_recursion P (filter p ys) (all-in P (filter p ys) (λ row at.
      let from = in-filter p row ys at in
      at-all P row (filter p xs) (recursion_from_All P (filter p xs) all) (filter-in p row xs from.0 (in-permutation row ys xs (IsPermutation-sym xs ys moved) from.1))))

  within-moved : (p : SourceRow → Bool) (most : Sums) → SumsWithin (filter p xs) most → SumsWithin (filter p ys) most
  within-moved p most within = record {
    hits = subst (λ n. n ≤ most.hits) (sum-moved p (λ row. row.sums.hits)) within.hits;
    bytes = subst (λ n. n ≤ most.bytes) (sum-moved p (λ row. row.sums.bytes)) within.bytes;
    micros = subst (λ n. n ≤ most.micros) (sum-moved p (λ row. row.sums.micros)) within.micros;
  }

  pub sound-moved : AreSound xs → AreSound ys
  sound-moved sound = record {
    different = IsDistinct-IsPermutation is_same_key key-laws.symm (map (λ row. row.key) xs) (map (λ row. row.key) ys) (IsPermutation-map (λ (row : SourceRow). row.key) xs ys moved) sound.different;
    hit = All-permutation (λ row. 1 ≤ row.sums.hits) xs ys moved sound.hit;
    dated = All-permutation (HasDay (day_rows ys)) xs ys moved
        (All-weaker (HasDay (day_rows xs)) (HasDay (day_rows ys)) (λ row has. sym (any-moved is-day (λ day. row.key.date == day.key.date)) ∙ has) xs sound.dated);
    layers = all-moved is-day (λ day. (layer : Layer) → SumsWithin (layer_rows layer day.key.date ys) day.sums)
        (All-weaker (λ day. (layer : Layer) → SumsWithin (layer_rows layer day.key.date xs) day.sums) (λ day. (layer : Layer) → SumsWithin (layer_rows layer day.key.date ys) day.sums)
        (λ day within layer. within-moved (λ row. (row.key.date == day.key.date) && in_layer layer row.key) day.sums (within layer)) (day_rows xs) sound.layers);
    visits = all-moved is-day (λ day. All (IsVisited day) ys)
        (All-weaker (λ day. All (IsVisited day) xs) (λ day. All (IsVisited day) ys) (λ day. All-permutation (IsVisited day) xs ys moved) (day_rows xs) sound.visits);
    fit = record {
      hits = subst (λ n. n ≤ LIMIT) (sum-moved is-day (λ row. row.sums.hits)) sound.fit.hits;
      visitors = subst (λ n. n ≤ LIMIT) (sum-moved is-day (λ row. row.visitors)) sound.fit.visitors;
      bytes = subst (λ n. n ≤ LIMIT) (sum-moved is-day (λ row. row.sums.bytes)) sound.fit.bytes;
      micros = subst (λ n. n ≤ LIMIT) (sum-moved is-day (λ row. row.sums.micros)) sound.fit.micros;
    };
  }
