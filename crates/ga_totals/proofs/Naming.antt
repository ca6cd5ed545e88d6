-- The names of the visitors in a row, from their ranks, which are sorted and each once.
use Rattle.std.proofs.Common.{◌≡◌, ℕ, ◌+◌, ◌<◌, List, eqb, get_or, length, map, sym, ap, ◌∙◌, subst, arith}
use Rattle.std.specs.List.{All, Contains, dedup}
use Rattle.std.specs.List.Sorted.{IsPermutation, IsSorted, IsStrictlySortedBy}
use Rattle.std.specs.Ordering.{nat_cmp}
use Rattle.std.proofs.lemmas.List.{get_or-map, length-map}
use Rattle.std.proofs.lemmas.List.Elements.{All-contains, All-contains_itself, All-get_or, All-weaker}
use Rattle.std.proofs.lemmas.List.Kept.{Contains-dedup_nat, Contains-from_dedup}
use Rattle.std.proofs.lemmas.List.Sorted.{Contains-permutation, IsPermutation-sym}
use Rattle.std.proofs.lemmas.Map.Keys.{IsStrictlyIncreasing-dedup, sorted_from_all_adjacent}
use Rattle.std.proofs.lemmas.Option.{get_or_from_slice_get, slice_get_within}
use Rattle.ga_base.specs.declared.key.Visitor.{Visitor}
use Rattle.ga_base.specs.declared.name.Name.{Name}
use Rattle.ga_base.specs.Orders.{name_cmp}
use Rattle.ga_base.proofs.OrderLemmas.{name_cmp_total}
use Rattle.ga_tallies.proofs.PairRows.{contains-map, from-map}
use Rattle.ga_totals.specs.Steps.Ranks.{AreRanks, name_ranked, names_at}
use Rattle.ga_totals.specs.Steps.KeyRows.{AreNamesOf, name_at}

module _ (visitors : List Visitor) (firsts ranks : List ℕ) (are : AreRanks visitors firsts ranks) where
  abbrev rank_at : ℕ → ℕ
  rank_at v = get_or ranks v 0

  -- a rank is a place in the names
  rank-within : (v : ℕ) → v < length visitors → rank_at v < length firsts
  rank-within v less = omega (arith, slice_get_within (names_at visitors firsts) (rank_at v) (name_at visitors v) (are.each v less), length-map firsts (name_at visitors))

  name-of-place : (r : ℕ) (d : Name) → r < length firsts → get_or (names_at visitors firsts) r d ≡ name_ranked visitors firsts r
  name-of-place r d less = get_or-map (name_at visitors) firsts r 0 d less

  -- the name of a visitor's rank is the visitor's
  name-of-rank : (v : ℕ) → v < length visitors → name_ranked visitors firsts (rank_at v) ≡ name_at visitors v
  name-of-rank v less =
      let name = name_at visitors v in
      sym (name-of-place (rank_at v) name (rank-within v less)) ∙ get_or_from_slice_get (names_at visitors firsts) (rank_at v) name name (are.each v less)

  module _ (row all sorted : List ℕ) (within : All (λ v. v < length visitors) row) (is : all ≡ map (λ v. rank_at v) row) (moved : IsPermutation all sorted) where
    abbrev left : List ℕ
    left = dedup eqb sorted

    visitor-of-rank : (r : ℕ) → Contains left r → (v : ℕ) × Contains row v × (rank_at v ≡ r)
    visitor-of-rank r at =
        let there : Contains all r = Contains-permutation sorted all r (IsPermutation-sym all sorted moved) (Contains-from_dedup eqb sorted r at) in
        from-map rank_at row r (subst (λ (l : List ℕ). Contains l r) is there)

    -- ranks of visitors are places in the names
    pub ranks-within : All (λ r. r < length firsts) left
    ranks-within =
        All-weaker (Contains left) (λ r. r < length firsts) (λ r at.
        let from = visitor-of-rank r at in
        subst (λ n. n < length firsts) from.2 (rank-within from.0 (All-contains (λ v. v < length visitors) row from.0 within from.1)))
        left (All-contains_itself left)

    rise : IsSorted nat_cmp sorted → IsStrictlySortedBy name_cmp (map (name_ranked visitors firsts) left)
    rise sort =
        let d = name_at visitors 0 in
        let g = name_ranked visitors firsts in
        sorted_from_all_adjacent name_cmp_total (map g left) d (λ k less.
        let long = length-map left g in
        let low : k < length left = omega (arith, long, less) in
        let high : k + 1 < length left = omega (arith, long, less) in
        let a = get_or left k 0 in
        let b = get_or left (k + 1) 0 in
        let up : a < b = IsStrictlyIncreasing-dedup sorted sort k high in
        let b-in : b < length firsts = All-get_or (λ r. r < length firsts) left (k + 1) 0 high ranks-within in
        let a-in : a < length firsts = omega arith in
        let b-there : b < length (names_at visitors firsts) = omega (arith, length-map firsts (name_at visitors), b-in) in
        let first = get_or-map g left k 0 d low ∙ sym (name-of-place a d a-in) in
        let next = get_or-map g left (k + 1) 0 d high ∙ sym (name-of-place b d b-in) in
        (λ i. name_cmp (first i) (next i)) ∙ are.rising a b d up b-there)

    pub names-are : IsSorted nat_cmp sorted → AreNamesOf visitors row (map (name_ranked visitors firsts) left)
    names-are sort = record {
      rising = rise sort;
      only = λ name at.
          let place = from-map (name_ranked visitors firsts) left name at in
          let from = visitor-of-rank place.0 place.1 in
          let less = All-contains (λ v. v < length visitors) row from.0 within from.1 in
          (from.0, from.1, sym (name-of-rank from.0 less) ∙ ap (name_ranked visitors firsts) from.2 ∙ place.2);
      all = λ v at.
          let less = All-contains (λ v. v < length visitors) row v within at in
          let there : Contains all (rank_at v) = subst (λ (l : List ℕ). Contains l (rank_at v)) (sym is) (contains-map rank_at row v at) in
          let here = Contains-dedup_nat sorted (rank_at v) (Contains-permutation all sorted (rank_at v) moved there) in
          subst (Contains (map (name_ranked visitors firsts) left)) (name-of-rank v less) (contains-map (name_ranked visitors firsts) left (rank_at v) here);
    }
