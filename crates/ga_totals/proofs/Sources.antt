-- The rows of keys by their numbers are those of a summary.
use Rattle.std.proofs.Common.{◌≡◌, ℕ, zero, suc, ◌<◌, ◌==◌, ◌||◌, Bool, true, false, cond, eqb, List, [], ◌∷◌, Some, length, map, filter, refl, sym, ap, ◌∙◌, subst, arith, eq-eqb}
use Rattle.std.specs.Prelude.{slice_get, slice_index_or}
use Rattle.std.specs.Cmp.{both_ways}
use Rattle.std.specs.List.{AllByRecursion, Contains, list_any}
use Rattle.std.specs.List.Sorted.{IsPermutation, IsStrictlySortedBy}
use Rattle.std.specs.Ordering.{is_eq}
use Rattle.std.specs.Set.{distinct_count, unique_keys}
use Rattle.std.proofs.lemmas.Bool.{eqb-true}
use Rattle.std.proofs.lemmas.Cmp.{eq_by_cmp_equiv, tied_itself}
use Rattle.std.proofs.lemmas.List.Elements.{All-contains, All-contains_itself, All-filter, All-from_recursion, filter_passes, recursion_from_All}
use Rattle.std.proofs.lemmas.List.Sorted.{IsPermutation-map, IsPermutation-sym}
use Rattle.std.proofs.lemmas.Map.Keys.{IsDistinct-from_sorted}
use Rattle.std.proofs.lemmas.Map.Made.{length-from_keys}
use Rattle.std.proofs.lemmas.Option.{same_Some, slice_get-get_or, slice_get_within}
use Rattle.std.proofs.lemmas.Simd.{map-map}
use Rattle.ga_base.specs.declared.key.Key.{Key}
use Rattle.ga_base.specs.declared.name.Name.{Name}
use Rattle.ga_base.specs.Orders.{is_same_name, is_same_visitor, name_cmp, name_of}
use Rattle.ga_base.proofs.OrderLemmas.{name_cmp_exact, name_cmp_total}
use Rattle.ga_report.specs.OfSummary.{source_row, source_value}
use Rattle.ga_report.specs.Source.{SourceRow}
use Rattle.ga_report.proofs.OfSummaries.{source-sound}
use Rattle.ga_summary.specs.Outcomes.{Outcome}
use Rattle.ga_summary.specs.SummaryRows.{SummaryRow, has_name, no_sums}
use Rattle.ga_summary.specs.Sound.{AllCountable}
use Rattle.ga_base.specs.Totals.{TotalsFit}
use Rattle.ga_summary.specs.Steps.Joined.{put_name}
use Rattle.ga_summary.proofs.Merging.{has_name-put_names}
use Rattle.ga_summary.proofs.NameLists.{rising_put_name}
use Rattle.ga_summary.proofs.Put.{equal_from_is_eq}
use Rattle.ga_tallies.specs.Tallies.{IsTallyOf, TallySeen}
use Rattle.ga_tallies.proofs.PairRows.{contains-map, from-map}
use Rattle.ga_numbers.proofs.Same.{visitor-itself}
use Rattle.ga_totals.specs.Steps.KeyRows.{AreByKey, AreRowsOf, IsRowOf, NumberedKey, name_at}
use Rattle.ga_totals.specs.Steps.Sources.{AreVisits, CanBeSource, source_rows, visitors_of}
use Rattle.ga_totals.specs.Totals.{IsSourceOfSum}
use Rattle.ga_totals.proofs.AnyOrder.{sound-moved}
use Rattle.ga_totals.proofs.Dates.{visit-dated}
use Rattle.ga_totals.proofs.KeyOrder.{one-place}
use Rattle.ga_totals.proofs.KeyRows.{IsSomeRow}
use Rattle.ga_totals.proofs.Numbering.{are-by-key, by-key, by-key-same, numbered, numbers-stand}
use Rattle.ga_totals.proofs.OfOutcomes.{as-many}
use Rattle.ga_totals.proofs.SourceRows.{source_at, source-by-number}
use Rattle.ga_totals.proofs.Summing.{are-sum, are-summary, from-named, name-there, named, same-one}

-- one place further on
later : {X : Type 0} (y : X) (xs : List X) (x : X) → Contains xs x → Contains (y ∷ xs) x
later y xs x (k, lt, e) = (suc k, omega (arith, lt), e)

Contains-from_filter : {X : Type 0} (p : X → Bool) (xs : List X) (x : X) → Contains (filter p xs) x → Contains xs x
Contains-from_filter p xs x at = All-contains (Contains xs) (filter p xs) x (All-filter p (Contains xs) xs (All-contains_itself xs)) at

passes : {X : Type 0} (p : X → Bool) (xs : List X) (x : X) → Contains (filter p xs) x → p x ≡ true
passes p xs x at = All-contains (λ y. p y ≡ true) (filter p xs) x (filter_passes p xs) at

Contains-filter : {X : Type 0} (p : X → Bool) (xs : List X) (x : X) → p x ≡ true → Contains xs x → Contains (filter p xs) x
Contains-filter p [] x pass at = at
Contains-filter p (y ∷ xs) x pass (zero, lt, e) =
    let here : p y ≡ true = ap p e ∙ pass in
    rw here (0, omega arith, e)
Contains-filter p (y ∷ xs) x pass (suc k, lt, e) =
    let rest : Contains (filter p xs) x = Contains-filter p xs x pass (k, omega (arith, lt), e) in
    elim (p y) as (λ b. Contains (cond b (y ∷ filter p xs) (filter p xs)) x) [ true ↦ later y (filter p xs) x rest | false ↦ rest ]

-- names in their order, each once
abbrev in-order : List Name → List Name
in-order [] = []
in-order (name ∷ names) = put_name name (in-order names)

none-rise : IsStrictlySortedBy name_cmp []
unfolding IsStrictlySortedBy
none-rise = tt

one-rises : (name : Name) → IsStrictlySortedBy name_cmp (name ∷ [])
unfolding IsStrictlySortedBy
one-rises name = (tt, tt)

rise : (names : List Name) → IsStrictlySortedBy name_cmp (in-order names)
rise [] = none-rise
rise (name ∷ names) = rising_put_name (in-order names) (rise names) name

has-same : (names : List Name) (name : Name) → has_name (in-order names) name ≡ has_name names name
has-same [] name = refl
has-same (first ∷ names) name =
    has_name-put_names (first ∷ []) (in-order names) name (one-rises first) (rise names)
    ∙ turned (is_same_name name first) (has_name (in-order names) name) ∙ ap (λ b. is_same_name name first || b) (has-same names name)
  where
    turned : (a b : Bool) → (b || (a || false)) ≡ (a || b)
    turned true true = refl
    turned true false = refl
    turned false true = refl
    turned false false = refl

-- a map that keeps apart what is in a list keeps the number of different ones
module _ {A B : Type 0} (eq : A → A → Bool) (like : B → B → Bool) (f : A → B) where
  any-alike : (x : A) (ys : List A) → ((y : A) → Contains ys y → like (f x) (f y) ≡ eq x y) → list_any (like (f x)) (map f ys) ≡ list_any (eq x) ys
  any-alike x [] same = refl
  any-alike x (y ∷ ys) same = λ i. same y (0, omega arith, refl) i || any-alike x ys (λ z at. same z (later y ys z at)) i

  count-alike : (xs : List A) → ((x y : A) → Contains xs x → Contains xs y → like (f x) (f y) ≡ eq x y) → distinct_count like (map f xs) ≡ distinct_count eq xs
  count-alike [] same = refl
  count-alike (x ∷ xs) same =
      let rest = count-alike xs (λ y z at there. same y z (later x xs y at) (later x xs z there)) in
      let first = any-alike x xs (λ y at. same x y (0, omega arith, refl) (later x xs y at)) in
      ap (λ b. length (cond b (unique_keys like (map f xs)) (f x ∷ unique_keys like (map f xs)))) first
      ∙ elim (list_any (eq x) xs) as (λ b. length (cond b (unique_keys like (map f xs)) (f x ∷ unique_keys like (map f xs))) ≡ length (cond b (unique_keys eq xs) (x ∷ unique_keys eq xs))) [
        | true ↦ rest
        | false ↦ ap suc rest
      ]

-- the visitors of a key's number are those of its pairs
from-visitors : (number v : ℕ) (pairs : List (ℕ × ℕ)) → Contains (visitors_of number pairs) v → Contains pairs (number, v)
from-visitors number v pairs at =
    let from = from-map (λ (pair : ℕ × ℕ). pair.1) (filter (λ pair. pair.0 == number) pairs) v at in
    let pair = from.0 in
    let own : pair.0 ≡ number = eqb-true pair.0 number (passes (λ (p : ℕ × ℕ). p.0 == number) pairs pair from.1) in
    let same : pair ≡ (number, v) = λ i. (own i, from.2 i) in
    subst (Contains pairs) same (Contains-from_filter (λ (p : ℕ × ℕ). p.0 == number) pairs pair from.1)

to-visitors : (number v : ℕ) (pairs : List (ℕ × ℕ)) → Contains pairs (number, v) → Contains (visitors_of number pairs) v
to-visitors number v pairs at =
    contains-map (λ (pair : ℕ × ℕ). pair.1) (filter (λ pair. pair.0 == number) pairs) (number, v) (Contains-filter (λ (p : ℕ × ℕ). p.0 == number) pairs (number, v) (eq-eqb number number refl) at)

module _ (outcomes : List Outcome) (t : TallySeen) (is : IsTallyOf outcomes t) (can : AllCountable outcomes) where
  -- the names of a key's number
  abbrev names-of : ℕ → List Name
  names-of number = map (name_at t.visitors) (visitors_of number t.pairs)

  abbrev row-of : NumberedKey → SummaryRow
  row-of n = record { key = n.key; sums = slice_index_or t.sums n.number no_sums; names = in-order (names-of n.number) }

  abbrev Stands : NumberedKey → Type 0
  Stands n = slice_get t.keys n.number ≡ Some n.key

  is-row : (n : NumberedKey) → Stands n → IsRowOf n t.sums t.visitors t.pairs (row-of n)
  is-row n stands = record {
    key_is = refl;
    sums_are = slice_get-get_or t.sums n.number no_sums (subst (λ k. n.number < k) (sym (as-many outcomes t is)) (slice_get_within t.keys n.number n.key stands));
    rising = rise (names-of n.number);
    only = λ name there.
        let has = sym (has-same (names-of n.number) name) ∙ named (in-order (names-of n.number)) name there in
        let from = from-map (name_at t.visitors) (visitors_of n.number t.pairs) name (from-named (names-of n.number) name has) in
        (from.0, from-visitors n.number from.0 t.pairs from.1, from.2);
    all = λ v there.
        let at = contains-map (name_at t.visitors) (visitors_of n.number t.pairs) v (to-visitors n.number v t.pairs there) in
        from-named (in-order (names-of n.number)) (name_at t.visitors v) (has-same (names-of n.number) (name_at t.visitors v) ∙ named (names-of n.number) (name_at t.visitors v) at);
  }

  -- a key's different visitors have different names, since they are of one day
  names-apart : (n : NumberedKey) → Stands n → (v w : ℕ) → Contains t.pairs (n.number, v) → Contains t.pairs (n.number, w) → is_same_name (name_at t.visitors v) (name_at t.visitors w) ≡ eqb v w
  names-apart n stands v w at there = both_ways (is_same_name (name_at t.visitors v) (name_at t.visitors w)) (eqb v w) to from
    where
      to : is_same_name (name_at t.visitors v) (name_at t.visitors w) ≡ true → eqb v w ≡ true
      to e =
          let p = is.pairs n.number v at in
          let q = is.pairs n.number w there in
          let key : p.0 ≡ q.0 = same_Some p.0 q.0 (sym p.2 ∙ q.2) in
          let date : p.1.date ≡ q.1.date = visit-dated p.0 p.1 outcomes can p.4 ∙ ap (λ (k : Key). k.date) key ∙ sym (visit-dated q.0 q.1 outcomes can q.4) in
          let name : name_of p.1 ≡ name_of q.1 = sym (name-there t.visitors v p.1 p.3) ∙ name_cmp_exact _ _ (equal_from_is_eq _ e) ∙ name-there t.visitors w q.1 q.3 in
          let one : p.1 ≡ q.1 = same-one p.1 q.1 date name in
          eq-eqb v w (one-place is_same_visitor visitor-itself t.visitors v w q.1 is.different_visitors (p.3 ∙ ap Some one) q.3)

      from : eqb v w ≡ true → is_same_name (name_at t.visitors v) (name_at t.visitors w) ≡ true
      from e = ap (λ u. is_same_name (name_at t.visitors v) (name_at t.visitors u)) (sym (eqb-true v w e)) ∙ ap is_eq (tied_itself name_cmp_total (name_at t.visitors v))

  as-many-names : (n : NumberedKey) → Stands n → length (in-order (names-of n.number)) ≡ distinct_count eqb (visitors_of n.number t.pairs)
  as-many-names n stands =
      length-from_keys (eq_by_cmp_equiv name_cmp_total) (in-order (names-of n.number)) (names-of n.number) (IsDistinct-from_sorted name_cmp _ (rise (names-of n.number))) (has-same (names-of n.number))
      ∙ count-alike eqb is_same_name (name_at t.visitors) (visitors_of n.number t.pairs)
      (λ v w at there. names-apart n stands v w (from-visitors n.number v t.pairs at) (from-visitors n.number w t.pairs there))

  rows-have : (ns : List NumberedKey) → AllByRecursion Stands ns → AllByRecursion (IsSomeRow t.keys t.sums t.visitors t.pairs) (map row-of ns)
  rows-have [] all = tt
  rows-have (n ∷ ns) all = ((n, all.0, is-row n all.0), rows-have ns all.1)

  are-rows : (order : List NumberedKey) → AreByKey t.keys order → AreRowsOf t.keys t.sums t.visitors t.pairs (map row-of order)
  are-rows order by_key = record {
    order = order;
    by_key = by_key;
    keys_are = map-map (λ (row : SummaryRow). row.key) row-of order;
    each = All-from_recursion (IsSomeRow t.keys t.sums t.visitors t.pairs) (map row-of order) (rows-have order (recursion_from_All Stands order by_key.numbers));
  }

  module _ (visits : List ℕ) (are_visits : AreVisits (length t.keys) t.pairs visits) where
    same-row : (n : NumberedKey) → Stands n → source_at t.sums visits n ≡ source_row (row-of n)
    same-row n stands =
        let visitors = are_visits.each n.number (slice_get_within t.keys n.number n.key stands) ∙ sym (as-many-names n stands) in
        λ i. record { key = n.key; sums = slice_index_or t.sums n.number no_sums; visitors = visitors i }

    same-rows : (ns : List NumberedKey) → AllByRecursion Stands ns → map (source_at t.sums visits) ns ≡ map source_row (map row-of ns)
    same-rows [] all = refl
    same-rows (n ∷ ns) all = λ i. same-row n all.0 i ∷ same-rows ns all.1 i

    -- the rows are those of a summary of the outcomes, in the order of the keys' numbers
    pub tells-sum : TotalsFit t.totals → IsSourceOfSum outcomes (record { totals = t.totals; rows = source_rows t.keys t.sums visits })
    tells-sum fit =
        let order = by-key t.keys in
        let rows = map row-of order in
        let have = are-rows order (are-by-key t.keys) in
        let source : source_rows t.keys t.sums visits ≡ map source_row (map row-of (numbered t.keys)) =
        source-by-number t.keys t.sums visits (as-many outcomes t is) are_visits.many ∙ same-rows (numbered t.keys) (recursion_from_All Stands (numbered t.keys) (numbers-stand t.keys)) in
        record {
          sum = record { totals = t.totals; rows = rows };
          is_sum = are-sum outcomes t rows is can have;
          is_summary = are-summary outcomes t rows is can have fit;
          same = record {
            totals = refl;
            rows = subst (λ (l : List SourceRow). IsPermutation l (map source_row rows)) (sym source)
                (IsPermutation-map source_row (map row-of (numbered t.keys)) rows (IsPermutation-map row-of (numbered t.keys) order (by-key-same t.keys)));
          };
        }

    pub can-tell : TotalsFit t.totals → CanBeSource t.keys t.sums visits
    can-tell fit =
        let tells = tells-sum fit in
        record {
          summed = as-many outcomes t is;
          visited = are_visits.many;
          sound = sound-moved (source_value tells.sum).rows _ (IsPermutation-sym _ _ tells.same.rows) (source-sound tells.sum tells.is_summary);
        }
