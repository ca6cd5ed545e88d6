-- Rows of all keys, in the order of the keys, are those of the summary for which the tables stand.
use Rattle.std.proofs.Common.{◌≡◌, ℕ, suc, ◌<◌, Bool, true, false, ◌&&◌, ◌||◌, List, [], ◌∷◌, length, map, get_or, Option, Some, None, is_some, refl, sym, ap, ◌∙◌, subst, arith, eqb, cond}
use Rattle.std.specs.Prelude.{slice_get}
use Rattle.std.specs.Cmp.{both_ways}
use Rattle.std.specs.List.{Contains, IsDistinct, find, list_any}
use Rattle.std.specs.List.Sorted.{IsPermutation, IsSortedBy, IsStrictlySortedBy}
use Rattle.std.specs.Option.{option_map_or}
use Rattle.std.specs.Ordering.{is_eq, is_lt}
use Rattle.std.proofs.lemmas.Bool.{eqb-true, true≢false}
use Rattle.std.proofs.lemmas.Cmp.{tied_itself}
use Rattle.std.proofs.lemmas.List.{get_or-map, length-map, same_lists}
use Rattle.std.proofs.lemmas.List.Elements.{All-map}
use Rattle.std.proofs.lemmas.List.Sorted.{All-permutation, Contains-permutation, IsPermutation-map, IsPermutation-sym, list_any-IsPermutation}
use Rattle.std.proofs.lemmas.Map.Keys.{IsDistinct-IsPermutation}
use Rattle.std.proofs.lemmas.Map.Views.{Contains-from_any, list_any-from_Contains}
use Rattle.std.proofs.lemmas.Option.{get_or_from_slice_get, slice_get_within}
use Rattle.ga_base.specs.declared.key.Key.{Key}
use Rattle.ga_base.specs.declared.key.Visitor.{Visitor}
use Rattle.ga_base.specs.declared.name.Name.{Name}
use Rattle.ga_base.specs.Orders.{is_same_key, is_same_name, key_cmp, name_cmp, name_of}
use Rattle.ga_base.proofs.OrderLemmas.{key_cmp_total, name_cmp_exact, name_cmp_total}
use Rattle.ga_pool.specs.Steps.CountedRows.{IsRowOf, names_under}
use Rattle.ga_pool.proofs.Strictly.{map-same, rises}
use Rattle.ga_pool.proofs.Visits.{complete, distinct, sound}
use Rattle.ga_pool.proofs.AllPairs.{contains-map-back}
use Rattle.ga_pool.specs.Stands.{StandsFor}
use Rattle.ga_pool.specs.declared.counted.Counted.{Counted}
use Rattle.ga_summary.specs.SummaryParts.{row_of_part, value_of}
use Rattle.ga_summary.specs.SummaryRows.{IsInOrder, SummaryRow, SummaryValue, has_name, has_pair, names_at, no_sums, row_at, sums_at}
use Rattle.ga_summary.specs.Sound.{IsSummary}
use Rattle.ga_summary.specs.declared.summary_parts.PartRow.{PartRow}
use Rattle.ga_summary.proofs.NameLists.{any-find}
use Rattle.ga_summary.proofs.OneLine.{both_true}
use Rattle.ga_summary.proofs.Put.{equal_from_is_eq}
use Rattle.ga_summary.proofs.Unique.{same_rows}
use Rattle.ga_numbers.proofs.Same.{exact-laws, key-laws, same-key}

same-name : (a b : Name) → is_same_name a b ≡ true → a ≡ b
same-name a b e = name_cmp_exact a b (equal_from_is_eq _ e)

name-itself : (n : Name) → is_same_name n n ≡ true
name-itself n = ap is_eq (tied_itself name_cmp_total n)

any-map : {X Y : Type 0} (p : Y → Bool) (f : X → Y) (xs : List X) → list_any p (map f xs) ≡ list_any (λ x. p (f x)) xs
any-map p f [] = refl
any-map p f (x ∷ xs) = ap (λ (b : Bool). p (f x) || b) (any-map p f xs)

map-map : (xs : List PartRow) → map (λ (row : SummaryRow). row.key) (map row_of_part xs) ≡ map (λ (r : PartRow). r.key) xs
map-map [] = refl
map-map (x ∷ xs) = ap (λ (l : List Key). x.key ∷ l) (map-map xs)

-- what is found is there, and passes
found-more : {X : Type 0} (p : X → Bool) (x : X) (xs : List X) (y : X) (b : Bool) → p x ≡ b → (find p xs ≡ Some y → Contains xs y × (p y ≡ true)) → cond b (Some x) (find p xs) ≡ Some y → Contains (x ∷ xs) y × (p y ≡ true)
found-more p x xs y true e rest is = let same : x ≡ y = cc in ((0, omega arith, same), ap p (sym same) ∙ e)
found-more p x xs y false e rest is = let ((i, within, at), pass) = rest is in ((suc i, omega arith, at), pass)

found : {X : Type 0} (p : X → Bool) (xs : List X) (y : X) → find p xs ≡ Some y → Contains xs y × (p y ≡ true)
found p [] y e = absurd (cc e)
found p (x ∷ xs) y e = found-more p x xs y (p x) refl (found p xs y) e

none-there : (o : Option SummaryRow) → is_some o ≡ false → o ≡ None
none-there None e = refl
none-there (Some x) e = absurd (true≢false e)

module _ (c : Counted) (s : SummaryValue) (is : IsSummary s) (stands : StandsFor c s) (few : length c.visitors.items < 4294967296) (first rs : List PartRow) (many : length first ≡ length c.keys.items)
    (each : (k : ℕ) (d : PartRow) → k < length first → IsRowOf c k (row_of_part (get_or first k d))) (same : IsPermutation first rs)
    (sorted : IsSortedBy (λ (a : PartRow) (b : PartRow). is_lt (key_cmp a.key b.key)) rs) where
  keys-at : map (λ (r : PartRow). r.key) first ≡ c.keys.items
  keys-at = same_lists (map (λ (r : PartRow). r.key) first) c.keys.items (omega (arith, many, length-map first (λ (r : PartRow). r.key))) (λ k d lt. at first refl k d (omega (arith, lt, length-map first (λ (r : PartRow). r.key))))
    where
      at : (xs : List PartRow) → first ≡ xs → (k : ℕ) (d : Key) → k < length first → get_or (map (λ (r : PartRow). r.key) first) k d ≡ get_or c.keys.items k d
      at [] e k d lt = absurd (omega (arith, ap length e))
      at (x ∷ xs) e k d lt =
          get_or-map (λ (r : PartRow). r.key) first k x d lt ∙ sym (get_or_from_slice_get c.keys.items k (get_or first k x).key d (each k x lt).key)

  keys-distinct : IsDistinct is_same_key (map (λ (r : PartRow). r.key) rs)
  keys-distinct =
      IsDistinct-IsPermutation is_same_key key-laws.symm (map (λ (r : PartRow). r.key) first) (map (λ (r : PartRow). r.key) rs) (IsPermutation-map (λ (r : PartRow). r.key) first rs same)
      (subst (IsDistinct is_same_key) (sym keys-at) stands.different_keys)

  names-rise : (k : ℕ) (row : SummaryRow) → IsRowOf c k row → IsStrictlySortedBy name_cmp row.names
  names-rise k row of =
      let apart = IsDistinct-IsPermutation is_same_name (exact-laws is_same_name name-itself same-name).symm (names_under c.visitors.items k c.pairs) row.names of.names (distinct c s stands few k row.key of.key) in
      subst (IsStrictlySortedBy name_cmp) (map-same row.names)
      (rises name_cmp (λ (n : Name). n) name_cmp_total row.names of.sorted (subst (IsDistinct is_same_name) (sym (map-same row.names)) apart))

  ordered : IsInOrder (map row_of_part rs)
  ordered = record {
    keys = subst (IsStrictlySortedBy key_cmp) (sym (map-map rs)) (rises key_cmp (λ (r : PartRow). r.key) key_cmp_total rs sorted keys-distinct);
    names =
        All-map (λ (row : SummaryRow). IsStrictlySortedBy name_cmp row.names) row_of_part rs
        (All-permutation (λ (r : PartRow). IsStrictlySortedBy name_cmp r.names) first rs same (λ k d lt. names-rise k (row_of_part (get_or first k d)) (each k d lt)));
  }

  there : (key : Key) → is_some (row_at (map row_of_part rs) key) ≡ list_any (is_same_key key) c.keys.items
  there key =
      sym (any-find (λ (row : SummaryRow). is_same_key key row.key) (map row_of_part rs)) ∙ any-map (λ (row : SummaryRow). is_same_key key row.key) row_of_part rs
      ∙ sym (any-map (is_same_key key) (λ (r : PartRow). r.key) rs)
      ∙ sym (list_any-IsPermutation (is_same_key key) (map (λ (r : PartRow). r.key) first) (map (λ (r : PartRow). r.key) rs) (IsPermutation-map (λ (r : PartRow). r.key) first rs same))
      ∙ ap (list_any (is_same_key key)) keys-at

  -- the row of a key is that of its number
  row-found : (key : Key) (row : SummaryRow) → row_at (map row_of_part rs) key ≡ Some row → (k : ℕ) × (slice_get c.keys.items k ≡ Some key) × IsRowOf c k row
  row-found key row e =
      let (has, pass) = found (λ (r : SummaryRow). is_same_key key r.key) (map row_of_part rs) row e in
      let mine : key ≡ row.key = same-key key row.key pass in
      let (part, inside, made) = contains-map-back row_of_part rs row has in
      let (k, lt, at) = Contains-permutation rs first part (IsPermutation-sym first rs same) inside in
      let of : IsRowOf c k row = subst (IsRowOf c k) (ap row_of_part at ∙ made) (each k part lt) in
      (k, of.key ∙ ap Some (sym mine), of)

  sums-same : (key : Key) → sums_at (map row_of_part rs) key ≡ sums_at s.rows key
  sums-same key = by (row_at (map row_of_part rs) key) refl
    where
      by : (o : Option SummaryRow) → row_at (map row_of_part rs) key ≡ o → sums_at (map row_of_part rs) key ≡ sums_at s.rows key
      by None e =
          let none : row_at s.rows key ≡ None = none-there (row_at s.rows key) (sym (stands.keys key) ∙ sym (there key) ∙ ap is_some e) in
          ap (λ (o : Option SummaryRow). option_map_or (λ row. row.sums) o no_sums) (e ∙ sym none)
      by (Some row) e =
          let (k, at, of) = row-found key row e in
          ap (λ (o : Option SummaryRow). option_map_or (λ row. row.sums) o no_sums) e ∙ of.sums ∙ stands.sums k key at

  pair-sound : (key : Key) (visitor : Visitor) → has_pair (map row_of_part rs) key visitor ≡ true → has_pair s.rows key visitor ≡ true
  pair-sound key visitor pair = by (row_at (map row_of_part rs) key) refl
    where
      by : (o : Option SummaryRow) → row_at (map row_of_part rs) key ≡ o → has_pair s.rows key visitor ≡ true
      by None e = absurd (true≢false (sym (both_true _ _ pair).1 ∙ ap (λ (o : Option SummaryRow). has_name (option_map_or (λ row. row.names) o []) (name_of visitor)) e))
      by (Some row) e =
          let (k, at, of) = row-found key row e in
          let named : has_name row.names (name_of visitor) ≡ true = sym (ap (λ (o : Option SummaryRow). has_name (option_map_or (λ r. r.names) o []) (name_of visitor)) e) ∙ (both_true _ _ pair).1 in
          let has = Contains-from_any same-name (name_of visitor) row.names named in
          let (seen, name, visits) = sound c s stands few k key at (name_of visitor) (Contains-permutation row.names (names_under c.visitors.items k c.pairs) (name_of visitor) (IsPermutation-sym (names_under c.visitors.items k c.pairs) row.names of.names) has) in
          let date : seen.date ≡ visitor.date = eqb-true seen.date key.date (both_true _ _ visits).0 ∙ sym (eqb-true visitor.date key.date (both_true _ _ pair).0) in
          let one : seen ≡ visitor = λ i. record { host = (name i).host; date = date i; agent = (name i).agent } in
          subst (λ (v : Visitor). has_pair s.rows key v ≡ true) one visits

  pair-complete : (key : Key) (visitor : Visitor) → has_pair s.rows key visitor ≡ true → has_pair (map row_of_part rs) key visitor ≡ true
  pair-complete key visitor pair = by (row_at (map row_of_part rs) key) refl
    where
      known : list_any (is_same_key key) c.keys.items ≡ true
      known =
          let (k, v, at, person) = stands.visits key visitor pair in
          list_any-from_Contains key-laws key c.keys.items (k, slice_get_within c.keys.items k key at, get_or_from_slice_get c.keys.items k key key at)

      by : (o : Option SummaryRow) → row_at (map row_of_part rs) key ≡ o → has_pair (map row_of_part rs) key visitor ≡ true
      by None e = absurd (true≢false (sym known ∙ sym (there key) ∙ ap is_some e))
      by (Some row) e =
          let (k, at, of) = row-found key row e in
          let has = Contains-permutation (names_under c.visitors.items k c.pairs) row.names (name_of visitor) of.names (complete c s stands few k key at visitor pair) in
          let named : has_name row.names (name_of visitor) ≡ true = list_any-from_Contains (exact-laws is_same_name name-itself same-name) (name_of visitor) row.names has in
          let dated : eqb visitor.date key.date ≡ true = (both_true (eqb visitor.date key.date) (has_name (names_at s.rows key) (name_of visitor)) pair).0 in
          let here : has_name (names_at (map row_of_part rs) key) (name_of visitor) ≡ true = ap (λ (o : Option SummaryRow). has_name (option_map_or (λ (r : SummaryRow). r.names) o []) (name_of visitor)) e ∙ named in
          λ i. dated i && here i

  pub rows-are : map row_of_part rs ≡ s.rows
  rows-are =
      same_rows (map row_of_part rs) s.rows ordered is.ordered (λ key. there key ∙ stands.keys key) sums-same
      (λ key visitor. both_ways (has_pair (map row_of_part rs) key visitor) (has_pair s.rows key visitor) (pair-sound key visitor) (pair-complete key visitor))

  pub value-is : value_of (record { totals = c.totals; rows = rs }) ≡ s
  value-is = λ i. record { totals = stands.totals i; rows = rows-are i }
