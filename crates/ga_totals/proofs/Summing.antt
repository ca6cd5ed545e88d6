-- The rows that were made of a tally are the sum of its outcomes.
use Rattle.std.proofs.Common.{◌≡◌, ℕ, ◌==◌, ◌&&◌, ◌||◌, Bool, true, false, List, [], ◌∷◌, Option, Some, None, is_some, nat_lt, map, refl, sym, ap, ◌∙◌, subst, arith, eq-eqb}
use Rattle.std.specs.Prelude.{slice_get}
use Rattle.std.specs.Cmp.{both_ways}
use Rattle.std.specs.Option.{option_map_or, option_map}
use Rattle.std.specs.List.{Contains, list_any}
use Rattle.std.specs.List.Sorted.{IsStrictlySortedBy}
use Rattle.std.proofs.lemmas.Bool.{and_from, and_parts, eqb-true, false≢true, ltb-false, true≢false}
use Rattle.std.proofs.lemmas.Cmp.{tied_itself}
use Rattle.std.proofs.lemmas.List.Elements.{All-weaker}
use Rattle.std.proofs.lemmas.List.Folds.{Any-from_list_any, list_any_at}
use Rattle.std.proofs.lemmas.List.Sorted.{list_any-IsPermutation}
use Rattle.std.proofs.lemmas.Map.Keys.{any_passes_from_place}
use Rattle.std.proofs.lemmas.Option.{get_or_from_slice_get, same_Some, slice_get-map}
use Rattle.ga_base.specs.declared.counts.Sums.{Sums}
use Rattle.ga_base.specs.declared.key.Key.{Key}
use Rattle.ga_base.specs.declared.key.Visitor.{Visitor}
use Rattle.ga_base.specs.declared.name.Name.{Name}
use Rattle.ga_base.specs.Orders.{is_same_key, is_same_name, key_cmp, name_cmp, name_of}
use Rattle.ga_base.proofs.OrderLemmas.{key_cmp_total, name_cmp_exact, name_cmp_total}
use Rattle.std.specs.Ordering.{is_eq}
use Rattle.ga_summary.specs.Outcomes.{Outcome, sums_of, has_visit}
use Rattle.ga_summary.specs.SummaryRows.{IsInOrder, SummaryRow, has_name, has_pair, no_sums, row_at, sums_at}
use Rattle.ga_summary.specs.Sound.{AllCountable, IsSummary}
use Rattle.ga_base.specs.Totals.{TotalsFit}
use Rattle.ga_summary.specs.Sums.{IsSumOf}
use Rattle.ga_summary.proofs.Merging.{all-row_at}
use Rattle.ga_summary.proofs.NameLists.{any-find}
use Rattle.ga_summary.proofs.Put.{equal_from_is_eq}
use Rattle.ga_summary.proofs.SoundSums.{IsSound-sum}
use Rattle.ga_summary.proofs.Unique.{find_is}
use Rattle.ga_tallies.specs.Tallies.{IsTallyOf, TallySeen}
use Rattle.ga_tallies.proofs.OneKey.{sums-none}
use Rattle.ga_numbers.proofs.Same.{key-itself, same-key, same-visitor}
use Rattle.ga_totals.specs.Steps.KeyRows.{AreRowsOf, name_at}
use Rattle.ga_totals.proofs.Dates.{visit-dated}
use Rattle.ga_totals.proofs.KeyOrder.{keys-rise, one-place}
use Rattle.ga_totals.proofs.KeyRows.{IsSomeRow}

no-hits : (n : ℕ) → nat_lt 0 n ≡ false → n ≡ 0
no-hits n e = omega (arith, ltb-false 0 n e)

any-map : {A B : Type 0} (f : A → B) (p : B → Bool) (xs : List A) → list_any (λ x. p (f x)) xs ≡ list_any p (map f xs)
any-map f p [] = refl
any-map f p (x ∷ xs) = ap (λ b. p (f x) || b) (any-map f p xs)

-- a name is among names where it is one of them
pub named : (names : List Name) (name : Name) → Contains names name → has_name names name ≡ true
named names name (k, lt, e) = list_any_at (is_same_name name) names k name lt (ap (is_same_name name) e ∙ ap is_eq (tied_itself name_cmp_total name))

pub from-named : (names : List Name) (name : Name) → has_name names name ≡ true → Contains names name
from-named names name has =
    let found = Any-from_list_any (is_same_name name) names has in
    subst (Contains names) (sym (name_cmp_exact name found.1 (equal_from_is_eq _ found.4))) (found.0, found.2, found.3)

pub same-one : (a b : Visitor) → a.date ≡ b.date → name_of a ≡ name_of b → a ≡ b
same-one a b date name = λ i. record { host = (name i).host; date = date i; agent = (name i).agent }

-- the name at a number is that of the visitor who has it
pub name-there : (visitors : List Visitor) (v : ℕ) (visitor : Visitor) → slice_get visitors v ≡ Some visitor → name_at visitors v ≡ name_of visitor
name-there visitors v visitor at = ap (λ (w : Visitor). name_of w) (get_or_from_slice_get visitors v visitor _ at)

module _ (outcomes : List Outcome) (t : TallySeen) (rows : List SummaryRow) (is : IsTallyOf outcomes t) (can : AllCountable outcomes) (are : AreRowsOf t.keys t.sums t.visitors t.pairs rows) where
  ordered : IsInOrder rows
  ordered = record {
    keys = subst (IsStrictlySortedBy key_cmp) (sym are.keys_are) (keys-rise t.keys are.order is.different_keys are.by_key);
    names = All-weaker (IsSomeRow t.keys t.sums t.visitors t.pairs) (λ (row : SummaryRow). IsStrictlySortedBy name_cmp row.names) (λ row some. some.2.rising) rows are.each;
  }

  any-key : (key : Key) → is_some (row_at rows key) ≡ list_any (is_same_key key) t.keys
  any-key key =
      sym (any-find (λ (row : SummaryRow). is_same_key key row.key) rows)
      ∙ any-map (λ (row : SummaryRow). row.key) (is_same_key key) rows
      ∙ ap (list_any (is_same_key key)) are.keys_are
      ∙ sym (list_any-IsPermutation (is_same_key key) t.keys (map (λ n. n.key) are.order) are.by_key.same)

  -- what a row that is found says
  record Found (key : Key) (row : SummaryRow) : Type 0 where
    number : ℕ
    stands : slice_get t.keys number ≡ Some key
    sums_are : row.sums ≡ sums_of key outcomes
    only : (name : Name) → Contains row.names name → (v : ℕ) × Contains t.pairs (number, v) × (name_at t.visitors v ≡ name)
    all : (v : ℕ) → Contains t.pairs (number, v) → Contains row.names (name_at t.visitors v)

  found : (key : Key) (row : SummaryRow) → row_at rows key ≡ Some row → Found key row
  found key row at =
      let some = all-row_at (IsSomeRow t.keys t.sums t.visitors t.pairs) rows key row are.each at in
      let n = some.0 in
      let own : n.key ≡ key = sym (some.2.key_is) ∙ sym (same-key key row.key (ap is_eq (find_is key_cmp key_cmp_total (λ (r : SummaryRow). r.key) key rows row at))) in
      let stands : slice_get t.keys n.number ≡ Some key = some.1 ∙ ap Some own in
      let sums : Some row.sums ≡ Some (sums_of key outcomes) =
      sym some.2.sums_are ∙ ap (λ (l : List Sums). slice_get l n.number) is.sums ∙ slice_get-map (λ (k : Key). sums_of k outcomes) t.keys n.number
      ∙ ap (option_map (λ (k : Key). sums_of k outcomes)) stands in
      record { number = n.number; stands = stands; sums_are = same_Some row.sums (sums_of key outcomes) sums; only = some.2.only; all = some.2.all }

  sums : (key : Key) → sums_at rows key ≡ sums_of key outcomes
  sums key = go (row_at rows key) refl
    where
      go : (o : Option SummaryRow) → row_at rows key ≡ o → option_map_or (λ (row : SummaryRow). row.sums) o no_sums ≡ sums_of key outcomes
      go (Some row) at = (found key row at).sums_are
      go None at = sym (sums-none key outcomes (no-hits _ (sym (any-key key ∙ is.counted key) ∙ ap is_some at)))

  -- the visitor of a pair of a key's number, by name
  visitor-of : (key : Key) (number v : ℕ) (name : Name) → slice_get t.keys number ≡ Some key → Contains t.pairs (number, v) → name_at t.visitors v ≡ name
      → (w : Visitor) × (name_of w ≡ name) × (has_visit key w outcomes ≡ true)
  visitor-of key number v name stands at called =
      let p = is.pairs number v at in
      let own : p.0 ≡ key = same_Some p.0 key (sym p.2 ∙ stands) in
      (p.1, sym (name-there t.visitors v p.1 p.3) ∙ called, subst (λ (k : Key). has_visit k p.1 outcomes ≡ true) own p.4)

  pairs : (key : Key) (visitor : Visitor) → has_pair rows key visitor ≡ has_visit key visitor outcomes
  pairs key visitor = go (row_at rows key) refl
    where
      go : (o : Option SummaryRow) → row_at rows key ≡ o → ((visitor.date == key.date) && has_name (option_map_or (λ (row : SummaryRow). row.names) o []) (name_of visitor)) ≡ has_visit key visitor outcomes
      go None at = both_ways ((visitor.date == key.date) && false) (has_visit key visitor outcomes)
          (λ e. absurd (false≢true (and_parts (visitor.date == key.date) false e).1))
          (λ has.
          let p = is.visits key visitor has in
          let there : list_any (is_same_key key) t.keys ≡ true = any_passes_from_place (is_same_key key) t.keys p.0 p.2 p.4 p.5 in
          absurd (true≢false (sym there ∙ sym (any-key key) ∙ ap is_some at)))
      go (Some row) at = both_ways ((visitor.date == key.date) && has_name row.names (name_of visitor)) (has_visit key visitor outcomes) to from
        where
          f : Found key row
          f = found key row at

          to : ((visitor.date == key.date) && has_name row.names (name_of visitor)) ≡ true → has_visit key visitor outcomes ≡ true
          to e =
              let parts = and_parts (visitor.date == key.date) (has_name row.names (name_of visitor)) e in
              let date : visitor.date ≡ key.date = eqb-true visitor.date key.date parts.0 in
              let o = f.only (name_of visitor) (from-named row.names (name_of visitor) parts.1) in
              let w = visitor-of key f.number o.0 (name_of visitor) f.stands o.1 o.2 in
              let same : w.0 ≡ visitor = same-one w.0 visitor (visit-dated key w.0 outcomes can w.2 ∙ sym date) w.1 in
              subst (λ (u : Visitor). has_visit key u outcomes ≡ true) same w.2

          from : has_visit key visitor outcomes ≡ true → ((visitor.date == key.date) && has_name row.names (name_of visitor)) ≡ true
          from has =
              let p = is.visits key visitor has in
              let known : p.2 ≡ key = sym (same-key key p.2 p.5) in
              let seen : p.3 ≡ visitor = sym (same-visitor visitor p.3 p.7) in
              let number : p.0 ≡ f.number = one-place is_same_key key-itself t.keys p.0 f.number key is.different_keys (p.4 ∙ ap Some known) f.stands in
              let name : name_at t.visitors p.1 ≡ name_of visitor = name-there t.visitors p.1 visitor (p.6 ∙ ap Some seen) in
              let listed : Contains row.names (name_of visitor) = subst (Contains row.names) name (f.all p.1 (subst (λ (k : ℕ). Contains t.pairs (k, p.1)) number p.8)) in
              and_from (visitor.date == key.date) (has_name row.names (name_of visitor)) (eq-eqb _ _ (visit-dated key visitor outcomes can has)) (named row.names (name_of visitor) listed)

  pub are-sum : IsSumOf outcomes (record { totals = t.totals; rows = rows })
  are-sum = record {
    totals = is.totals;
    sums = sums;
    pairs = pairs;
    present = λ key. any-key key ∙ is.counted key;
    ordered = ordered;
  }

  pub are-summary : TotalsFit t.totals → IsSummary (record { totals = t.totals; rows = rows })
  are-summary fit = record {
    ordered = ordered;
    sound = IsSound-sum outcomes (record { totals = t.totals; rows = rows }) can (subst TotalsFit is.totals fit) are-sum;
  }
