-- The row of a key, made of its sums and of the names of its visitors.
use Rattle.std.proofs.Common.{◌≡◌, ℕ, zero, suc, ◌+◌, ◌<◌, ◌≤◌, List, [], ◌∷◌, ◌++◌, Some, length, get_or, map, take, sym, ap, ◌∙◌, subst, arith}
use Rattle.std.specs.Prelude.{slice_get}
use Rattle.std.specs.List.{All}
use Rattle.std.proofs.lemmas.List.{map_more, map_push, take_all}
use Rattle.std.proofs.lemmas.List.Elements.{All-head, All-push, All-tail}
use Rattle.ga_base.specs.declared.counts.Sums.{Sums}
use Rattle.ga_base.specs.declared.key.Key.{Key}
use Rattle.ga_base.specs.declared.key.Visitor.{Visitor}
use Rattle.ga_summary.specs.SummaryParts.{row_of_part, rows_in}
use Rattle.ga_summary.specs.SummaryRows.{SummaryRow}
use Rattle.ga_summary.specs.declared.summary_parts.PartRow.{PartRow}
use Rattle.ga_tallies.specs.Tallies.{pairs_in}
use Rattle.ga_tallies.proofs.PairRows.{pair-of-row, row-of-pair}
use Rattle.ga_totals.specs.Steps.KeyRows.{AreByKey, AreNamesOf, AreRowsOf, AreWithin, IsRowOf, NumberedKey, visitors_at}

pub same_key : (a b : Key) → (a.panel ≡ b.panel) × ((a.date ≡ b.date) × ((a.parent ≡ b.parent) × ((a.label ≡ b.label) × ((a.method ≡ b.method) × (a.protocol ≡ b.protocol))))) → a ≡ b
same_key a b (panel, (date, (parent, (label, (method, protocol))))) =
    λ i. record { panel = panel i; date = date i; parent = parent i; label = label i; method = method i; protocol = protocol i }

-- what holds of each row holds of that of a key, of which there may be none
pub within-at : (visitors : ℕ) (rows : List (List ℕ)) (number : ℕ) → AreWithin visitors rows → All (λ v. v < visitors) (visitors_at rows number)
within-at visitors [] number within = λ k d less. absurd (omega arith)
within-at visitors (row ∷ rows) zero within = All-head (All (λ v. v < visitors)) row rows within
within-at visitors (row ∷ rows) (suc number) within = within-at visitors rows number (All-tail (All (λ v. v < visitors)) row rows within)

-- a key's row is made of its sums and of the names in the row of its number
pub row-is : (entry : NumberedKey) (sums : List Sums) (visitors : List Visitor) (visits : List (List ℕ)) (row : SummaryRow) → row.key ≡ entry.key
    → slice_get sums entry.number ≡ Some row.sums → AreNamesOf visitors (visitors_at visits entry.number) row.names → IsRowOf entry sums visitors (pairs_in visits) row
row-is entry sums visitors visits row key at names = record {
  key_is = key;
  sums_are = at;
  rising = names.rising;
  only = λ name there. let from = names.only name there in (from.0, pair-of-row visits entry.number from.0 from.1, from.2);
  all = λ v there. names.all v (row-of-pair visits entry.number v there);
}

module _ (keys : List Key) (sums : List Sums) (visitors : List Visitor) (pairs : List (ℕ × ℕ)) where
  abbrev pub IsSomeRow : SummaryRow → Type 0
  IsSomeRow row = (n : NumberedKey) × (slice_get keys n.number ≡ Some n.key) × IsRowOf n sums visitors pairs row

  -- the first of the keys have their rows
  pub record HaveRows (order : List NumberedKey) (i : ℕ) (rows : List PartRow) : Type 0 where
    pub keys_are : map (λ row. row.key) (rows_in rows) ≡ map (λ n. n.key) (take i order)
    pub each : All IsSomeRow (rows_in rows)

  pub rows-more : (order : List NumberedKey) (i : ℕ) (rows : List PartRow) (n : NumberedKey) (part : PartRow) → i < length order → n ≡ get_or order i n
      → slice_get keys n.number ≡ Some n.key → IsRowOf n sums visitors pairs (row_of_part part) → HaveRows order i rows → HaveRows order (i + 1) (rows ++ part ∷ [])
  rows-more order i rows n part within at stands is so_far = record {
    keys_are =
        ap (map (λ (row : SummaryRow). row.key)) more ∙ map_push (λ (row : SummaryRow). row.key) (rows_in rows) (row_of_part part)
        ∙ (λ j. so_far.keys_are j ++ is.key_is j ∷ []) ∙ ap (λ (k : NumberedKey). map (λ (m : NumberedKey). m.key) (take i order) ++ k.key ∷ []) at
        ∙ sym (map_more (λ (m : NumberedKey). m.key) order i n within);
    each = subst (All IsSomeRow) (sym more) (All-push IsSomeRow (rows_in rows) (row_of_part part) so_far.each (n, stands, is));
  }
    where
      more : rows_in (rows ++ part ∷ []) ≡ rows_in rows ++ row_of_part part ∷ []
      more = map_push row_of_part rows part

pub rows-are : (keys : List Key) (sums : List Sums) (visitors : List Visitor) (pairs : List (ℕ × ℕ)) (order : List NumberedKey) (i : ℕ) (rows : List PartRow) → length order ≤ i
    → AreByKey keys order → HaveRows keys sums visitors pairs order i rows → AreRowsOf keys sums visitors pairs (rows_in rows)
rows-are keys sums visitors pairs order i rows past by_key have = record {
  order = order;
  by_key = by_key;
  keys_are = have.keys_are ∙ ap (map (λ (n : NumberedKey). n.key)) (take_all i order past);
  each = have.each;
}
