-- What the tests of the row at a place say, where the rows before it are good.
use Rattle.std.proofs.Common.{◌≡◌, ℕ, zero, suc, ◌+◌, ◌<◌, Bool, true, false, cond, List, [], ◌∷◌, ◌++◌, Option, Some, None, MatchOption, is_some, length, get_or, take, refl, sym, ap, subst, arith}
use Rattle.std.specs.List.{All, find}
use Rattle.std.specs.Ordering.{is_eq}
use Rattle.std.specs.List.Sorted.{IsStrictlySortedBy}
use Rattle.std.proofs.lemmas.Cmp.{tied_itself}
use Rattle.std.proofs.lemmas.List.Elements.{All-push}
use Rattle.ga_base.specs.Layers.{HasForm, day_key, layer_of}
use Rattle.ga_base.specs.Orders.{name_cmp, is_same_key}
use Rattle.ga_base.proofs.OrderLemmas.{key_cmp_total}
use Rattle.ga_summary.specs.declared.layer_sums.LayerSums.{LayerSums}
use Rattle.ga_summary.specs.declared.load.Load.{Load}
use Rattle.ga_summary.specs.declared.summary_parts.PartRow.{PartRow}
use Rattle.ga_summary.specs.SummaryParts.{RowsAreGood, row_of_part, rows_in}
use Rattle.ga_summary.specs.SummaryRows.{SummaryRow, row_at}
use Rattle.ga_summary.specs.Sound.{HasRow, layer_rows}
use Rattle.ga_summary.specs.Steps.Loads.{LoadWithin, load_of, sums_load}
use Rattle.ga_summary.specs.Steps.Passing.{AllAmong, AreSumsOf, StandsAlone, layer_plus, with_load}
use Rattle.ga_summary.proofs.GoodRows.{good_push, alone_from_good, day_from_good, among_from_good, within_from_good}
use Rattle.ga_summary.proofs.LayerSteps.{its_layer, next_sums}
use Rattle.ga_summary.proofs.Merging.{all-row_at}
use Rattle.ga_summary.proofs.PartRows.{KeysRise, rows_more}

-- an item that passes a test is found, or one before it
pub found_from : {X : Type 0} (test : X → Bool) (xs : List X) (k : ℕ) (d : X) → k < length xs → test (get_or xs k d) ≡ true → is_some (find test xs) ≡ true
found_from test [] k d lt pass = absurd (omega arith)
found_from test (x ∷ xs) zero d lt pass = rw pass
found_from test (x ∷ xs) (suc k) d lt pass = go (test x) (found_from test xs k d (omega arith) pass)
  where
    go : (v : Bool) → is_some (find test xs) ≡ true → is_some (cond v (Some x) (find test xs)) ≡ true
    go true rest = refl
    go false rest = rest

-- each row's key has a row
pub has_own : (rows : List SummaryRow) → All (λ row. HasRow rows row.key) rows
has_own rows k d lt = found_from (λ (row : SummaryRow). is_same_key (get_or rows k d).key row.key) rows k d lt (ap is_eq (tied_itself key_cmp_total (get_or rows k d).key))

pub forms : (rows : List SummaryRow) → RowsAreGood rows → All (λ row. HasForm row.key) rows
forms rows good k d lt = good.sound.form (get_or rows k d).key (has_own rows k d lt)

module _ (rows : List PartRow) (at : ℕ) (row : PartRow) (within : at < length rows) (is : row ≡ get_or rows at row) where
  -- where they are good with it
  module _ (good : RowsAreGood (rows_in (take (at + 1) rows))) where
    pub stands : StandsAlone (row_of_part row)
    stands = alone_from_good (rows_in (take at rows)) (row_of_part row) (subst RowsAreGood (rows_more rows at row within is) good)

    pub has_day_row : row_at (rows_in (take (at + 1) rows)) (day_key row.key.date) ≡ None → ⊥
    has_day_row none = day_from_good (rows_in (take at rows)) (row_of_part row) (subst RowsAreGood (rows_more rows at row within is) good) (subst (λ (l : List SummaryRow). row_at l (day_key row.key.date) ≡ None) (rows_more rows at row within is) none)

    pub has_visitors : (day : SummaryRow) → row_at (rows_in (take (at + 1) rows)) (day_key row.key.date) ≡ Some day → AllAmong row.names day.names
    has_visitors day found = among_from_good (rows_in (take at rows)) (row_of_part row) (subst RowsAreGood (rows_more rows at row within is) good) day (subst (λ (l : List SummaryRow). row_at l (day_key row.key.date) ≡ Some day) (rows_more rows at row within is) found)

  module _ (good : RowsAreGood (rows_in (take at rows))) (alone : StandsAlone (row_of_part row)) where
    pub forms_upto : All (λ (r : SummaryRow). HasForm r.key) (rows_in (take (at + 1) rows))
    forms_upto = subst (All (λ (r : SummaryRow). HasForm r.key)) (sym (rows_more rows at row within is)) (All-push (λ (r : SummaryRow). HasForm r.key) (rows_in (take at rows)) (row_of_part row) (forms (rows_in (take at rows)) good) alone.form)

    pub names_upto : (key : _) (day : SummaryRow) → row_at (rows_in (take (at + 1) rows)) key ≡ Some day → IsStrictlySortedBy name_cmp day.names
    names_upto key day found = all-row_at (λ (r : SummaryRow). IsStrictlySortedBy name_cmp r.names) (rows_in (take (at + 1) rows)) key day
        (subst (All (λ (r : SummaryRow). IsStrictlySortedBy name_cmp r.names)) (sym (rows_more rows at row within is)) (All-push (λ (r : SummaryRow). IsStrictlySortedBy name_cmp r.names) (rows_in (take at rows)) (row_of_part row) good.ordered.names alone.names)) found

    -- and the layers' sums decide
    module _ (rising : KeysRise (rows_in (take (at + 1) rows))) (sums : LayerSums) (are : AreSumsOf (rows_in (take at rows)) sums)
        (day : SummaryRow) (found : row_at (rows_in (take (at + 1) rows)) (day_key row.key.date) ≡ Some day) (among : AllAmong row.names day.names) where
      rising_pushed : KeysRise (rows_in (take at rows) ++ row_of_part row ∷ [])
      rising_pushed = subst KeysRise (rows_more rows at row within is) rising

      found_pushed : row_at (rows_in (take at rows) ++ row_of_part row ∷ []) (day_key row.key.date) ≡ Some day
      found_pushed = subst (λ (l : List SummaryRow). row_at l (day_key row.key.date) ≡ Some day) (rows_more rows at row within is) found

      layer_is : layer_plus sums row.key (sums_load row.sums) ≡ load_of (layer_rows (layer_of row.key) row.key.date (rows_in (take at rows) ++ row_of_part row ∷ []))
      layer_is = its_layer (rows_in (take at rows)) (row_of_part row) sums are rising_pushed

      pub decided : (r : Option LayerSums) → MatchOption r (¬ LoadWithin (layer_plus sums row.key (sums_load row.sums)) (sums_load day.sums))
          (λ next. (next ≡ with_load sums row.key (sums_load row.sums)) × LoadWithin (layer_plus sums row.key (sums_load row.sums)) (sums_load day.sums))
          → MatchOption r (¬ RowsAreGood (rows_in (take (at + 1) rows))) (λ next. RowsAreGood (rows_in (take (at + 1) rows)) × AreSumsOf (rows_in (take (at + 1) rows)) next)
      decided None over = λ all.
          let sums_fit = within_from_good (rows_in (take at rows)) (row_of_part row) (subst RowsAreGood (rows_more rows at row within is) all) day found_pushed in
          over (subst (λ (load : Load). LoadWithin load (sums_load day.sums)) (sym layer_is) (record { hits = sums_fit.hits; bytes = sums_fit.bytes; micros = sums_fit.micros }))
      decided (Some next) fits =
          let load_fits : LoadWithin (load_of (layer_rows (layer_of row.key) row.key.date (rows_in (take at rows) ++ row_of_part row ∷ []))) (sums_load day.sums) = subst (λ (load : Load). LoadWithin load (sums_load day.sums)) layer_is fits.1 in (
            subst RowsAreGood (sym (rows_more rows at row within is)) (good_push (rows_in (take at rows)) (row_of_part row) good rising_pushed alone day found_pushed among (record { hits = load_fits.hits; bytes = load_fits.bytes; micros = load_fits.micros })),
            subst (λ (l : List SummaryRow). AreSumsOf l next) (sym (rows_more rows at row within is)) (subst (AreSumsOf (rows_in (take at rows) ++ row_of_part row ∷ [])) (sym fits.0) (next_sums (rows_in (take at rows)) (row_of_part row) sums are rising_pushed)),
          )
