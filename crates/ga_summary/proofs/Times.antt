-- The maxima of rows, and of what is found at keys.
use Rattle.std.proofs.Common.{◌≡◌, ℕ, ◌<◌, List, Option, Some, None, length, get_or, refl, ap, ◌∙◌, subst, arith}
use Rattle.std.specs.Option.{option_map_or}
use Rattle.std.specs.Ordering.{ordering_reverse}
use Rattle.std.specs.List.{All}
use Rattle.std.proofs.lemmas.Cmp.{tied_itself}
use Rattle.std.proofs.lemmas.List.{length-map, get_or_default}
use Rattle.std.proofs.lemmas.List.Elements.{All-map}
use Rattle.ga_base.specs.declared.counts.Totals.{Totals}
use Rattle.ga_base.specs.declared.key.Key.{Key}
use Rattle.ga_base.specs.Orders.{key_cmp}
use Rattle.ga_base.proofs.OrderLemmas.{key_cmp_total}
use Rattle.ga_summary.specs.declared.summary_parts.PartRow.{PartRow}
use Rattle.ga_base.specs.Totals.{LinesAdd, TotalsFit}
use Rattle.ga_summary.specs.SummaryParts.{row_of_part, rows_in}
use Rattle.ga_summary.specs.SummaryRows.{SummaryRow, row_at, sums_at, no_sums}
use Rattle.ga_summary.specs.Sound.{TotalsAreSound, day_rows}
use Rattle.ga_summary.specs.Steps.Loads.{LoadWithin, TimeFits, load_of, totals_load}
use Rattle.ga_summary.proofs.Merging.{all-row_at}
use Rattle.ga_summary.proofs.PartRows.{KeysRise}
use Rattle.ga_summary.proofs.Put.{find_stands, get_or-map_at, rises_less}

-- a row is what is found at its key
pub own_row : (rows : List SummaryRow) → KeysRise rows → (k : ℕ) (d : SummaryRow) → k < length rows → row_at rows (get_or rows k d).key ≡ Some (get_or rows k d)
own_row rows rising k d lt = find_stands key_cmp key_cmp_total (λ (row : SummaryRow). row.key) (get_or rows k d).key rows k d (record {
  within = lt;
  before = λ j e less. rw (get_or_default rows k d e lt) (key_cmp_total.antisymm _ _ ∙ ap ordering_reverse (rises_less key_cmp key_cmp_total (λ (row : SummaryRow). row.key) rows j k e rising less lt));
  here = λ e. rw (get_or_default rows k d e lt) (tied_itself key_cmp_total (get_or rows k e).key);
})

module _ (rows : List PartRow) where
  pub times_at : All (λ (row : PartRow). TimeFits row.sums) rows → (key : Key) → TimeFits (sums_at (rows_in rows) key)
  times_at all key = go (row_at (rows_in rows) key) refl
    where
      go : (o : Option SummaryRow) → row_at (rows_in rows) key ≡ o → TimeFits (option_map_or (λ (row : SummaryRow). row.sums) o no_sums)
      go (Some row) e = all-row_at (λ (r : SummaryRow). TimeFits r.sums) (rows_in rows) key row (All-map (λ (r : SummaryRow). TimeFits r.sums) row_of_part rows all) e
      go None e = (omega arith, omega arith)

  pub times_of : KeysRise (rows_in rows) → ((key : Key) → TimeFits (sums_at (rows_in rows) key)) → All (λ (row : PartRow). TimeFits row.sums) rows
  times_of rising all k d lt =
      let part = get_or rows k d in
      let found : row_at (rows_in rows) part.key ≡ Some (row_of_part part) =
      subst (λ (row : SummaryRow). row_at (rows_in rows) row.key ≡ Some row) (get_or-map_at key_cmp (λ (row : SummaryRow). row.key) row_of_part rows k d (row_of_part d) lt)
      (own_row (rows_in rows) rising k (row_of_part d) (omega (arith, lt, length-map rows row_of_part))) in
      rw found at (all part.key)

  module _ (totals : Totals) (rising : KeysRise (rows_in rows)) where
    pub totals_from : LinesAdd totals → TotalsFit totals → All (λ (row : PartRow). TimeFits row.sums) rows → LoadWithin (load_of (day_rows (rows_in rows))) (totals_load totals) → TotalsAreSound (record { totals = totals; rows = rows_in rows })
    totals_from add fit times days = record {
      days = record { hits = days.hits; bytes = days.bytes; micros = days.micros };
      lines = add;
      fit = fit;
      times = times_at times;
    }

    pub days_from : TotalsAreSound (record { totals = totals; rows = rows_in rows }) → LoadWithin (load_of (day_rows (rows_in rows))) (totals_load totals)
    days_from sound = record { hits = sound.days.hits; bytes = sound.days.bytes; micros = sound.days.micros }
