-- Two summaries merged are in order and sound, where the totals fit.
use Rattle.std.proofs.Common.{◌≡◌, ℕ, ◌+◌, ◌≤◌, Bool, true, ◌&&◌, ◌==◌, ◌⊎◌, List, length, filter, refl, sym, ap, ◌∙◌, inl, inr, arith}
use Rattle.std.proofs.lemmas.Bool.{or_cases, or_left, or_right}
use Rattle.ga_base.specs.declared.key.Key.{Key}
use Rattle.ga_base.specs.declared.key.Visitor.{Visitor}
use Rattle.ga_base.specs.declared.counts.Sums.{Sums}
use Rattle.ga_base.specs.declared.counts.TheConstants.{BIG}
use Rattle.ga_summary.specs.SummaryRows.{SummaryRow, SummaryValue, IsInOrder, sums_at, names_at, has_pair}
use Rattle.ga_base.specs.Totals.{totals_plus, TotalsFit}
use Rattle.ga_summary.specs.Steps.Joined.{put_rows, merged_value}
use Rattle.ga_summary.specs.Sums.{IsMerged}
use Rattle.ga_base.specs.Layers.{HasForm}
use Rattle.ga_summary.specs.Sound.{IsSound, HasRow, layer_rows, day_rows, SumsWithin}
use Rattle.ga_base.specs.Layers.{day_key, Layer, in_layer, is_day}
use Rattle.ga_summary.proofs.Merging.{IsInOrder-put_rows, present-put_rows, sums_at-put_rows, has_pair-put_rows, length-names_at-put_rows, sum_by-filter-put_rows}

module _ (a b : SummaryValue) (s : IsInOrder a.rows) (t : IsInOrder b.rows) where
  pub IsMerged-merged_value : IsMerged a b (merged_value a b)
  IsMerged-merged_value = record {
    totals = refl;
    sums = sums_at-put_rows a.rows b.rows s t;
    pairs = has_pair-put_rows a.rows b.rows s t;
    present = present-put_rows a.rows b.rows s t;
    ordered = IsInOrder-put_rows a.rows b.rows s t;
  }

  module _ (x : IsSound a) (y : IsSound b) (fit : TotalsFit (totals_plus a.totals b.totals)) where
    rows : List SummaryRow
    rows = put_rows b.rows a.rows

    in_either : (key : Key) → HasRow (put_rows b.rows a.rows) key → HasRow a.rows key ⊎ HasRow b.rows key
    in_either key has = or_cases _ _ (sym (present-put_rows a.rows b.rows s t key) ∙ has)

    has_left : (key : Key) → HasRow a.rows key → HasRow (put_rows b.rows a.rows) key
    has_left key has = present-put_rows a.rows b.rows s t key ∙ or_left _ _ has

    has_right : (key : Key) → HasRow b.rows key → HasRow (put_rows b.rows a.rows) key
    has_right key has = present-put_rows a.rows b.rows s t key ∙ or_right _ _ has

    form : (key : Key) → HasRow (put_rows b.rows a.rows) key → HasForm key
    form key has = elim (in_either key has) [ inl h ↦ x.rows.form key h | inr h ↦ y.rows.form key h ]

    day : (key : Key) → HasRow (put_rows b.rows a.rows) key → HasRow (put_rows b.rows a.rows) (day_key key.date)
    day key has = elim (in_either key has) [ inl h ↦ has_left _ (x.rows.day key h) | inr h ↦ has_right _ (y.rows.day key h) ]

    hit : (key : Key) → HasRow (put_rows b.rows a.rows) key → 1 ≤ (sums_at (put_rows b.rows a.rows) key).hits
    hit key has =
        let both = ap (λ (v : Sums). v.hits) (sums_at-put_rows a.rows b.rows s t key) in
        elim (in_either key has) [ inl h ↦ omega (arith, both, x.rows.hit key h) | inr h ↦ omega (arith, both, y.rows.hit key h) ]

    within : (test : Key → Bool) (h m n h' m' n' : ℕ) → SumsWithin (filter (λ (row : SummaryRow). test row.key) a.rows) h m n → SumsWithin (filter (λ (row : SummaryRow). test row.key) b.rows) h' m' n' → SumsWithin (filter (λ (row : SummaryRow). test row.key) (put_rows b.rows a.rows)) (h + h') (m + m') (n + n')
    within test h m n h' m' n' p q = record {
      hits = rw (sum_by-filter-put_rows a.rows b.rows s t (λ (row : SummaryRow). row.sums.hits) (λ _ _. refl) test) (omega (arith, p.hits, q.hits));
      bytes = rw (sum_by-filter-put_rows a.rows b.rows s t (λ (row : SummaryRow). row.sums.bytes) (λ _ _. refl) test) (omega (arith, p.bytes, q.bytes));
      micros = rw (sum_by-filter-put_rows a.rows b.rows s t (λ (row : SummaryRow). row.sums.micros) (λ _ _. refl) test) (omega (arith, p.micros, q.micros));
    }

    layers : (layer : Layer) (date : ℕ) → let d = sums_at (put_rows b.rows a.rows) (day_key date) in SumsWithin (layer_rows layer date (put_rows b.rows a.rows)) d.hits d.bytes d.micros
    layers layer date =
        rw (sums_at-put_rows a.rows b.rows s t (day_key date))
        (within (λ (key : Key). (key.date == date) && in_layer layer key) _ _ _ _ _ _ (x.rows.layers layer date) (y.rows.layers layer date))

    visitors : (key : Key) (visitor : Visitor) → has_pair (put_rows b.rows a.rows) key visitor ≡ true → has_pair (put_rows b.rows a.rows) (day_key key.date) visitor ≡ true
    visitors key visitor has =
        elim (or_cases _ _ (sym (has_pair-put_rows a.rows b.rows s t key visitor) ∙ has)) [
          | inl h ↦ has_pair-put_rows a.rows b.rows s t (day_key key.date) visitor ∙ or_left _ _ (x.rows.visitors key visitor h)
          | inr h ↦ has_pair-put_rows a.rows b.rows s t (day_key key.date) visitor ∙ or_right _ _ (y.rows.visitors key visitor h)
        ]

    visits : (key : Key) → length (names_at (put_rows b.rows a.rows) key) ≤ (sums_at (put_rows b.rows a.rows) key).hits
    visits key =
        let both = ap (λ (v : Sums). v.hits) (sums_at-put_rows a.rows b.rows s t key) in
        let names = length-names_at-put_rows a.rows b.rows s t key in
        omega (arith, both, names, x.rows.visits key, y.rows.visits key)

    days : SumsWithin (day_rows (put_rows b.rows a.rows)) (a.totals.hits + b.totals.hits) (a.totals.bytes + b.totals.bytes) (a.totals.micros + b.totals.micros)
    days = within (λ (key : Key). is_day key) _ _ _ _ _ _ x.totals.days y.totals.days

    times : (key : Key) → ((sums_at (put_rows b.rows a.rows) key).max_micros ≤ BIG) × ((sums_at (put_rows b.rows a.rows) key).max_micros ≤ (sums_at (put_rows b.rows a.rows) key).micros)
    times key =
        let p = x.totals.times key in
        let q = y.totals.times key in
        rw (sums_at-put_rows a.rows b.rows s t key) (omega (arith, p, q), omega (arith, p, q))

    pub IsSound-merged_value : IsSound (merged_value a b)
    IsSound-merged_value = record {
      rows = record {
        form = form;
        day = day;
        layers = layers;
        hit = hit;
        visitors = visitors;
        visits = visits;
      };
      totals = record {
        days = days;
        lines = omega (arith, x.totals.lines, y.totals.lines);
        fit = fit;
        times = times;
      };
    }
