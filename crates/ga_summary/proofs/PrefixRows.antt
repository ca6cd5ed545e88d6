-- The first of good rows are good.
use Rattle.std.proofs.Common.{◌≡◌, ℕ, zero, suc, ◌+◌, ◌<◌, ◌≤◌, true, false, cond, ◌&&◌, ◌==◌, List, [], ◌∷◌, ◌++◌, Option, Some, None, Less, is_some, length, get_or, take, take_all, length-append, ◌-◌, refl, sym, ap, ◌∙◌, subst, inl, inr, arith}
use Rattle.std.specs.List.Sorted.{IsStrictlySortedBy}
use Rattle.std.proofs.lemmas.Bool.{false≢true, cases_lt}
use Rattle.std.proofs.lemmas.List.{take_more, get_or_append_left}
use Rattle.ga_base.specs.declared.key.Key.{Key}
use Rattle.ga_base.specs.declared.key.Visitor.{Visitor}
use Rattle.ga_base.specs.Layers.{HasForm, Layer, day_key, in_layer}
use Rattle.ga_base.specs.Orders.{key_cmp, name_cmp}
use Rattle.ga_base.proofs.OrderLemmas.{key_cmp_total, key_cmp_exact}
use Rattle.ga_summary.specs.declared.load.Load.{Load}
use Rattle.ga_summary.specs.SummaryParts.{RowsAreGood, IsFirstBad}
use Rattle.ga_summary.specs.SummaryRows.{SummaryRow, SummaryValue, row_at, sums_at, names_at, has_pair}
use Rattle.ga_summary.specs.Sound.{HasRow, IsSummary, SumsWithin, layer_rows}
use Rattle.ga_summary.specs.Steps.Loads.{load_of, load_plus}
use Rattle.ga_summary.proofs.DayRows.{day_cmp_is, day_not_less}
use Rattle.ga_summary.proofs.GoodRows.{before, here, nowhere, at_push, kept, has_kept, layer_push}
use Rattle.ga_summary.proofs.LayerSteps.{filter_none, in_panel_and_day, load_of-append}
use Rattle.ga_summary.proofs.Merging.{all-row_at}
use Rattle.ga_summary.proofs.OneLine.{both_true}
use Rattle.ga_summary.proofs.PassRow.{has_own}
use Rattle.ga_summary.proofs.Rising.{rises_before, below_from_push}
use Rattle.ga_summary.proofs.Unique.{find_is}

-- no key is below its day's: it is of a later panel, it is the day's itself, or it has a parent
not_below_day : (key : Key) → HasForm key → key_cmp key (day_key key.date) ≡ Less → ⊥
not_below_day key form less = day_not_less key (day_cmp_is key key.date form ∙ less)

module _ (rows : List SummaryRow) (row : SummaryRow) (good : RowsAreGood (rows ++ row ∷ [])) where
  -- a key that was there is below the last one
  below_row : (key : Key) (r : SummaryRow) → row_at rows key ≡ Some r → key_cmp key row.key ≡ Less
  below_row key r found =
      let same : key ≡ r.key = key_cmp_exact key r.key (find_is key_cmp key_cmp_total (λ (x : SummaryRow). x.key) key rows r found) in
      let less = all-row_at (λ (x : SummaryRow). key_cmp x.key row.key ≡ Less) rows key r (below_from_push key_cmp (λ (x : SummaryRow). x.key) rows row good.ordered.keys) found in
      subst (λ (k : Key). key_cmp k row.key ≡ Less) (sym same) less

  form : (key : Key) → HasRow rows key → HasForm key
  form key has = good.sound.form key (has_kept rows row key has)

  day : (key : Key) → HasRow rows key → HasRow rows (day_key key.date)
  day key has = elim (at_push rows row (day_key key.date)) [
    | before h _ ↦ h
    | here is _ _ ↦ absurd (last is (row_at rows key) refl)
    | nowhere _ _ e ↦ absurd (false≢true (sym (ap is_some e) ∙ good.sound.day key (has_kept rows row key has)))
  ]
    where
      last : day_key key.date ≡ row.key → (o : Option SummaryRow) → row_at rows key ≡ o → ⊥
      last is (Some r) e = not_below_day key (form key has) (ap (λ (k : Key). key_cmp key k) is ∙ below_row key r e)
      last is None e = false≢true (sym (ap is_some e) ∙ has)

  layers : (layer : Layer) (date : ℕ) → let d = sums_at rows (day_key date) in SumsWithin (layer_rows layer date rows) d.hits d.bytes d.micros
  layers layer date =
      let all = good.sound.layers layer date in
      let tail = cond ((row.key.date == date) && in_layer layer row.key) (row ∷ []) [] in
      let sum : load_of (layer_rows layer date (rows ++ row ∷ [])) ≡ load_plus (load_of (layer_rows layer date rows)) (load_of tail) =
      ap load_of (layer_push rows row layer date) ∙ load_of-append (layer_rows layer date rows) tail in
      let hits = ap (λ (l : Load). l.hits) sum in
      let bytes = ap (λ (l : Load). l.bytes) sum in
      let micros = ap (λ (l : Load). l.micros) sum in
      elim (at_push rows row (day_key date)) [
        | before h e ↦
            let fits = rw e at all in
            record { hits = omega (arith, fits.hits, hits); bytes = omega (arith, fits.bytes, bytes); micros = omega (arith, fits.micros, micros) }
        | here _ none _ ↦ nothing none
        | nowhere _ none _ ↦ nothing none
      ]
    where
      nothing : row_at rows (day_key date) ≡ None → let d = sums_at rows (day_key date) in SumsWithin (layer_rows layer date rows) d.hits d.bytes d.micros
      nothing none =
          let empty : layer_rows layer date rows ≡ [] = filter_none (λ (r : SummaryRow). (r.key.date == date) && in_layer layer r.key) rows (λ k d lt e.
          let is = in_panel_and_day layer date (get_or rows k d).key e in
          let has : HasRow rows (day_key date) = subst (λ (n : ℕ). HasRow rows (day_key n)) is.1 (day (get_or rows k d).key (has_own rows k d lt)) in
          false≢true (sym (ap is_some none) ∙ has)) in
          rw (empty, none) (record { hits = omega arith; bytes = omega arith; micros = omega arith })

  visits : (key : Key) → length (names_at rows key) ≤ (sums_at rows key).hits
  visits key = elim (at_push rows row key) [
    | before _ e ↦ rw e at (good.sound.visits key)
    | here _ none _ ↦ rw none (omega arith)
    | nowhere _ none _ ↦ rw none (omega arith)
  ]

  visitors : (key : Key) (visitor : Visitor) → has_pair rows key visitor ≡ true → has_pair rows (day_key key.date) visitor ≡ true
  visitors key visitor has = elim (at_push rows row key) [
    | before h e ↦
        let now : has_pair (rows ++ row ∷ []) key visitor ≡ true = rw e has in
        rw (kept rows row (day_key key.date) (day key h)) at (good.sound.visitors key visitor now)
    | here _ none _ ↦ absurd (nobody none)
    | nowhere _ none _ ↦ absurd (nobody none)
  ]
    where
      nobody : row_at rows key ≡ None → ⊥
      nobody none =
          let nothing : ((visitor.date == key.date) && false) ≡ true = rw none at has in
          false≢true (both_true (visitor.date == key.date) false nothing).1

  pub good_before : RowsAreGood rows
  good_before = record {
    ordered = record {
      keys = rises_before key_cmp (λ (r : SummaryRow). r.key) rows row good.ordered.keys;
      names = λ k d lt. subst (λ (r : SummaryRow). IsStrictlySortedBy name_cmp r.names) (get_or_append_left rows (row ∷ []) d k lt) (good.ordered.names k d (omega (arith, length-append rows (row ∷ []))));
    };
    sound = record {
      form = form;
      day = day;
      layers = layers;
      hit = λ key has. rw (kept rows row key has) at (good.sound.hit key (has_kept rows row key has));
      visitors = visitors;
      visits = visits;
    };
  }

good_but : (d : SummaryRow) (rows : List SummaryRow) → RowsAreGood rows → (k n : ℕ) → n + k ≡ length rows → RowsAreGood (take n rows)
good_but d rows good zero n e = subst RowsAreGood (sym (take_all n rows (omega arith))) good
good_but d rows good (suc k) n e =
    let within : n < length rows = omega arith in
    let longer = good_but d rows good k (n + 1) (omega arith) in
    good_before (take n rows) (get_or rows n d) (subst RowsAreGood (take_more rows n d within) longer)

pub good_take : (rows : List SummaryRow) → RowsAreGood rows → (n : ℕ) → RowsAreGood (take n rows)
good_take [] good zero = good
good_take [] good (suc n) = good
good_take (first ∷ rest) good n = elim (cases_lt n (length (first ∷ rest))) [
  | inl less ↦ good_but first (first ∷ rest) good (length (first ∷ rest) - n) n (omega arith)
  | inr past ↦ subst RowsAreGood (sym (take_all n (first ∷ rest) past)) good
]

pub no_break : (s : SummaryValue) (at : ℕ) → IsSummary s → IsFirstBad s at → ⊥
no_break s at is bad = elim bad.here [
  | inl row ↦ row.1 (good_take s.rows (record { ordered = is.ordered; sound = is.sound.rows }) (at + 1))
  | inr totals ↦ totals.1 is.sound.totals
]
