-- The rows of the last days: they are sound, and those of the same rows in any order are the same.
use Rattle.std.proofs.Common.{◌≡◌, ℕ, zero, suc, ◌+◌, ◌<◌, ◌≤◌, ◌==◌, ◌&&◌, Bool, true, false, cond, nat_lt, List, [], ◌∷◌, ◌++◌, Some, length, get_or, take, map, filter, sum_by, refl, sym, ap, ◌∙◌, subst, arith, All}
use Rattle.std.specs.Prelude.{count_by, if◌then◌else◌, nat_le, slice_get}
use Rattle.std.specs.List.{AllByRecursion, IsDistinct, list_any}
use Rattle.std.specs.List.Sorted.{IsPermutation}
use Rattle.std.proofs.lemmas.Bool.{eqb-true}
use Rattle.std.proofs.lemmas.List.Elements.{All-filter, All-from_recursion, recursion_from_All}
use Rattle.std.proofs.lemmas.List.Sums.{sum_by-cons}
use Rattle.std.proofs.lemmas.List.Sorted.{list_any-IsPermutation, sum_by-IsPermutation}
use Rattle.ga_base.specs.Layers.{Layer, in_layer, is_day}
use Rattle.ga_base.specs.Orders.{is_same_key}
use Rattle.ga_report.specs.LastDays.{is_among_last, last_rows, later_days, trimmed_source}
use Rattle.ga_report.specs.OfSummary.{source_row, source_value}
use Rattle.ga_report.specs.SoundRows.{AreSound, HasDay, SumsFit, SumsWithin, day_rows, layer_rows}
use Rattle.ga_report.specs.Source.{SameSource, SourceRow, SourceValue}
use Rattle.ga_report.specs.Steps.RowPlaces.{AreAt}
use Rattle.ga_report.proofs.Filtered.{filter-moved}
use Rattle.ga_report.proofs.InPanel.{any-weaker}
use Rattle.ga_report.proofs.Lists.{all-filter, all-map, map-all, sum-among, take-more}
use Rattle.ga_report.proofs.OfSummaries.{any-source, filter-source, sum-source}
use Rattle.ga_summary.specs.LastDays as summary
use Rattle.ga_summary.specs.Sound.{day_rows as summary_days}
use Rattle.ga_summary.specs.SummaryRows.{SummaryRow, SummaryValue}

-- ---- the rows of some dates are sound

filters-turn : {X : Type 0} (p q : X → Bool) (xs : List X) → filter p (filter q xs) ≡ filter q (filter p xs)
filters-turn p q [] = refl
filters-turn {X = X} p q (x ∷ xs) = pick (p x) refl (q x) refl (filters-turn p q xs)
  where
    pick : (b : Bool) → p x ≡ b → (c : Bool) → q x ≡ c → filter p (filter q xs) ≡ filter q (filter p xs)
        → filter p (cond c (x ∷ filter q xs) (filter q xs)) ≡ filter q (cond b (x ∷ filter p xs) (filter p xs))
    pick true e true f rest = rw (e, f) (ap (λ (r : List X). x ∷ r) rest)
    pick true e false f rest = rw f rest
    pick false e true f rest = rw e rest
    pick false e false f rest = rest

module _ (test : ℕ → Bool) where
  abbrev left : List SourceRow → List SourceRow
  left rows = filter (λ row. test row.key.date) rows

  days-left : (rows : List SourceRow) → day_rows (left rows) ≡ left (day_rows rows)
  days-left rows = filters-turn (λ (row : SourceRow). is_day row.key) (λ (row : SourceRow). test row.key.date) rows

  still-different : (rows : List SourceRow) → IsDistinct is_same_key (map (λ row. row.key) rows) → IsDistinct is_same_key (map (λ row. row.key) (left rows))
  unfolding IsDistinct
  still-different [] apart = tt
  still-different (x ∷ xs) apart = pick (test x.key.date) (still-different xs apart.1)
    where
      others : AllByRecursion (λ k. is_same_key x.key k ≡ false) (map (λ row. row.key) (left xs))
      others =
          all-map (λ (row : SourceRow). row.key) (λ k. is_same_key x.key k ≡ false) (left xs)
          (all-filter (λ row. is_same_key x.key row.key ≡ false) (λ row. is_same_key x.key row.key ≡ false) (λ row. test row.key.date) (λ row pass other. other) xs
          (map-all (λ (row : SourceRow). row.key) (λ k. is_same_key x.key k ≡ false) xs apart.0))

      pick : (b : Bool) → IsDistinct is_same_key (map (λ row. row.key) (left xs)) → IsDistinct is_same_key (map (λ row. row.key) (cond b (x ∷ left xs) (left xs)))
      pick true rest = (others, rest)
      pick false rest = rest

  -- a row's day passes where the row does
  still-dated : (days : List SourceRow) (row : SourceRow) → test row.key.date ≡ true → HasDay days row → HasDay (left days) row
  still-dated days row pass has =
      any-weaker (λ (day : SourceRow). test day.key.date) (λ (day : SourceRow). row.key.date == day.key.date)
      (λ day same. ap test (sym (eqb-true row.key.date day.key.date same)) ∙ pass) days ∙ has

  still-within : (rows : List SourceRow) (day : SourceRow) → ((layer : Layer) → SumsWithin (layer_rows layer day.key.date rows) day.sums) → (layer : Layer) → SumsWithin (layer_rows layer day.key.date (left rows)) day.sums
  still-within rows day within layer =
      let of = λ (row : SourceRow). (row.key.date == day.key.date) && in_layer layer row.key in
      let fewer = λ (f : SourceRow → ℕ). sum-among f of (λ (row : SourceRow). test row.key.date) rows in
      let most = within layer in
      record {
        hits = omega (arith, fewer (λ row. row.sums.hits), most.hits);
        bytes = omega (arith, fewer (λ row. row.sums.bytes), most.bytes);
        micros = omega (arith, fewer (λ row. row.sums.micros), most.micros);
      }

  still-fit : (rows : List SourceRow) → SumsFit (day_rows rows) → SumsFit (day_rows (left rows))
  still-fit rows fit =
      let fewer = λ (f : SourceRow → ℕ). sum-among f (λ (row : SourceRow). is_day row.key) (λ (row : SourceRow). test row.key.date) rows in
      record {
        hits = omega (arith, fewer (λ row. row.sums.hits), fit.hits);
        visitors = omega (arith, fewer (λ row. row.visitors), fit.visitors);
        bytes = omega (arith, fewer (λ row. row.sums.bytes), fit.bytes);
        micros = omega (arith, fewer (λ row. row.sums.micros), fit.micros);
      }

  -- what holds of each day's row, and then another thing, holds of those that are left
  days-all : (P Q : SourceRow → Type 0) (rows : List SourceRow) → ((day : SourceRow) → P day → Q day) → All P (day_rows rows) → All Q (day_rows (left rows))
  days-all P Q rows from all =
      subst (λ (days : List SourceRow). All Q days) (sym (days-left rows))
      (All-from_recursion Q (left (day_rows rows)) (all-filter P Q (λ row. test row.key.date) (λ day pass at. from day at) (day_rows rows) (recursion_from_All P (day_rows rows) all)))

  pub still-sound : (rows : List SourceRow) → AreSound rows → AreSound (left rows)
  still-sound rows sound = record {
    different = still-different rows sound.different;
    hit = All-filter (λ (row : SourceRow). test row.key.date) (λ row. 1 ≤ row.sums.hits) rows sound.hit;
    dated = subst (λ (days : List SourceRow). All (HasDay days) (left rows)) (sym (days-left rows))
        (All-from_recursion (HasDay (left (day_rows rows))) (left rows) (all-filter (HasDay (day_rows rows)) (HasDay (left (day_rows rows))) (λ row. test row.key.date) (still-dated (day_rows rows)) rows
        (recursion_from_All (HasDay (day_rows rows)) rows sound.dated)));
    layers = days-all (λ day. (layer : Layer) → SumsWithin (layer_rows layer day.key.date rows) day.sums) (λ day. (layer : Layer) → SumsWithin (layer_rows layer day.key.date (left rows)) day.sums) rows (still-within rows) sound.layers;
    visits = days-all (λ day. All (λ row. row.key.date ≡ day.key.date → row.visitors ≤ day.visitors) rows) (λ day. All (λ row. row.key.date ≡ day.key.date → row.visitors ≤ day.visitors) (left rows)) rows
        (λ day all. All-filter (λ (row : SourceRow). test row.key.date) (λ row. row.key.date ≡ day.key.date → row.visitors ≤ day.visitors) rows all) sound.visits;
    fit = still-fit rows sound.fit;
  }

pub last-sound : (n : ℕ) (rows : List SourceRow) → AreSound rows → AreSound (last_rows n rows)
last-sound n rows sound = still-sound (is_among_last n rows) rows sound

-- the rows from the first of the last days on
pub from-first : (n bar : ℕ) (rows : List SourceRow) → All (λ row. is_among_last n rows row.key.date ≡ nat_le bar row.key.date) rows → filter (λ row. nat_le bar row.key.date) rows ≡ last_rows n rows
from-first n bar rows bars = sym (same rows (recursion_from_All _ rows bars))
  where
    kept : SourceRow → Bool
    kept row = is_among_last n rows row.key.date

    from : SourceRow → Bool
    from row = nat_le bar row.key.date

    same : (xs : List SourceRow) → AllByRecursion (λ row. kept row ≡ from row) xs → filter kept xs ≡ filter from xs
    same [] all = refl
    same (x ∷ xs) all = pick (kept x) (from x) all.0 (same xs all.1)
      where
        pick : (b c : Bool) → b ≡ c → filter kept xs ≡ filter from xs → cond b (x ∷ filter kept xs) (filter kept xs) ≡ cond c (x ∷ filter from xs) (filter from xs)
        pick true true e rest = ap (λ (r : List SourceRow). x ∷ r) rest
        pick false false e rest = rest
        pick true false e rest = cc
        pick false true e rest = cc

-- ---- where they stand

-- what stands at a place of some rows is what stands at its place of all
pub stands : (rows : List SourceRow) (places : List ℕ) (those : List SourceRow) (at place : ℕ) → AreAt rows places those → at < length places → place ≡ get_or places at place → slice_get those at ≡ slice_get rows place
stands rows [] those at place are below is = absurd (omega (arith, below))
stands rows (p ∷ ps) [] at place are below is = cc
stands rows (p ∷ ps) (x ∷ xs) zero place are below is =
    let first : slice_get rows p ≡ Some x = cc are in
    sym first ∙ ap (slice_get rows) (sym is)
stands rows (p ∷ ps) (x ∷ xs) (suc at) place are below is =
    let rest : AreAt rows ps xs = cc are in
    stands rows ps xs at place rest (omega (arith, below)) is

-- fewer rows pass a test
pub count-left : {X : Type 0} (p t : X → Bool) (xs : List X) → count_by p (filter t xs) ≤ count_by p xs
count-left p t [] = omega arith
count-left {X = X} p t (x ∷ xs) = pick (t x) (count-left p t xs)
  where
    pick : (b : Bool) → count_by p (filter t xs) ≤ count_by p xs → count_by p (cond b (x ∷ filter t xs) (filter t xs)) ≤ count_by p (x ∷ xs)
    pick true rest = omega (arith, sum_by-cons (λ (y : X). cond (p y) 1 0) x (filter t xs), sum_by-cons (λ (y : X). cond (p y) 1 0) x xs, rest)
    pick false rest = omega (arith, sum_by-cons (λ (y : X). cond (p y) 1 0) x xs, rest)

-- the dates of the first days
pub dates-more : (n : ℕ) (days : List SourceRow) (day : SourceRow) → slice_get days n ≡ Some day → map (λ row. row.key.date) (take (n + 1) days) ≡ map (λ row. row.key.date) (take n days) ++ day.key.date ∷ []
dates-more n days day at = ap (map (λ (row : SourceRow). row.key.date)) (take-more n days day at) ∙ pushed (take n days)
  where
    pushed : (rows : List SourceRow) → map (λ row. row.key.date) (rows ++ day ∷ []) ≡ map (λ row. row.key.date) rows ++ day.key.date ∷ []
    pushed [] = refl
    pushed (row ∷ rows) = ap (λ (r : List ℕ). row.key.date ∷ r) (pushed rows)

-- where some days are kept
pub some-kept : (n : ℕ) (source : SourceValue) → 1 ≤ n → trimmed_source n source ≡ record { totals = source.totals; rows = last_rows n source.rows }
some-kept n source some = ap (λ b. if b then source else record { totals = source.totals; rows = last_rows n source.rows }) (not-zero (n == 0) refl)
  where
    not-zero : (b : Bool) → (n == 0) ≡ b → (n == 0) ≡ false
    not-zero true e = absurd (omega (arith, some, eqb-true n 0 e))
    not-zero false e = e

-- and where all are
pub all-kept : (n : ℕ) (source : SourceValue) → n ≡ 0 → trimmed_source n source ≡ source
all-kept n source none = ap (λ m. trimmed_source m source) none

-- ---- in any order

module _ (n : ℕ) (xs ys : List SourceRow) (moved : IsPermutation xs ys) where
  days-moved : IsPermutation (day_rows xs) (day_rows ys)
  days-moved = filter-moved (λ (row : SourceRow). is_day row.key) xs ys moved

  among-moved : (date : ℕ) → is_among_last n xs date ≡ is_among_last n ys date
  among-moved date =
      let some = list_any-IsPermutation (λ (row : SourceRow). date == row.key.date) (day_rows xs) (day_rows ys) days-moved in
      let many = sum_by-IsPermutation (λ (row : SourceRow). cond (nat_lt date row.key.date) 1 0) (day_rows xs) (day_rows ys) days-moved in
      λ i. some i && nat_lt (sym many i) n

  pub last-moved : IsPermutation (last_rows n xs) (last_rows n ys)
  last-moved =
      subst (λ (test : ℕ → Bool). IsPermutation (last_rows n xs) (filter (λ row. test row.key.date) ys)) (λ i date. among-moved date i)
      (filter-moved (λ (row : SourceRow). is_among_last n xs row.key.date) xs ys moved)

-- ---- of a summary

among-source : (n : ℕ) (rows : List SummaryRow) (date : ℕ) → is_among_last n (map source_row rows) date ≡ summary.is_among_last n rows date
among-source n rows date =
    let days : day_rows (map source_row rows) ≡ map source_row (summary_days rows) = filter-source (λ row. is_day row.key) rows in
    let some = ap (list_any (λ (row : SourceRow). date == row.key.date)) days ∙ any-source (λ (row : SourceRow). date == row.key.date) (summary_days rows) in
    let later = λ (row : SourceRow). cond (nat_lt date row.key.date) 1 0 in
    let many = ap (sum_by later) days ∙ sum-source later (summary_days rows) in
    λ i. some i && nat_lt (many i) n

last-source : (n : ℕ) (rows : List SummaryRow) → last_rows n (map source_row rows) ≡ map source_row (summary.last_rows n rows)
last-source n rows =
    (λ i. filter (λ (row : SourceRow). among-source n rows row.key.date i) (map source_row rows)) ∙ filter-source (λ (row : SourceRow). summary.is_among_last n rows row.key.date) rows

pub sources-trimmed : (n : ℕ) (a : SourceValue) (s : SummaryValue) → SameSource a (source_value s) → SameSource (trimmed_source n a) (source_value (summary.trimmed n s))
sources-trimmed n a s alike = pick (n == 0)
  where
    rest : IsPermutation (last_rows n a.rows) (map source_row (summary.last_rows n s.rows))
    rest = subst (λ (rows : List SourceRow). IsPermutation (last_rows n a.rows) rows) (last-source n s.rows) (last-moved n a.rows (map source_row s.rows) alike.rows)

    pick : (b : Bool) → SameSource (if b then a else record { totals = a.totals; rows = last_rows n a.rows }) (source_value (if b then s else record s { rows = summary.last_rows n s.rows }))
    pick true = alike
    pick false = record { totals = alike.totals; rows = rest }
