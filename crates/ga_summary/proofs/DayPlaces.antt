-- The days among a summary's entries: how many stand before a place, and which stands at one.
use Rattle.std.proofs.Common.{◌≡◌, ℕ, zero, suc, ◌+◌, ◌<◌, ◌≤◌, ◌==◌, Bool, true, false, cond, ◌&&◌, List, [], ◌∷◌, Box, Global, length, map, get_or, take, take_all, refl, sym, ap, ◌∙◌, arith, inl, inr, Less}
use Rattle.std.specs.Prelude.{if◌then◌else◌, filter, nat_le, slice_index_or}
use Rattle.std.specs.List.{AllByRecursion}
use Rattle.std.specs.List.Sorted.{IsStrictlySortedBy}
use Rattle.std.proofs.Math.ListN.{get_or-eq_default}
use Rattle.std.proofs.lemmas.Bool.Decides.{nat_tests}
use Rattle.std.proofs.lemmas.List.{length-map}
use Rattle.std.proofs.lemmas.List.Elements.{recursion_from_All}
use Rattle.std.proofs.lemmas.List.Filters.{length-filter_more}
use Rattle.ga_base.specs.declared.key.Key.{Key}
use Rattle.ga_base.specs.declared.panel.Panel.{Panel}
use Rattle.ga_base.specs.declared.panel.Panel.TheVariants.{Visitors}
use Rattle.ga_base.specs.Layers.{is_day, is_empty}
use Rattle.ga_base.specs.Orders.{key_cmp}
use Rattle.ga_base.specs.Panels.{is_same_panel, panel_number}
use Rattle.ga_summary.specs.declared.entry.Entry.{Entry}
use Rattle.ga_summary.specs.LastDays.{is_among_last, last_rows}
use Rattle.ga_summary.specs.Sound.{day_rows}
use Rattle.ga_summary.specs.Steps.Entries.{row_of, rows_of}
use Rattle.ga_summary.specs.Steps.LastDays.{IsBar, days_of}
use Rattle.ga_summary.specs.SummaryRows.{SummaryRow}
use Rattle.ga_summary.proofs.LayerSteps.{by_panel_and_day}

-- how many days stand before a place
abbrev pub before : List (Box Entry Global) → ℕ → ℕ
before entries i = length (day_rows (take i (rows_of entries)))

row-there : (entries : List (Box Entry Global)) (i : ℕ) (e : Box Entry Global) → i < length entries → e ≡ get_or entries i e → get_or (rows_of entries) i (row_of e.value) ≡ row_of e.value
row-there [] i e within is = absurd (omega (arith, within))
row-there (b ∷ bs) zero e within is = ap (λ (x : Box Entry Global). row_of x.value) (sym is)
row-there (b ∷ bs) (suc i) e within is = row-there bs i e (omega (arith, within)) is

pub before-more : (entries : List (Box Entry Global)) (i : ℕ) (e : Box Entry Global) → i < length entries → e ≡ get_or entries i e → (v : Bool) → is_day e.value.key ≡ v
    → before entries (i + 1) ≡ before entries i + cond v 1 0
before-more entries i e within is v day =
    length-filter_more (λ (r : SummaryRow). is_day r.key) (rows_of entries) i (row_of e.value) (omega (arith, within, length-map entries (λ (b : Box Entry Global). row_of b.value)))
    ∙ ap (λ (r : SummaryRow). before entries i + cond (is_day r.key) 1 0) (row-there entries i e within is)
    ∙ ap (λ w. before entries i + cond w 1 0) day

pub before-all : (entries : List (Box Entry Global)) (i : ℕ) → length entries ≤ i → before entries i ≡ length (day_rows (rows_of entries))
before-all entries i past = ap (λ (rows : List SummaryRow). length (day_rows rows)) (take_all i (rows_of entries) (omega (arith, past, length-map entries (λ (b : Box Entry Global). row_of b.value))))

-- ---- the days stand in front

pub not-zero : (n : ℕ) → 0 < n → (n == 0) ≡ false
not-zero n positive = grind (arith, nat_tests)

other-later : (panel : Panel) → is_same_panel panel Visitors ≡ false → 0 < panel_number panel
unfolding is_same_panel
other-later panel other = positive (panel_number panel) other
  where
    positive : (n : ℕ) → (n == 0) ≡ false → 0 < n
    positive zero e = cc
    positive (suc n) e = omega arith

later-other : (panel : Panel) → 0 < panel_number panel → is_same_panel panel Visitors ≡ false
unfolding is_same_panel
later-other panel late = not-zero (panel_number panel) late

not-day : (key : Key) → is_same_panel key.panel Visitors ≡ false → is_day key ≡ false
not-day key other = ap (λ v. v && is_empty key.parent) other

none-behind : (key : Key) → 0 < panel_number key.panel → (rows : List SummaryRow) → AllByRecursion (λ k. key_cmp key k ≡ Less) (map (λ row. row.key) rows) → day_rows rows ≡ []
none-behind key late [] above = refl
none-behind key late (row ∷ rows) above =
    let less : 0 < panel_number row.key.panel = elim (by_panel_and_day key row.key above.0) [ inl below ↦ omega (arith, late, below) | inr at ↦ omega (arith, late, at.0) ] in
    ap (λ v. cond v (row ∷ day_rows rows) (day_rows rows)) (not-day row.key (later-other row.key.panel less)) ∙ none-behind key late rows above.1

-- before the first key of another panel all days stand
pub all-before : (entries : List (Box Entry Global)) (i : ℕ) (e : Box Entry Global) → i < length entries → e ≡ get_or entries i e
    → IsStrictlySortedBy key_cmp (map (λ row. row.key) (rows_of entries)) → is_same_panel e.value.key.panel Visitors ≡ false → before entries i ≡ length (day_rows (rows_of entries))
unfolding IsStrictlySortedBy
all-before [] i e within is sorted other = absurd (omega (arith, within))
all-before (b ∷ bs) zero e within is sorted other =
    let here : is_same_panel b.value.key.panel Visitors ≡ false = ap (λ (x : Box Entry Global). is_same_panel x.value.key.panel Visitors) (sym is) ∙ other in
    let rest = none-behind b.value.key (other-later b.value.key.panel here) (rows_of bs) sorted.0 in
    sym (ap (λ v. length (cond v (row_of b.value ∷ day_rows (rows_of bs)) (day_rows (rows_of bs)))) (not-day b.value.key here) ∙ ap (λ (l : List SummaryRow). length l) rest)
all-before (b ∷ bs) (suc i) e within is sorted other = pick (is_day b.value.key) (all-before bs i e (omega (arith, within)) is sorted.1 other)
  where
    pick : (v : Bool) → before bs i ≡ length (day_rows (rows_of bs))
        → length (cond v (row_of b.value ∷ day_rows (take i (rows_of bs))) (day_rows (take i (rows_of bs)))) ≡ length (cond v (row_of b.value ∷ day_rows (rows_of bs)) (day_rows (rows_of bs)))
    pick true rest = ap (λ n. suc n) rest
    pick false rest = rest

-- ---- the day at a place

pub day-there : (entries : List (Box Entry Global)) (i : ℕ) (e : Box Entry Global) → i < length entries → e ≡ get_or entries i e → is_day e.value.key ≡ true
    → slice_index_or (days_of (rows_of entries)) (before entries i) 0 ≡ e.value.key.date
day-there [] i e within is day = absurd (omega (arith, within))
day-there (b ∷ bs) zero e within is day =
    let here : is_day b.value.key ≡ true = ap (λ (x : Box Entry Global). is_day x.value.key) (sym is) ∙ day in
    ap (λ v. slice_index_or (map (λ (r : SummaryRow). r.key.date) (cond v (row_of b.value ∷ day_rows (rows_of bs)) (day_rows (rows_of bs)))) 0 0) here
    ∙ ap (λ (x : Box Entry Global). x.value.key.date) (sym is)
day-there (b ∷ bs) (suc i) e within is day = pick (is_day b.value.key) (day-there bs i e (omega (arith, within)) is day)
  where
    pick : (v : Bool) → slice_index_or (days_of (rows_of bs)) (before bs i) 0 ≡ e.value.key.date
        → slice_index_or (map (λ (r : SummaryRow). r.key.date) (cond v (row_of b.value ∷ day_rows (rows_of bs)) (day_rows (rows_of bs)))) (length (cond v (row_of b.value ∷ day_rows (take i (rows_of bs))) (day_rows (take i (rows_of bs))))) 0 ≡ e.value.key.date
    pick true rest = rest
    pick false rest = rest

pub none-there : (rows : List SummaryRow) (place : ℕ) → length (day_rows rows) ≤ place → 0 ≡ slice_index_or (days_of rows) place 0
none-there rows place past = sym (get_or-eq_default (days_of rows) 0 (omega (arith, past, length-map (day_rows rows) (λ (r : SummaryRow). r.key.date))))

-- ---- what is left from a bar on

kept-rows : (test : ℕ → Bool) (entries : List (Box Entry Global)) → rows_of (filter (λ b. test b.value.key.date) entries) ≡ filter (λ row. test row.key.date) (rows_of entries)
kept-rows test [] = refl
kept-rows test (b ∷ bs) = pick (test b.value.key.date) (kept-rows test bs)
  where
    pick : (v : Bool) → rows_of (filter (λ x. test x.value.key.date) bs) ≡ filter (λ row. test row.key.date) (rows_of bs)
        → rows_of (cond v (b ∷ filter (λ x. test x.value.key.date) bs) (filter (λ x. test x.value.key.date) bs)) ≡ cond v (row_of b.value ∷ filter (λ row. test row.key.date) (rows_of bs)) (filter (λ row. test row.key.date) (rows_of bs))
    pick true rest = ap (λ (l : List SummaryRow). row_of b.value ∷ l) rest
    pick false rest = rest

alike : (p q : SummaryRow → Bool) (rows : List SummaryRow) → AllByRecursion (λ row. p row ≡ q row) rows → filter q rows ≡ filter p rows
alike p q [] all = refl
alike p q (row ∷ rows) all = ap (λ v. cond v (row ∷ filter q rows) (filter q rows)) (sym all.0) ∙ pick (p row) (alike p q rows all.1)
  where
    pick : (v : Bool) → filter q rows ≡ filter p rows → cond v (row ∷ filter q rows) (filter q rows) ≡ cond v (row ∷ filter p rows) (filter p rows)
    pick true rest = ap (λ (l : List SummaryRow). row ∷ l) rest
    pick false rest = rest

each-kept : (rows : List SummaryRow) → filter (λ (row : SummaryRow). true) rows ≡ rows
each-kept [] = refl
each-kept (row ∷ rows) = ap (λ (l : List SummaryRow). row ∷ l) (each-kept rows)

from-zero : (date : ℕ) → nat_le 0 date ≡ true
from-zero date = grind (arith, nat_tests)

all-from-zero : (rows : List SummaryRow) → filter (λ row. nat_le 0 row.key.date) rows ≡ rows
all-from-zero [] = refl
all-from-zero (row ∷ rows) = ap (λ v. cond v (row ∷ filter (λ r. nat_le 0 r.key.date) rows) (filter (λ r. nat_le 0 r.key.date) rows)) (from-zero row.key.date) ∙ ap (λ (l : List SummaryRow). row ∷ l) (all-from-zero rows)

from-bar-on : (n bar : ℕ) (rows : List SummaryRow) → IsBar n rows bar → filter (λ row. nat_le bar row.key.date) rows ≡ (if n == 0 then rows else last_rows n rows)
from-bar-on n bar rows is_bar =
    alike (λ row. if n == 0 then true else is_among_last n rows row.key.date) (λ row. nat_le bar row.key.date) rows
    (recursion_from_All (λ (row : SummaryRow). (if n == 0 then true else is_among_last n rows row.key.date) ≡ nat_le bar row.key.date) rows is_bar)
    ∙ pick (n == 0)
  where
    pick : (v : Bool) → filter (λ row. if v then true else is_among_last n rows row.key.date) rows ≡ (if v then rows else last_rows n rows)
    pick true = each-kept rows
    pick false = refl

pub last-kept : (n bar : ℕ) (entries kept : List (Box Entry Global)) → IsBar n (rows_of entries) bar → kept ≡ filter (λ b. nat_le bar b.value.key.date) entries
    → rows_of kept ≡ (if n == 0 then rows_of entries else last_rows n (rows_of entries))
last-kept n bar entries kept is_bar is = ap (λ (l : List (Box Entry Global)). rows_of l) is ∙ kept-rows (λ date. nat_le bar date) entries ∙ from-bar-on n bar (rows_of entries) is_bar

pub all-kept : (n bar : ℕ) (rows : List SummaryRow) → IsBar n rows bar → bar ≤ 0 → rows ≡ (if n == 0 then rows else last_rows n rows)
all-kept n zero rows is_bar none = sym (all-from-zero rows) ∙ from-bar-on n 0 rows is_bar
all-kept n (suc bar) rows is_bar none = absurd (omega (arith, none))
