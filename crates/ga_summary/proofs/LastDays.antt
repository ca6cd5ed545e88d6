-- The days of a summary's rows as a rising list of dates, and its last days, which are a summary.
use Rattle.std.proofs.Common.{◌≡◌, ℕ, ◌+◌, ◌≤◌, ◌<◌, ◌==◌, Bool, true, false, cond, ◌&&◌, ◌||◌, List, [], ◌∷◌, Option, Some, None, length, map, refl, sym, ap, ◌∙◌, subst, arith, inl, inr, is_some, eq-eqb}
use Rattle.std.specs.Prelude.{if◌then◌else◌, filter, count_by, sum_by, nat_lt}
use Rattle.std.specs.Option.{option_map_or}
use Rattle.std.specs.List.{AllByRecursion, list_any}
use Rattle.std.specs.List.Sorted.{IsStrictlySortedBy}
use Rattle.std.specs.Ordering.{is_eq}
use Rattle.std.specs.Cmp.{tied_itself}
use Rattle.std.specs.declared.cmp.Ordering.{Ordering}
use Rattle.std.specs.declared.cmp.Ordering.TheVariants.{Less, Equal, Greater}
use Rattle.std.proofs.lemmas.Bool.{cases_lt, eqb-true, false≢true, or_right}
use Rattle.std.proofs.lemmas.Bool.Decides.{nat_tests}
use Rattle.std.proofs.lemmas.List.Elements.{All-filter}
use Rattle.std.proofs.lemmas.List.Sums.{sum_by-cons}
use Rattle.ga_base.specs.Layers.{HasForm, Layer, day_key, in_layer, is_day, is_empty}
use Rattle.ga_base.specs.Orders.{key_cmp, name_cmp, is_same_key, name_of}
use Rattle.ga_base.specs.Panels.{is_same_panel, panel_number}
use Rattle.ga_base.specs.declared.counts.Sums.{Sums}
use Rattle.ga_base.specs.declared.counts.TheConstants.{BIG}
use Rattle.ga_base.specs.declared.key.Key.{Key}
use Rattle.ga_base.specs.declared.key.Visitor.{Visitor}
use Rattle.ga_base.specs.declared.name.Name.{Name}
use Rattle.ga_base.specs.declared.panel.Panel.{Panel}
use Rattle.ga_base.specs.declared.panel.Panel.TheVariants.{Visitors}
use Rattle.ga_base.proofs.OrderLemmas.{key_cmp_exact, key_cmp_total, panel_number_exact}
use Rattle.ga_summary.proofs.RisingDates.{In, Rises, fewer, later}
use Rattle.ga_summary.specs.LastDays.{is_among_last, last_rows, trimmed}
use Rattle.ga_summary.specs.Sound.{HasRow, IsSummary, RowsAreSound, SumsWithin, day_rows, layer_rows}
use Rattle.ga_summary.specs.Steps.LastDays.{days_of}
use Rattle.ga_summary.specs.SummaryRows.{IsInOrder, SummaryRow, SummaryValue, has_name, has_pair, names_at, no_sums, row_at, sums_at}
use Rattle.ga_summary.proofs.DayRows.{day_key_is}
use Rattle.ga_summary.proofs.LayerSteps.{by_panel_and_day}

-- ---- the days of rows

pub all-weaker : {X : Type 0} (P Q : X → Type 0) → ((x : X) → P x → Q x) → (xs : List X) → AllByRecursion P xs → AllByRecursion Q xs
all-weaker P Q from [] all = tt
all-weaker P Q from (x ∷ xs) all = (from x all.0, all-weaker P Q from xs all.1)

has-first : (row : SummaryRow) (rows : List SummaryRow) (key : Key) → row.key ≡ key → HasRow (row ∷ rows) key
has-first row rows key same =
    let itself : is_same_key key row.key ≡ true = ap (λ (k : Key). is_eq (key_cmp key k)) same ∙ ap is_eq (tied_itself key_cmp_total key) in
    ap (λ v. is_some (cond v (Some row) (row_at rows key))) itself

has-more : (row : SummaryRow) (rows : List SummaryRow) (key : Key) → HasRow rows key → HasRow (row ∷ rows) key
has-more row rows key has = pick (is_same_key key row.key)
  where
    pick : (v : Bool) → is_some (cond v (Some row) (row_at rows key)) ≡ true
    pick true = refl
    pick false = has

pub all-have : (rows : List SummaryRow) → AllByRecursion (λ row. HasRow rows row.key) rows
all-have [] = tt
all-have (row ∷ rows) = (has-first row rows row.key refl, all-weaker (λ r. HasRow rows r.key) (λ r. HasRow (row ∷ rows) r.key) (λ r has. has-more row rows r.key has) rows (all-have rows))

pub all-formed : (rows : List SummaryRow) → ((key : Key) → HasRow rows key → HasForm key) → AllByRecursion (λ row. HasForm row.key) rows
all-formed rows form = all-weaker (λ row. HasRow rows row.key) (λ row. HasForm row.key) (λ row has. form row.key has) rows (all-have rows)

both_true : (a b : Bool) → (a && b) ≡ true → (a ≡ true) × (b ≡ true)
both_true true b e = (refl, e)
both_true false b e = cc

empty-is : (text : List ℕ) → is_empty text ≡ true → text ≡ []
empty-is [] e = refl
empty-is (b ∷ text) e = cc

same_panel : (a b : Panel) → is_same_panel a b ≡ true → a ≡ b
unfolding is_same_panel
same_panel a b e = panel_number_exact a b (eqb-true (panel_number a) (panel_number b) e)

same_itself : (panel : Panel) → is_same_panel panel panel ≡ true
unfolding is_same_panel
same_itself panel = eq-eqb (panel_number panel) (panel_number panel) refl

day-is : (key : Key) → HasForm key → is_day key ≡ true → key ≡ day_key key.date
day-is key form holds =
    let parts = both_true (is_same_panel key.panel Visitors) (is_empty key.parent) holds in
    day_key_is key form (same_panel key.panel Visitors parts.0) (empty-is key.parent parts.1)

day-itself : (date : ℕ) → is_day (day_key date) ≡ true
day-itself date = rw (same_itself Visitors) refl

-- a date among the days has its day's row
pub in-has : (rows : List SummaryRow) → AllByRecursion (λ row. HasForm row.key) rows → (date : ℕ) → In date (days_of rows) → HasRow rows (day_key date)
in-has [] all date is = absurd is
in-has (row ∷ rows) all date is = pick (is_day row.key) refl (λ at. has-more row rows (day_key date) (in-has rows all.1 date at)) is
  where
    pick : (v : Bool) → is_day row.key ≡ v → (In date (days_of rows) → HasRow (row ∷ rows) (day_key date))
        → In date (map (λ r. r.key.date) (cond v (row ∷ day_rows rows) (day_rows rows))) → HasRow (row ∷ rows) (day_key date)
    pick true holds rest (inl same) = has-first row rows (day_key date) (day-is row.key all.0 holds ∙ ap day_key (sym same))
    pick true holds rest (inr at) = rest at
    pick false fails rest at = rest at

-- a day that has a row is among the days
pub has-in : (rows : List SummaryRow) (date : ℕ) → HasRow rows (day_key date) → In date (days_of rows)
has-in [] date has = absurd (false≢true has)
has-in (row ∷ rows) date has = pick (is_same_key (day_key date) row.key) refl (λ more. in-more (is_day row.key) (has-in rows date more)) has
  where
    in-more : (v : Bool) → In date (days_of rows) → In date (map (λ r. r.key.date) (cond v (row ∷ day_rows rows) (day_rows rows)))
    in-more true at = inr at
    in-more false at = at

    in-first : day_key date ≡ row.key → In date (days_of (row ∷ rows))
    in-first same =
        let holds : true ≡ is_day row.key = sym (day-itself date) ∙ ap is_day same in
        subst (λ (v : Bool). In date (map (λ r. r.key.date) (cond v (row ∷ day_rows rows) (day_rows rows)))) holds (inl (ap (λ (k : Key). k.date) same))

    pick : (v : Bool) → is_same_key (day_key date) row.key ≡ v → (HasRow rows (day_key date) → In date (days_of (row ∷ rows)))
        → is_some (cond v (Some row) (row_at rows (day_key date))) ≡ true → In date (days_of (row ∷ rows))
    pick true same rest found = in-first (key_cmp_exact (day_key date) row.key (tied _ same))
      where
        tied : (o : Ordering) → is_eq o ≡ true → o ≡ Equal
        tied Less e = cc
        tied Equal e = refl
        tied Greater e = cc
    pick false other rest found = rest found

-- of two days' keys the lower has the earlier date
day-below : (a b : Key) → HasForm a → HasForm b → is_day a ≡ true → is_day b ≡ true → key_cmp a b ≡ Less → a.date < b.date
day-below a b form also holds too less = elim (cases_lt a.date b.date) [
  | inl below ↦ below
  | inr above ↦ elim (by_panel_and_day a b less) [
    | inl lower ↦
        let p : panel_number a.panel ≡ 0 = ap panel_number (same_panel a.panel Visitors (both_true _ _ holds).0) in
        let q : panel_number b.panel ≡ 0 = ap panel_number (same_panel b.panel Visitors (both_true _ _ too).0) in
        absurd (omega (arith, lower, p, q))
    | inr at ↦
        let date : a.date ≡ b.date = omega (arith, at.1, above) in
        let same : a ≡ b = day-is a form holds ∙ ap day_key date ∙ sym (day-is b also too) in
        let clash : Less ≡ Equal = sym less ∙ ap (λ (k : Key). key_cmp k b) same ∙ tied_itself key_cmp_total b in
        cc
  ]
]

days-above : (key : Key) → HasForm key → is_day key ≡ true → (rows : List SummaryRow) → AllByRecursion (λ row. HasForm row.key) rows
    → AllByRecursion (λ k. key_cmp key k ≡ Less) (map (λ row. row.key) rows) → AllByRecursion (λ date. key.date < date) (days_of rows)
days-above key form holds [] all above = tt
days-above key form holds (row ∷ rows) all above = pick (is_day row.key) refl (days-above key form holds rows all.1 above.1)
  where
    pick : (v : Bool) → is_day row.key ≡ v → AllByRecursion (λ date. key.date < date) (days_of rows)
        → AllByRecursion (λ date. key.date < date) (map (λ r. r.key.date) (cond v (row ∷ day_rows rows) (day_rows rows)))
    pick true too rest = (day-below key row.key form all.0 holds too above.0, rest)
    pick false fails rest = rest

pub days-rise : (rows : List SummaryRow) → AllByRecursion (λ row. HasForm row.key) rows → IsStrictlySortedBy key_cmp (map (λ row. row.key) rows) → Rises (days_of rows)
unfolding IsStrictlySortedBy
days-rise [] all sorted = tt
days-rise (row ∷ rows) all sorted = pick (is_day row.key) refl (days-rise rows all.1 sorted.1)
  where
    pick : (v : Bool) → is_day row.key ≡ v → Rises (days_of rows) → Rises (map (λ r. r.key.date) (cond v (row ∷ day_rows rows) (day_rows rows)))
    pick true holds rest = (days-above row.key all.0 holds rows all.1 sorted.0, rest)
    pick false fails rest = rest

-- ---- the test of the last days

is-any : (date : ℕ) (rows : List SummaryRow) → list_any (λ row. date == row.key.date) rows ≡ true → In date (map (λ row. row.key.date) rows)
is-any date [] e = absurd (false≢true e)
is-any date (row ∷ rows) e = pick (date == row.key.date) refl (λ more. is-any date rows more) e
  where
    pick : (v : Bool) → (date == row.key.date) ≡ v → (list_any (λ r. date == r.key.date) rows ≡ true → In date (map (λ r. r.key.date) rows))
        → (v || list_any (λ r. date == r.key.date) rows) ≡ true → In date (map (λ r. r.key.date) (row ∷ rows))
    pick true same rest found = inl (eqb-true date row.key.date same)
    pick false other rest found = inr (rest found)

any-is : (date : ℕ) (rows : List SummaryRow) → In date (map (λ row. row.key.date) rows) → list_any (λ row. date == row.key.date) rows ≡ true
any-is date [] is = absurd is
any-is date (row ∷ rows) (inl same) = ap (λ v. v || list_any (λ r. date == r.key.date) rows) (eq-eqb date row.key.date same)
any-is date (row ∷ rows) (inr at) = or_right _ _ (any-is date rows at)

count-later : (date : ℕ) (rows : List SummaryRow) → count_by (λ row. nat_lt date row.key.date) rows ≡ later date (map (λ row. row.key.date) rows)
count-later date [] = refl
count-later date (row ∷ rows) = sum_by-cons (λ (r : SummaryRow). cond (nat_lt date r.key.date) 1 0) row rows ∙ ap (λ n. cond (nat_lt date row.key.date) 1 0 + n) (count-later date rows)

lt-true : (m n : ℕ) → nat_lt m n ≡ true → m < n
lt-true m n e = grind (arith, nat_tests)

true-lt : (m n : ℕ) → m < n → nat_lt m n ≡ true
true-lt m n less = grind (arith, nat_tests)

pub among-is : (n : ℕ) (rows : List SummaryRow) (date : ℕ) → is_among_last n rows date ≡ true → In date (days_of rows) × (later date (days_of rows) < n)
among-is n rows date holds =
    let parts = both_true _ _ holds in
    (is-any date (day_rows rows) parts.0, subst (λ (m : ℕ). m < n) (count-later date (day_rows rows)) (lt-true _ n parts.1))

pub is-among : (n : ℕ) (rows : List SummaryRow) (date : ℕ) → In date (days_of rows) → later date (days_of rows) < n → is_among_last n rows date ≡ true
is-among n rows date is few =
    let some = any-is date (day_rows rows) is in
    let less = true-lt _ n (subst (λ (m : ℕ). m < n) (sym (count-later date (day_rows rows))) few) in
    λ i. some i && less i

-- ---- what is found in the rows of the last days

no-row : (v : Bool) → ◌≡◌ {A = Option SummaryRow} None (cond v None None)
no-row true = refl
no-row false = refl

pub kept-at : (test : ℕ → Bool) (rows : List SummaryRow) (key : Key) → row_at (filter (λ row. test row.key.date) rows) key ≡ cond (test key.date) (row_at rows key) None
kept-at test [] key = no-row (test key.date)
kept-at test (row ∷ rows) key = pick (is_same_key key row.key) (test row.key.date) refl refl (kept-at test rows key)
  where
    tied : (o : Ordering) → is_eq o ≡ true → o ≡ Equal
    tied Less e = cc
    tied Equal e = refl
    tied Greater e = cc

    at_key : is_same_key key row.key ≡ true → test key.date ≡ test row.key.date
    at_key same = ap (λ (k : Key). test k.date) (key_cmp_exact key row.key (tied _ same))

    pick : (v w : Bool) → is_same_key key row.key ≡ v → test row.key.date ≡ w → row_at (filter (λ r. test r.key.date) rows) key ≡ cond (test key.date) (row_at rows key) None
        → row_at (cond w (row ∷ filter (λ r. test r.key.date) rows) (filter (λ r. test r.key.date) rows)) key ≡ cond (test key.date) (cond v (Some row) (row_at rows key)) None
    pick true true same holds rest =
        ap (λ v. cond v (Some row) (row_at (filter (λ r. test r.key.date) rows) key)) same ∙ sym (ap (λ v. cond v (Some row) None) (at_key same ∙ holds))
    pick true false same fails rest =
        rest ∙ ap (λ v. cond v (row_at rows key) None) (at_key same ∙ fails) ∙ sym (ap (λ v. cond v (Some row) None) (at_key same ∙ fails))
    pick false true other holds rest = ap (λ v. cond v (Some row) (row_at (filter (λ r. test r.key.date) rows) key)) other ∙ rest
    pick false false other fails rest = rest

keys-above : (test : SummaryRow → Bool) (key : Key) (rows : List SummaryRow) → AllByRecursion (λ k. key_cmp key k ≡ Less) (map (λ row. row.key) rows)
    → AllByRecursion (λ k. key_cmp key k ≡ Less) (map (λ row. row.key) (filter test rows))
keys-above test key [] above = tt
keys-above test key (row ∷ rows) above = pick (test row) (keys-above test key rows above.1)
  where
    pick : (v : Bool) → AllByRecursion (λ k. key_cmp key k ≡ Less) (map (λ r. r.key) (filter test rows))
        → AllByRecursion (λ k. key_cmp key k ≡ Less) (map (λ r. r.key) (cond v (row ∷ filter test rows) (filter test rows)))
    pick true rest = (above.0, rest)
    pick false rest = rest

keys-rise : (test : SummaryRow → Bool) (rows : List SummaryRow) → IsStrictlySortedBy key_cmp (map (λ row. row.key) rows) → IsStrictlySortedBy key_cmp (map (λ row. row.key) (filter test rows))
unfolding IsStrictlySortedBy
keys-rise test [] sorted = tt
keys-rise test (row ∷ rows) sorted = pick (test row) (keys-rise test rows sorted.1)
  where
    pick : (v : Bool) → IsStrictlySortedBy key_cmp (map (λ r. r.key) (filter test rows)) → IsStrictlySortedBy key_cmp (map (λ r. r.key) (cond v (row ∷ filter test rows) (filter test rows)))
    pick true rest = (keys-above test row.key rows sorted.0, rest)
    pick false rest = rest

pub filter-ordered : (test : SummaryRow → Bool) (rows : List SummaryRow) → IsInOrder rows → IsInOrder (filter test rows)
filter-ordered test rows ordered = record { keys = keys-rise test rows ordered.keys; names = All-filter test (λ row. IsStrictlySortedBy name_cmp row.names) rows ordered.names }

pub both-some : (v : Bool) (found : Option SummaryRow) → is_some (cond v found None) ≡ true → (v ≡ true) × (is_some found ≡ true)
both-some true found some = (refl, some)
both-some false found some = absurd (false≢true some)

-- ---- the last days of a summary are a summary

abbrev IsOf : ℕ → (Key → Bool) → SummaryRow → Bool
IsOf date test row = (row.key.date == date) && test row.key

no-rows : (v : Bool) → ◌≡◌ {A = List SummaryRow} [] (cond v [] [])
no-rows true = refl
no-rows false = refl

-- rows of one date are all kept or none
of-date : (kept : ℕ → Bool) (date : ℕ) (test : Key → Bool) (rows : List SummaryRow)
    → filter (IsOf date test) (filter (λ row. kept row.key.date) rows) ≡ cond (kept date) (filter (IsOf date test) rows) []
of-date kept date test [] = no-rows (kept date)
of-date kept date test (row ∷ rows) = pick (IsOf date test row) (kept row.key.date) refl refl (of-date kept date test rows)
  where
    at_date : IsOf date test row ≡ true → kept date ≡ kept row.key.date
    at_date is = ap kept (sym (eqb-true row.key.date date (both_true _ _ is).0))

    pick : (v w : Bool) → IsOf date test row ≡ v → kept row.key.date ≡ w
        → filter (IsOf date test) (filter (λ r. kept r.key.date) rows) ≡ cond (kept date) (filter (IsOf date test) rows) []
        → filter (IsOf date test) (cond w (row ∷ filter (λ r. kept r.key.date) rows) (filter (λ r. kept r.key.date) rows))
        ≡ cond (kept date) (cond v (row ∷ filter (IsOf date test) rows) (filter (IsOf date test) rows)) []
    pick true true is stays rest =
        let here : kept date ≡ true = at_date is ∙ stays in
        ap (λ v. cond v (row ∷ filter (IsOf date test) (filter (λ r. kept r.key.date) rows)) (filter (IsOf date test) (filter (λ r. kept r.key.date) rows))) is
        ∙ ap (λ (l : List SummaryRow). row ∷ l) (rest ∙ ap (λ v. cond v (filter (IsOf date test) rows) []) here)
        ∙ sym (ap (λ v. cond v (row ∷ filter (IsOf date test) rows) []) here)
    pick true false is goes rest =
        let here : kept date ≡ false = at_date is ∙ goes in
        rest ∙ ap (λ v. cond v (filter (IsOf date test) rows) []) here ∙ sym (ap (λ v. cond v (row ∷ filter (IsOf date test) rows) []) here)
    pick false true other stays rest =
        ap (λ v. cond v (row ∷ filter (IsOf date test) (filter (λ r. kept r.key.date) rows)) (filter (IsOf date test) (filter (λ r. kept r.key.date) rows))) other ∙ rest
    pick false false other goes rest = rest

-- a sum over fewer rows is no more
sum-fewer : (f : SummaryRow → ℕ) (test kept : SummaryRow → Bool) (rows : List SummaryRow) → sum_by f (filter test (filter kept rows)) ≤ sum_by f (filter test rows)
sum-fewer f test kept [] = omega arith
sum-fewer f test kept (row ∷ rows) = pick (test row) (kept row) refl (sum-fewer f test kept rows)
  where
    pick : (v w : Bool) → test row ≡ v → sum_by f (filter test (filter kept rows)) ≤ sum_by f (filter test rows)
        → sum_by f (filter test (cond w (row ∷ filter kept rows) (filter kept rows))) ≤ sum_by f (cond v (row ∷ filter test rows) (filter test rows))
    pick true true is rest =
        let left = ap (λ v. sum_by f (cond v (row ∷ filter test (filter kept rows)) (filter test (filter kept rows)))) is in
        omega (arith, left, sum_by-cons f row (filter test (filter kept rows)), sum_by-cons f row (filter test rows), rest)
    pick true false is rest = omega (arith, sum_by-cons f row (filter test rows), rest)
    pick false true other rest =
        let left = ap (λ v. sum_by f (cond v (row ∷ filter test (filter kept rows)) (filter test (filter kept rows)))) other in
        omega (arith, left, rest)
    pick false false other rest = rest

same-all : (test : SummaryRow → Bool) (rows : List SummaryRow) → AllByRecursion (λ row. test row ≡ true) rows → filter test rows ≡ rows
same-all test [] all = refl
same-all test (row ∷ rows) all = ap (λ v. cond v (row ∷ filter test rows) (filter test rows)) all.0 ∙ ap (λ (l : List SummaryRow). row ∷ l) (same-all test rows all.1)

module _ (n : ℕ) (s : SummaryValue) (x : IsSummary s) where
  abbrev kept : ℕ → Bool
  kept date = is_among_last n s.rows date

  abbrev left : List SummaryRow
  left = last_rows n s.rows

  found : (key : Key) → row_at left key ≡ cond (kept key.date) (row_at s.rows key) None
  found key = kept-at kept s.rows key

  was : (key : Key) → HasRow left key → (kept key.date ≡ true) × HasRow s.rows key
  was key has = both-some _ _ (sym (ap is_some (found key)) ∙ has)

  stays : (key : Key) → kept key.date ≡ true → row_at left key ≡ row_at s.rows key
  stays key is = found key ∙ ap (λ v. cond v (row_at s.rows key) None) is

  goes : (key : Key) → kept key.date ≡ false → row_at left key ≡ None
  goes key is = found key ∙ ap (λ v. cond v (row_at s.rows key) None) is

  sums_stay : (key : Key) → kept key.date ≡ true → sums_at left key ≡ sums_at s.rows key
  sums_stay key is = ap (λ (o : Option SummaryRow). option_map_or (λ row. row.sums) o no_sums) (stays key is)

  no_sums_left : (key : Key) → kept key.date ≡ false → sums_at left key ≡ no_sums
  no_sums_left key is = ap (λ (o : Option SummaryRow). option_map_or (λ row. row.sums) o no_sums) (goes key is)

  names_stay : (key : Key) → kept key.date ≡ true → names_at left key ≡ names_at s.rows key
  names_stay key is = ap (λ (o : Option SummaryRow). option_map_or (λ row. row.names) o []) (stays key is)

  no_names_left : (key : Key) → kept key.date ≡ false → names_at left key ≡ []
  no_names_left key is = ap (λ (o : Option SummaryRow). option_map_or (λ row. row.names) o []) (goes key is)

  left_layers : (layer : Layer) (date : ℕ) → let day = sums_at left (day_key date) in SumsWithin (layer_rows layer date left) day.hits day.bytes day.micros
  left_layers layer date = pick (kept date) refl
    where
      was_within : let day = sums_at s.rows (day_key date) in SumsWithin (layer_rows layer date s.rows) day.hits day.bytes day.micros
      was_within = x.sound.rows.layers layer date

      rows_are : layer_rows layer date left ≡ cond (kept date) (layer_rows layer date s.rows) []
      rows_are = of-date kept date (in_layer layer) s.rows

      pick : (v : Bool) → kept date ≡ v → SumsWithin (layer_rows layer date left) (sums_at left (day_key date)).hits (sums_at left (day_key date)).bytes (sums_at left (day_key date)).micros
      pick true is = rw (rows_are, is, sums_stay (day_key date) is) was_within
      pick false is =
          let none : layer_rows layer date left ≡ [] = rows_are ∙ ap (λ v. cond v (layer_rows layer date s.rows) []) is in
          rw none (record { hits = omega arith; bytes = omega arith; micros = omega arith })

  left_hit : (key : Key) → HasRow left key → 1 ≤ (sums_at left key).hits
  left_hit key has =
      let o = was key has in
      subst (λ (v : Sums). 1 ≤ v.hits) (sym (sums_stay key o.0)) (x.sound.rows.hit key o.1)

  left_visitors : (key : Key) (visitor : Visitor) → has_pair left key visitor ≡ true → has_pair left (day_key key.date) visitor ≡ true
  left_visitors key visitor has = pick (kept key.date) refl
    where
      pick : (v : Bool) → kept key.date ≡ v → has_pair left (day_key key.date) visitor ≡ true
      pick true is =
          let here : has_pair s.rows key visitor ≡ true = sym (ap (λ (l : List Name). (visitor.date == key.date) && has_name l (name_of visitor)) (names_stay key is)) ∙ has in
          ap (λ (l : List Name). (visitor.date == key.date) && has_name l (name_of visitor)) (names_stay (day_key key.date) is) ∙ x.sound.rows.visitors key visitor here
      pick false is =
          let none : ((visitor.date == key.date) && has_name [] (name_of visitor)) ≡ true = sym (ap (λ (l : List Name). (visitor.date == key.date) && has_name l (name_of visitor)) (no_names_left key is)) ∙ has in
          absurd (false≢true ((both_true _ _ none).1))

  left_visits : (key : Key) → length (names_at left key) ≤ (sums_at left key).hits
  left_visits key = pick (kept key.date) refl
    where
      pick : (v : Bool) → kept key.date ≡ v → length (names_at left key) ≤ (sums_at left key).hits
      pick true is = omega (arith, ap (λ (l : List Name). length l) (names_stay key is), ap (λ (v : Sums). v.hits) (sums_stay key is), x.sound.rows.visits key)
      pick false is = omega (arith, ap (λ (l : List Name). length l) (no_names_left key is))

  left_times : (key : Key) → ((sums_at left key).max_micros ≤ BIG) × ((sums_at left key).max_micros ≤ (sums_at left key).micros)
  left_times key = pick (kept key.date) refl
    where
      pick : (v : Bool) → kept key.date ≡ v → ((sums_at left key).max_micros ≤ BIG) × ((sums_at left key).max_micros ≤ (sums_at left key).micros)
      pick true is = subst (λ (v : Sums). (v.max_micros ≤ BIG) × (v.max_micros ≤ v.micros)) (sym (sums_stay key is)) (x.sound.totals.times key)
      pick false is = subst (λ (v : Sums). (v.max_micros ≤ BIG) × (v.max_micros ≤ v.micros)) (sym (no_sums_left key is)) (omega arith, omega arith)

  left_rows : RowsAreSound left
  left_rows = record {
    form = λ key has. x.sound.rows.form key (was key has).1;
    day = λ key has.
        let o = was key has in
        ap is_some (stays (day_key key.date) o.0) ∙ x.sound.rows.day key o.1;
    layers = left_layers;
    hit = left_hit;
    visitors = left_visitors;
    visits = left_visits;
  }

  left_days : SumsWithin (day_rows left) s.totals.hits s.totals.bytes s.totals.micros
  left_days = record {
    hits = omega (arith, x.sound.totals.days.hits, sum-fewer (λ row. row.sums.hits) (λ row. is_day row.key) (λ row. kept row.key.date) s.rows);
    bytes = omega (arith, x.sound.totals.days.bytes, sum-fewer (λ row. row.sums.bytes) (λ row. is_day row.key) (λ row. kept row.key.date) s.rows);
    micros = omega (arith, x.sound.totals.days.micros, sum-fewer (λ row. row.sums.micros) (λ row. is_day row.key) (λ row. kept row.key.date) s.rows);
  }

  pub left-summary : IsSummary (record { totals = s.totals; rows = last_rows n s.rows })
  left-summary = record {
    ordered = filter-ordered (λ row. kept row.key.date) s.rows x.ordered;
    sound = record { rows = left_rows; totals = record { days = left_days; lines = x.sound.totals.lines; fit = x.sound.totals.fit; times = left_times } };
  }

  -- the days that are left are all among their last
  all_left : AllByRecursion (λ row. is_among_last n left row.key.date ≡ true) left
  all_left = all-weaker (λ row. HasRow left row.key) (λ row. is_among_last n left row.key.date ≡ true) (λ row has. still row.key has) left (all-have left)
    where
      still : (key : Key) → HasRow left key → is_among_last n left key.date ≡ true
      still key has =
          let formed = all-formed s.rows x.sound.rows.form in
          let also = all-formed left left_rows.form in
          let rise = days-rise s.rows formed x.ordered.keys in
          let up = days-rise left also (filter-ordered (λ row. kept row.key.date) s.rows x.ordered).keys in
          let few = (among-is n s.rows key.date (was key has).0).1 in
          let less = fewer key.date (days_of left) (days_of s.rows) up rise (λ e at more. has-in s.rows e (was (day_key e) (in-has left also e at)).1) in
          is-among n left key.date (has-in left key.date (left_rows.day key has)) (omega (arith, few, less))

  pub left-twice : last_rows n left ≡ left
  left-twice = same-all (λ row. is_among_last n left row.key.date) left all_left

-- the last days of a summary are a summary
pub trimmed-summary : (n : ℕ) (s : SummaryValue) → IsSummary s → IsSummary (trimmed n s)
trimmed-summary n s x = pick (n == 0)
  where
    pick : (v : Bool) → IsSummary (if v then s else record { totals = s.totals; rows = last_rows n s.rows })
    pick true = x
    pick false = left-summary n s x

-- and so are these rows with the totals
pub with-rows : (n : ℕ) (s : SummaryValue) (rows : List SummaryRow) → IsSummary s → rows ≡ (if n == 0 then s.rows else last_rows n s.rows) → IsSummary (record { totals = s.totals; rows = rows })
with-rows n s rows x are = pick (n == 0) are
  where
    pick : (v : Bool) → rows ≡ (if v then s.rows else last_rows n s.rows) → IsSummary (record { totals = s.totals; rows = rows })
    pick true same = subst (λ (l : List SummaryRow). IsSummary (record { totals = s.totals; rows = l })) (sym same) x
    pick false same = subst (λ (l : List SummaryRow). IsSummary (record { totals = s.totals; rows = l })) (sym same) (left-summary n s x)

pub trimmed-twice : (n : ℕ) (s : SummaryValue) → IsSummary s → trimmed n (trimmed n s) ≡ trimmed n s
trimmed-twice n s x = pick (n == 0)
  where
    pick : (v : Bool) → (if v then (if v then s else record { totals = s.totals; rows = last_rows n s.rows }) else record { totals = (if v then s else record { totals = s.totals; rows = last_rows n s.rows }).totals; rows = last_rows n (if v then s else record { totals = s.totals; rows = last_rows n s.rows }).rows })
        ≡ (if v then s else record { totals = s.totals; rows = last_rows n s.rows })
    pick true = refl
    pick false = let rows = left-twice n s x in λ i. record { totals = s.totals; rows = rows i }

pub trimmed-totals : (n : ℕ) (s : SummaryValue) → (trimmed n s).totals ≡ s.totals
trimmed-totals n s = pick (n == 0)
  where
    pick : (v : Bool) → (if v then s else record { totals = s.totals; rows = last_rows n s.rows }).totals ≡ s.totals
    pick true = refl
    pick false = refl
