-- The last days of the last days are they, of any rows.
use Rattle.std.proofs.Common.{◌≡◌, ℕ, ◌≤◌, ◌==◌, Bool, true, false, cond, ◌&&◌, ◌||◌, List, [], ◌∷◌, refl, sym, ap, ◌∙◌, arith}
use Rattle.std.specs.Prelude.{if◌then◌else◌, filter, count_by, nat_lt}
use Rattle.std.specs.List.{AllByRecursion, list_any}
use Rattle.std.proofs.lemmas.Bool.{eqb-true, false≢true}
use Rattle.std.proofs.lemmas.Bool.Decides.{nat_tests}
use Rattle.std.proofs.lemmas.List.Sums.{sum_by-cons}
use Rattle.ga_base.specs.Layers.{is_day}
use Rattle.ga_summary.specs.LastDays.{is_among_last, last_rows, later_days, trimmed}
use Rattle.ga_summary.specs.Sound.{day_rows}
use Rattle.ga_summary.specs.SummaryRows.{SummaryRow, SummaryValue}

-- ---- the rows of some days

-- a day that is kept has its row still
has-still : (date : ℕ) (kept : ℕ → Bool) → kept date ≡ true → (rows : List SummaryRow) → list_any (λ row. date == row.key.date) (day_rows rows) ≡ true
    → list_any (λ row. date == row.key.date) (day_rows (filter (λ row. kept row.key.date) rows)) ≡ true
has-still date kept is [] has = absurd (false≢true has)
has-still date kept is (row ∷ rows) has = pick (is_day row.key) (kept row.key.date) (date == row.key.date) refl refl refl (has-still date kept is rows) has
  where
    pick : (v w t : Bool) → is_day row.key ≡ v → kept row.key.date ≡ w → (date == row.key.date) ≡ t
        → (list_any (λ r. date == r.key.date) (day_rows rows) ≡ true → list_any (λ r. date == r.key.date) (day_rows (filter (λ r. kept r.key.date) rows)) ≡ true)
        → list_any (λ r. date == r.key.date) (cond v (row ∷ day_rows rows) (day_rows rows)) ≡ true
        → list_any (λ r. date == r.key.date) (day_rows (cond w (row ∷ filter (λ r. kept r.key.date) rows) (filter (λ r. kept r.key.date) rows))) ≡ true
    pick true true true day stays same rest found =
        ap (λ v. list_any (λ r. date == r.key.date) (cond v (row ∷ day_rows (filter (λ r. kept r.key.date) rows)) (day_rows (filter (λ r. kept r.key.date) rows)))) day
        ∙ ap (λ t. t || list_any (λ r. date == r.key.date) (day_rows (filter (λ r. kept r.key.date) rows))) same
    pick true true false day stays other rest found =
        ap (λ v. list_any (λ r. date == r.key.date) (cond v (row ∷ day_rows (filter (λ r. kept r.key.date) rows)) (day_rows (filter (λ r. kept r.key.date) rows)))) day
        ∙ ap (λ t. t || list_any (λ r. date == r.key.date) (day_rows (filter (λ r. kept r.key.date) rows))) other
        ∙ rest (sym (ap (λ t. t || list_any (λ r. date == r.key.date) (day_rows rows)) other) ∙ found)
    pick true false true day goes same rest found =
        absurd (false≢true (sym goes ∙ ap kept (sym (eqb-true date row.key.date same)) ∙ is))
    pick true false false day goes other rest found = rest (sym (ap (λ t. t || list_any (λ r. date == r.key.date) (day_rows rows)) other) ∙ found)
    pick false true t none stays same rest found =
        ap (λ v. list_any (λ r. date == r.key.date) (cond v (row ∷ day_rows (filter (λ r. kept r.key.date) rows)) (day_rows (filter (λ r. kept r.key.date) rows)))) none
        ∙ rest found
    pick false false t none goes same rest found = rest found

-- of fewer rows no more days are later
fewer-days : (date : ℕ) (kept : SummaryRow → Bool) (rows : List SummaryRow) → later_days (filter kept rows) date ≤ later_days rows date
fewer-days date kept [] = omega arith
fewer-days date kept (row ∷ rows) = pick (is_day row.key) (kept row) refl (fewer-days date kept rows)
  where
    pick : (v w : Bool) → is_day row.key ≡ v → later_days (filter kept rows) date ≤ later_days rows date
        → count_by (λ r. nat_lt date r.key.date) (day_rows (cond w (row ∷ filter kept rows) (filter kept rows))) ≤ count_by (λ r. nat_lt date r.key.date) (cond v (row ∷ day_rows rows) (day_rows rows))
    pick true true day rest =
        let left = ap (λ v. count_by (λ (r : SummaryRow). nat_lt date r.key.date) (cond v (row ∷ day_rows (filter kept rows)) (day_rows (filter kept rows)))) day in
        omega (arith, left, sum_by-cons (λ (r : SummaryRow). cond (nat_lt date r.key.date) 1 0) row (day_rows (filter kept rows)), sum_by-cons (λ (r : SummaryRow). cond (nat_lt date r.key.date) 1 0) row (day_rows rows), rest)
    pick true false day rest = omega (arith, sum_by-cons (λ (r : SummaryRow). cond (nat_lt date r.key.date) 1 0) row (day_rows rows), rest)
    pick false true none rest =
        let left = ap (λ v. count_by (λ (r : SummaryRow). nat_lt date r.key.date) (cond v (row ∷ day_rows (filter kept rows)) (day_rows (filter kept rows)))) none in
        omega (arith, left, rest)
    pick false false none rest = rest

-- ---- the last days

less-still : (a b n : ℕ) → a ≤ b → nat_lt b n ≡ true → nat_lt a n ≡ true
less-still a b n le less = grind (arith, nat_tests)

both-true : (a b : Bool) → (a && b) ≡ true → (a ≡ true) × (b ≡ true)
both-true true b e = (refl, e)
both-true false b e = absurd (false≢true e)

-- a day that is among the last of all is among the last of these
among-still : (n : ℕ) (rows : List SummaryRow) (date : ℕ) → is_among_last n rows date ≡ true → is_among_last n (last_rows n rows) date ≡ true
among-still n rows date among =
    let parts = both-true _ _ among in
    let has = has-still date (λ d. is_among_last n rows d) among rows parts.0 in
    let few = less-still _ _ n (fewer-days date (λ row. is_among_last n rows row.key.date) rows) parts.1 in
    λ i. has i && few i

all-left : (kept : ℕ → Bool) (Holds : SummaryRow → Type 0) → ((row : SummaryRow) → kept row.key.date ≡ true → Holds row) → (rows : List SummaryRow)
    → AllByRecursion Holds (filter (λ row. kept row.key.date) rows)
all-left kept Holds from [] = tt
all-left kept Holds from (row ∷ rows) = pick (kept row.key.date) refl (all-left kept Holds from rows)
  where
    pick : (v : Bool) → kept row.key.date ≡ v → AllByRecursion Holds (filter (λ r. kept r.key.date) rows)
        → AllByRecursion Holds (cond v (row ∷ filter (λ r. kept r.key.date) rows) (filter (λ r. kept r.key.date) rows))
    pick true stays rest = (from row stays, rest)
    pick false goes rest = rest

same-all : (test : SummaryRow → Bool) (rows : List SummaryRow) → AllByRecursion (λ row. test row ≡ true) rows → filter test rows ≡ rows
same-all test [] all = refl
same-all test (row ∷ rows) all = ap (λ v. cond v (row ∷ filter test rows) (filter test rows)) all.0 ∙ ap (λ (l : List SummaryRow). row ∷ l) (same-all test rows all.1)

last-again : (n : ℕ) (rows : List SummaryRow) → last_rows n (last_rows n rows) ≡ last_rows n rows
last-again n rows =
    same-all (λ row. is_among_last n (last_rows n rows) row.key.date) (last_rows n rows)
    (all-left (λ date. is_among_last n rows date) (λ row. is_among_last n (last_rows n rows) row.key.date ≡ true) (λ row among. among-still n rows row.key.date among) rows)

pub trimmed-again : (n : ℕ) (s : SummaryValue) → trimmed n (trimmed n s) ≡ trimmed n s
trimmed-again n s = pick (n == 0)
  where
    pick : (v : Bool) → (if v then (if v then s else record { totals = s.totals; rows = last_rows n s.rows }) else record { totals = (if v then s else record { totals = s.totals; rows = last_rows n s.rows }).totals; rows = last_rows n (if v then s else record { totals = s.totals; rows = last_rows n s.rows }).rows })
        ≡ (if v then s else record { totals = s.totals; rows = last_rows n s.rows })
    pick true = refl
    pick false = let rows = last-again n s.rows in λ i. record { totals = s.totals; rows = rows i }
