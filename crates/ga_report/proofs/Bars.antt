-- The first of the last days: what stands at a place in sorted dates, and how many are later than a date.
use Rattle.std.proofs.Common.{◌≡◌, ℕ, zero, suc, ◌+◌, ◌-◌, ◌<◌, ◌≤◌, ◌==◌, ◌&&◌, ◌||◌, Bool, true, false, cond, nat_lt, List, [], ◌∷◌, length, get_or, map, refl, sym, ap, ◌∙◌, subst, inl, inr, arith, All}
use Rattle.std.specs.Prelude.{count_by, nat_le}
use Rattle.std.specs.Ordering.{nat_cmp}
use Rattle.std.specs.List.{list_any}
use Rattle.std.specs.List.Sorted.{IsNonDecreasing, IsPermutation, IsSorted}
use Rattle.std.proofs.lemmas.Bool.{cases_lt, eqb-true, false≢true}
use Rattle.std.proofs.lemmas.Bool.Decides.{nat_tests}
use Rattle.std.proofs.lemmas.List.{length-map}
use Rattle.std.proofs.lemmas.List.Elements.{All-from_recursion, recursion_from_All}
use Rattle.std.proofs.lemmas.List.Sorted.{IsNonDecreasingBy-from_sort, length_permutation, sum_by-IsPermutation}
use Rattle.std.proofs.lemmas.List.Sums.{sum_by-cons}
use Rattle.ga_report.specs.LastDays.{is_among_last, later_days}
use Rattle.ga_report.specs.SoundRows.{AreSound, HasDay, day_rows}
use Rattle.ga_report.specs.Source.{SourceRow}
use Rattle.ga_report.specs.Steps.LastDays.{IsBar, days_of}
use Rattle.ga_report.proofs.Lists.{all-weaker}

-- how many of the dates are later
abbrev later : ℕ → List ℕ → ℕ
later d xs = count_by (nat_lt d) xs

is-less : (m n : ℕ) → m < n → nat_lt m n ≡ true
is-less m n less = grind (arith, nat_tests)

not-less : (m n : ℕ) → n ≤ m → nat_lt m n ≡ false
not-less m n le = grind (arith, nat_tests)

pub is-up-to : (m n : ℕ) → m ≤ n → nat_le m n ≡ true
is-up-to m n le = grind (arith, nat_tests)

pub not-up-to : (m n : ℕ) → n < m → nat_le m n ≡ false
not-up-to m n less = grind (arith, nat_tests)

one-later : (d x : ℕ) (xs : List ℕ) → d < x → later d (x ∷ xs) ≡ 1 + later d xs
one-later d x xs less = sum_by-cons (λ (y : ℕ). cond (nat_lt d y) 1 0) x xs ∙ ap (λ b. cond b 1 0 + later d xs) (is-less d x less)

none-later : (d x : ℕ) (xs : List ℕ) → x ≤ d → later d (x ∷ xs) ≡ later d xs
none-later d x xs le = sum_by-cons (λ (y : ℕ). cond (nat_lt d y) 1 0) x xs ∙ ap (λ b. cond b 1 0 + later d xs) (not-less d x le) ∙ omega arith

later-length : (d : ℕ) (xs : List ℕ) → later d xs ≤ length xs
later-length d [] = omega arith
later-length d (x ∷ xs) = elim (cases_lt d x) [
  | inl less ↦ omega (arith, one-later d x xs less, later-length d xs)
  | inr le ↦ omega (arith, none-later d x xs le, later-length d xs)
]

rest-up : (x : ℕ) (xs : List ℕ) → IsNonDecreasing (x ∷ xs) → IsNonDecreasing xs
rest-up x xs up i j d le below = up (suc i) (suc j) d (omega (arith, le)) (omega (arith, below))

first-least : (x : ℕ) (xs : List ℕ) (k : ℕ) → IsNonDecreasing (x ∷ xs) → k < length xs → x ≤ get_or xs k 0
first-least x xs k up below = up 0 (suc k) 0 (omega arith) (omega (arith, below))

-- of a date from that at a place on, no more are later than stand after the place
few-later : (d : ℕ) (xs : List ℕ) (k : ℕ) → IsNonDecreasing xs → k < length xs → get_or xs k 0 ≤ d → later d xs + k < length xs
few-later d [] k up below at = absurd (omega (arith, below))
few-later d (x ∷ xs) zero up below at = omega (arith, none-later d x xs at, later-length d xs)
few-later d (x ∷ xs) (suc k) up below at =
    let inside : k < length xs = omega (arith, below) in
    let least = first-least x xs k up inside in
    let rest = few-later d xs k (rest-up x xs up) inside at in
    omega (arith, none-later d x xs (omega (arith, least, at)), rest)

-- of an earlier one all from the place on are later
many-later : (d : ℕ) (xs : List ℕ) (k : ℕ) → IsNonDecreasing xs → k < length xs → d < get_or xs k 0 → length xs ≤ later d xs + k
many-later d [] k up below at = omega arith
many-later d (x ∷ xs) zero up below at = omega (arith, one-later d x xs at, all-later xs (rest-up x xs up) (λ k inside. first-least x xs k up inside))
  where
    all-later : (ys : List ℕ) → IsNonDecreasing ys → ((k : ℕ) → k < length ys → x ≤ get_or ys k 0) → length ys ≤ later d ys
    all-later [] up' least = omega arith
    all-later (y ∷ ys) up' least =
        let first : x ≤ y = least 0 (omega arith) in
        omega (arith, one-later d y ys (omega (arith, at, first)), all-later ys (rest-up y ys up') (λ k inside. least (suc k) (omega (arith, inside))))
many-later d (x ∷ xs) (suc k) up below at =
    let rest = many-later d xs k (rest-up x xs up) (omega (arith, below)) at in
    elim (cases_lt d x) [
      | inl less ↦ omega (arith, one-later d x xs less, rest)
      | inr le ↦ omega (arith, none-later d x xs le, rest)
    ]

-- a date at the head of which others stand isn't later than itself
some-not-later : (d : ℕ) (rows : List SourceRow) → list_any (λ row. d == row.key.date) rows ≡ true → later d (map (λ row. row.key.date) rows) < length rows
some-not-later d [] has = absurd (false≢true has)
some-not-later d (row ∷ rows) has = pick (d == row.key.date) refl has (some-not-later d rows)
  where
    dates : List ℕ
    dates = map (λ r. r.key.date) rows

    many : length dates ≡ length rows
    many = length-map rows (λ (r : SourceRow). r.key.date)

    pick : (b : Bool) → (d == row.key.date) ≡ b → (b || list_any (λ r. d == r.key.date) rows) ≡ true
        → (list_any (λ r. d == r.key.date) rows ≡ true → later d dates < length rows) → later d (row.key.date ∷ dates) < length (row ∷ rows)
    pick true same found deeper = omega (arith, none-later d row.key.date dates (omega (arith, eqb-true d row.key.date same)), later-length d dates, many)
    pick false other found deeper = elim (cases_lt d row.key.date) [
      | inl less ↦ omega (arith, one-later d row.key.date dates less, deeper found)
      | inr le ↦ omega (arith, none-later d row.key.date dates le, deeper found)
    ]

count-later : (d : ℕ) (rows : List SourceRow) → count_by (λ row. nat_lt d row.key.date) rows ≡ later d (map (λ row. row.key.date) rows)
count-later d [] = refl
count-later d (row ∷ rows) =
    sum_by-cons (λ (r : SourceRow). cond (nat_lt d r.key.date) 1 0) row rows ∙ ap (λ n. cond (nat_lt d row.key.date) 1 0 + n) (count-later d rows)
    ∙ sym (sum_by-cons (λ (y : ℕ). cond (nat_lt d y) 1 0) row.key.date (map (λ r. r.key.date) rows))

module _ (n : ℕ) (rows : List SourceRow) (sound : AreSound rows) where
  -- each row's date is that of a day, so the test is how many are later
  each : (bar : ℕ) → ((d : ℕ) → list_any (λ row. d == row.key.date) (day_rows rows) ≡ true → nat_lt (later d (days_of rows)) n ≡ nat_le bar d) → IsBar n rows bar
  each bar on =
      All-from_recursion (λ row. is_among_last n rows row.key.date ≡ nat_le bar row.key.date) rows
      (all-weaker (HasDay (day_rows rows)) (λ row. is_among_last n rows row.key.date ≡ nat_le bar row.key.date)
      (λ row has. ap (λ b. b && nat_lt (later_days rows row.key.date) n) has ∙ ap (λ m. nat_lt m n) (count-later row.key.date (day_rows rows)) ∙ on row.key.date has)
      rows (recursion_from_All (HasDay (day_rows rows)) rows sound.dated))

  many : length (days_of rows) ≡ length (day_rows rows)
  many = length-map (day_rows rows) (λ (row : SourceRow). row.key.date)

  -- all are kept where there are no more days
  pub none-goes : length (days_of rows) ≤ n → IsBar n rows 0
  none-goes short = each 0 (λ d has. is-less _ n (omega (arith, short, many, some-not-later d (day_rows rows) has)) ∙ sym (is-up-to 0 d (omega arith)))

  -- else those from the date on that stands so far from the end
  pub from-bar : 1 ≤ n → (sorted : List ℕ) → IsPermutation (days_of rows) sorted → IsSorted nat_cmp sorted → n < length sorted → (bar : ℕ) → bar ≡ get_or sorted (length sorted - n) 0 → IsBar n rows bar
  from-bar some sorted moved up long bar is = each bar (λ d has. ap (λ m. nat_lt m n) (sym (sum_by-IsPermutation (λ (y : ℕ). cond (nat_lt d y) 1 0) (days_of rows) sorted moved)) ∙ at d)
    where
      rises : IsNonDecreasing sorted
      rises = IsNonDecreasingBy-from_sort (λ (x : ℕ). x) sorted up

      inside : length sorted - n < length sorted
      inside = omega (arith, some, long)

      at : (d : ℕ) → nat_lt (later d sorted) n ≡ nat_le bar d
      at d = elim (cases_lt d bar) [
        | inl less ↦
            let all = many-later d sorted (length sorted - n) rises inside (omega (arith, less, is)) in
            not-less _ n (omega (arith, all, long)) ∙ sym (not-up-to bar d less)
        | inr le ↦
            let few = few-later d sorted (length sorted - n) rises inside (omega (arith, le, is)) in
            is-less _ n (omega (arith, few, long)) ∙ sym (is-up-to bar d le)
      ]
