-- The first of the last days, and which of a list's items pass a test.
use Rattle.std.proofs.Common.{◌≡◌, ℕ, ◌+◌, ◌-◌, ◌≤◌, ◌<◌, ◌==◌, Bool, true, false, cond, List, [], ◌∷◌, length, zero, suc, refl, sym, ap, ◌∙◌, subst, arith, inl, inr}
use Rattle.std.specs.Prelude.{if◌then◌else◌, filter, nat_le, nat_lt, slice_index_or, All, Contains}
use Rattle.std.specs.List.{AllByRecursion}
use Rattle.std.proofs.lemmas.Bool.{cases_lt, false≢true}
use Rattle.std.proofs.lemmas.Bool.Decides.{nat_tests}
use Rattle.std.proofs.lemmas.List.Elements.{All-from_recursion}
use Rattle.ga_summary.proofs.RisingDates.{In, Rises, later, later-all, later-falls, later-length, none-later, one-later}
use Rattle.ga_summary.proofs.LastDays.{all-formed, all-have, all-weaker, among-is, days-rise, has-in, is-among}
use Rattle.ga_summary.specs.LastDays.{is_among_last}
use Rattle.ga_summary.specs.Sound.{HasRow, RowsAreSound}
use Rattle.ga_summary.specs.Steps.LastDays.{days_of}
use Rattle.ga_summary.specs.SummaryRows.{IsInOrder, SummaryRow}

-- ---- the place of a date in a rising list

above-all : (d x : ℕ) (xs : List ℕ) → x ≤ d → AllByRecursion (λ y. d < y) xs → later d (x ∷ xs) ≡ length xs
above-all d x xs le all = omega (arith, none-later d x xs le, later-all d xs all)

-- as many are later than the date at a place as stand after it
later-at : (ds : List ℕ) (at : ℕ) → Rises ds → at < length ds → later (slice_index_or ds at 0) ds + at + 1 ≡ length ds
later-at [] at up inside = absurd (omega (arith, inside))
later-at (x ∷ xs) zero up inside = omega (arith, above-all x x xs (omega arith) up.0)
later-at (x ∷ xs) (suc at) up inside =
    let rest = later-at xs at up.1 (omega (arith, inside)) in
    let below = at-above x xs at up.0 (omega (arith, inside)) in
    omega (arith, rest, none-later (slice_index_or xs at 0) x xs (omega (arith, below)))
  where
    at-above : (x : ℕ) (ys : List ℕ) (k : ℕ) → AllByRecursion (λ y. x < y) ys → k < length ys → x < slice_index_or ys k 0
    at-above x [] k all there = absurd (omega (arith, there))
    at-above x (y ∷ ys) zero all there = all.0
    at-above x (y ∷ ys) (suc k) all there = at-above x ys k all.1 (omega (arith, there))

at-in : (ds : List ℕ) (at : ℕ) → at < length ds → In (slice_index_or ds at 0) ds
at-in [] at inside = absurd (omega (arith, inside))
at-in (x ∷ xs) zero inside = inl refl
at-in (x ∷ xs) (suc at) inside = inr (at-in xs at (omega (arith, inside)))

-- a date of the list is one later than an earlier one
one-more-later : (d e : ℕ) (ds : List ℕ) → Rises ds → In e ds → d < e → later e ds + 1 ≤ later d ds
one-more-later d e [] up is less = absurd is
one-more-later d e (x ∷ xs) up (inl same) less =
    let all : later e xs ≡ length xs = later-all e xs (subst (λ (k : ℕ). AllByRecursion (λ y. k < y) xs) (sym same) up.0) in
    let falls = later-falls d e xs less in
    omega (arith, none-later e x xs (omega (arith, same)), one-later d x xs (omega (arith, same, less)), all, falls, later-length d xs)
one-more-later d e (x ∷ xs) up (inr at) less =
    let rest = one-more-later d e xs up.1 at less in
    elim (cases_lt e x) [
      | inl more ↦ omega (arith, one-later e x xs more, one-later d x xs (omega (arith, less, more)), rest)
      | inr le ↦ elim (cases_lt d x) [
        | inl some ↦ omega (arith, none-later e x xs le, one-later d x xs some, rest)
        | inr also ↦ omega (arith, none-later e x xs le, none-later d x xs also, rest)
      ]
    ]

in-less : (d : ℕ) (ds : List ℕ) → Rises ds → In d ds → later d ds < length ds
in-less d [] up is = absurd is
in-less d (x ∷ xs) up (inl same) = omega (arith, none-later d x xs (omega (arith, same)), later-length d xs)
in-less d (x ∷ xs) up (inr at) =
    let rest = in-less d xs up.1 at in
    elim (cases_lt d x) [
      | inl less ↦ omega (arith, one-later d x xs less, rest)
      | inr le ↦ omega (arith, none-later d x xs le, rest)
    ]

le-true : (m n : ℕ) → m ≤ n → nat_le m n ≡ true
le-true m n le = grind (arith, nat_tests)

le-false : (m n : ℕ) → n < m → nat_le m n ≡ false
le-false m n less = grind (arith, nat_tests)

-- ---- the bar

module _ (n : ℕ) (rows : List SummaryRow) (ordered : IsInOrder rows) (sound : RowsAreSound rows) where
  rise : Rises (days_of rows)
  rise = days-rise rows (all-formed rows sound.form) ordered.keys

  each : (bar : ℕ) → ((date : ℕ) → In date (days_of rows) → (if n == 0 then true else is_among_last n rows date) ≡ nat_le bar date)
      → All (λ (row : SummaryRow). (if n == 0 then true else is_among_last n rows row.key.date) ≡ nat_le bar row.key.date) rows
  each bar on = All-from_recursion (λ (row : SummaryRow). (if n == 0 then true else is_among_last n rows row.key.date) ≡ nat_le bar row.key.date) rows
      (all-weaker (λ row. HasRow rows row.key) (λ row. (if n == 0 then true else is_among_last n rows row.key.date) ≡ nat_le bar row.key.date)
      (λ row has. on row.key.date (has-in rows row.key.date (sound.day row.key has))) rows (all-have rows))

  -- all are kept where there are no more days
  pub none-goes : length (days_of rows) ≤ n → All (λ (row : SummaryRow). (if n == 0 then true else is_among_last n rows row.key.date) ≡ nat_le 0 row.key.date) rows
  none-goes short = each 0 (λ date is. all_of (n == 0) date (is-among n rows date is (omega (arith, short, in-less date (days_of rows) rise is))))
    where
      all_of : (v : Bool) (date : ℕ) → is_among_last n rows date ≡ true → (if v then true else is_among_last n rows date) ≡ nat_le 0 date
      all_of true date among = sym (le-true 0 date (omega arith))
      all_of false date among = among ∙ sym (le-true 0 date (omega arith))

  pub zero-keeps : (n == 0) ≡ true → All (λ (row : SummaryRow). (if n == 0 then true else is_among_last n rows row.key.date) ≡ nat_le 0 row.key.date) rows
  zero-keeps none = each 0 (λ date is. ap (λ v. if v then true else is_among_last n rows date) none ∙ sym (le-true 0 date (omega arith)))

  pub from-bar : (n == 0) ≡ false → 0 < n → n < length (days_of rows) → (bar : ℕ) → bar ≡ slice_index_or (days_of rows) (length (days_of rows) - n) 0
      → All (λ (row : SummaryRow). (if n == 0 then true else is_among_last n rows row.key.date) ≡ nat_le bar row.key.date) rows
  from-bar some positive long bar is_bar = each bar (λ date is. ap (λ v. if v then true else is_among_last n rows date) some ∙ at date is)
    where
      bar_later : later bar (days_of rows) + 1 ≡ n
      bar_later =
          let there = later-at (days_of rows) (length (days_of rows) - n) rise (omega (arith, positive, long)) in
          let same : later bar (days_of rows) ≡ later (slice_index_or (days_of rows) (length (days_of rows) - n) 0) (days_of rows) = ap (λ d. later d (days_of rows)) is_bar in
          omega (arith, there, same, long)

      bar_in : In bar (days_of rows)
      bar_in = subst (λ (d : ℕ). In d (days_of rows)) (sym is_bar) (at-in (days_of rows) (length (days_of rows) - n) (omega (arith, positive, long)))

      falls : (date : ℕ) → bar ≤ date → later date (days_of rows) ≤ later bar (days_of rows)
      falls date le = elim (cases_lt bar date) [
        | inl less ↦ later-falls bar date (days_of rows) less
        | inr back ↦
            let same : bar ≡ date = omega (arith, le, back) in
            omega (arith, ap (λ d. later d (days_of rows)) same)
      ]

      not-true : (v : Bool) → (v ≡ true → ⊥) → v ≡ false
      not-true true no_true = absurd (no_true refl)
      not-true false no_true = refl

      at : (date : ℕ) → In date (days_of rows) → is_among_last n rows date ≡ nat_le bar date
      at date is = elim (cases_lt date bar) [
        | inl less ↦
            let many = one-more-later date bar (days_of rows) rise bar_in less in
            not-true _ (λ among. let few = (among-is n rows date among).1 in omega (arith, many, bar_later, few)) ∙ sym (le-false bar date less)
        | inr le ↦ is-among n rows date is (omega (arith, falls date le, bar_later)) ∙ sym (le-true bar date le)
      ]

-- ---- an item passes a test exactly where some are left by it

pub has-some : {X : Type 0} (test : X → Bool) (xs : List X) → nat_lt 0 (length (filter test xs)) ≡ true → (x : X) × Contains xs x × (test x ≡ true)
has-some {X = X} test [] some = absurd (false≢true some)
has-some {X = X} test (x ∷ xs) some = pick (test x) refl (has-some test xs) some
  where
    pick : (v : Bool) → test x ≡ v → (nat_lt 0 (length (filter test xs)) ≡ true → (y : X) × Contains xs y × (test y ≡ true))
        → nat_lt 0 (length (cond v (x ∷ filter test xs) (filter test xs))) ≡ true → (y : X) × Contains (x ∷ xs) y × (test y ≡ true)
    pick true is rest found = (x, (0, omega arith, refl), is)
    pick false other rest found = let o = rest found in (o.0, (suc o.1.0, omega (arith, o.1.1), o.1.2), o.2)

some-one : {X : Type 0} (test : X → Bool) (xs : List X) (k : ℕ) (x : X) → k < length xs → slice_index_or xs k x ≡ x → test x ≡ true → nat_lt 0 (length (filter test xs)) ≡ true
some-one test [] k x inside at is = absurd (omega (arith, inside))
some-one test (y ∷ ys) zero x inside at is =
    let here : test y ≡ true = ap test at ∙ is in
    ap (λ v. nat_lt 0 (length (cond v (y ∷ filter test ys) (filter test ys)))) here ∙ positive (length (filter test ys))
  where
    positive : (n : ℕ) → nat_lt 0 (suc n) ≡ true
    positive n = grind (arith, nat_tests)
some-one test (y ∷ ys) (suc k) x inside at is = more (test y) (some-one test ys k x (omega (arith, inside)) at is)
  where
    positive : (n : ℕ) → nat_lt 0 (suc n) ≡ true
    positive n = grind (arith, nat_tests)

    more : (v : Bool) → nat_lt 0 (length (filter test ys)) ≡ true → nat_lt 0 (length (cond v (y ∷ filter test ys) (filter test ys))) ≡ true
    more true rest = positive (length (filter test ys))
    more false rest = rest

pub some-has : {X : Type 0} (test : X → Bool) (xs : List X) (x : X) → Contains xs x → test x ≡ true → nat_lt 0 (length (filter test xs)) ≡ true
some-has test xs x has is = some-one test xs has.0 x has.1 has.2 is
