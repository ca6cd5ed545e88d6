-- What is either so or not so: numbers, texts, how a text is parted, and what a text spells.
use Rattle.std.proofs.Common.{◌≡◌, ◌⊎◌, ℕ, zero, suc, ◌+◌, ◌-◌, ◌<◌, ◌≤◌, ◌==◌, min, cond, Bool, true, false, List, [], ◌∷◌, ◌++◌, Option, Some, None, length, take, drop, refl, sym, ap, ◌∙◌, subst, arith, inl, inr, ⊎_elim}
use Rattle.std.proofs.lemmas.Bool.{cases_lt, false≢true}
use Rattle.std.proofs.lemmas.Bool.Decides.{eqb_tells}
use Rattle.std.proofs.lemmas.List.{take_at, drop_at, take-append-drop, length-append}
use Rattle.std.proofs.lemmas.Option.{slice_get_within}
use Rattle.std.specs.Prelude.{◌*◌, ◌||◌, nat_lt}
use Rattle.std.specs.List.{slice_get}
use Rattle.std.specs.Str.{str_to_ascii_lowercase}
use Rattle.ga_dates.specs.Calendar.{IsDay, is_leap_year, number_of_day, days_in_month}
use Rattle.ga_dates.specs.Items.{number_of}
use Rattle.ga_dates.specs.Spelling.{four_digits, month_names, SpellsNumber, IsTwoDigits, Spells, SpellsDate, SpellsTime, SpellsBoth, long_year}
use Rattle.ga_base.specs.Days.{two_digits}
use Rattle.ga_dates.specs.declared.item.Item.{Item}
use Rattle.ga_dates.specs.declared.item.Item.TheVariants.{Literal, Day, SpacedDay, Month, MonthName, Year, ShortYear, Hour, Minute, Second}
use Rattle.ga_dates.specs.declared.date_parts.DateParts.{DateParts}

abbrev pub IsKnown : Type 0 → Type 0
IsKnown P = P ⊎ ¬ P

pub known-both : {P Q : Type 0} → IsKnown P → IsKnown Q → IsKnown (P × Q)
known-both (inl p) (inl q) = inl (p, q)
known-both (inl p) (inr not) = inr (λ both. not both.1)
known-both (inr not) q = inr (λ both. not both.0)

pub known-either : {P Q : Type 0} → IsKnown P → IsKnown Q → IsKnown (P ⊎ Q)
known-either (inl p) q = inl (inl p)
known-either (inr not) (inl q) = inl (inr q)
known-either (inr not) (inr nor) = inr (⊎_elim not nor)

pub known-less : (a b : ℕ) → IsKnown (a < b)
known-less a b = ⊎_elim (λ less. inl less) (λ most. inr (λ less. omega arith)) (cases_lt a b)

pub known-most : (a b : ℕ) → IsKnown (a ≤ b)
known-most a b = ⊎_elim (λ above. inr (λ most. omega arith)) (λ most. inl most) (cases_lt b a)

pub known-same : (a b : ℕ) → IsKnown (a ≡ b)
known-same a b = ⊎_elim (λ is. inl is.1) (λ other. inr other.1) (eqb_tells a b)

pub known-true : (b : Bool) → IsKnown (b ≡ true)
known-true true = inl refl
known-true false = inr false≢true

pub known-text : (a b : List ℕ) → IsKnown (a ≡ b)
known-text [] [] = inl refl
known-text [] (y ∷ b) = inr (λ e. let l : 0 ≡ length (y ∷ b) = ap length e in omega arith)
known-text (x ∷ a) [] = inr (λ e. let l : length (x ∷ a) ≡ 0 = ap length e in omega arith)
known-text (x ∷ a) (y ∷ b) = both (known-same x y) (known-text a b)
  where
    both : IsKnown (x ≡ y) → IsKnown (a ≡ b) → IsKnown (x ∷ a ≡ y ∷ b)
    both (inl same) (inl rest) = inl cc
    both (inl same) (inr other) = inr (λ e. other cc)
    both (inr other) rest = inr (λ e. other cc)

known-name : (name : Option (List ℕ)) (text : List ℕ) → IsKnown (name ≡ Some text)
known-name None text = inr (λ e. cc)
known-name (Some name) text = ⊎_elim (λ same. inl (ap Some same)) (λ other. inr (λ e. other cc)) (known-text name text)

-- whether a number below a limit has a property
pub known-below : (P : ℕ → Type 0) → ((n : ℕ) → IsKnown (P n)) → (limit : ℕ) → IsKnown ((n : ℕ) × (n < limit) × P n)
known-below P known zero = inr (λ found. let below : found.0 < 0 = found.1 in omega arith)
known-below P known (suc limit) = last (known limit) (known-below P known limit)
  where
    last : IsKnown (P limit) → IsKnown ((n : ℕ) × (n < limit) × P n) → IsKnown ((n : ℕ) × (n < suc limit) × P n)
    last (inl p) before = inl (limit, omega arith, p)
    last (inr not) (inl (n, below, p)) = inl (n, omega arith, p)
    last (inr not) (inr none) = inr (λ found. ⊎_elim (λ below. none (found.0, below, found.2)) (λ at. let below : found.0 < suc limit = found.1 in let same : found.0 ≡ limit = omega arith in not (subst P same found.2)) (cases_lt found.0 limit))

-- whether a text is parted into two with a property
abbrev pub IsParted : (List ℕ → List ℕ → Type 0) → List ℕ → Type 0
IsParted P text = (front back : List ℕ) × (text ≡ front ++ back) × P front back

pub known-parted : (P : List ℕ → List ℕ → Type 0) → ((front back : List ℕ) → IsKnown (P front back)) → (text : List ℕ) → IsKnown (IsParted P text)
known-parted P known text =
    ⊎_elim
    (λ found. inl (take found.0 text, drop found.0 text, sym (take-append-drop found.0 text), found.2))
    (λ none. inr (λ found. cut none found.0 found.1 found.2 found.3))
    (known-below (λ n. P (take n text) (drop n text)) (λ n. known (take n text) (drop n text)) (suc (length text)))
  where
    cut : ¬ ((n : ℕ) × (n < suc (length text)) × P (take n text) (drop n text)) → (front back : List ℕ) → text ≡ front ++ back → P front back → ⊥
    cut none front back parted has =
        let long : length text ≡ length front + length back = ap length parted ∙ length-append front back in
        let here : P (take (length front) text) (drop (length front) text) =
        subst (λ (t : List ℕ). P (take (length front) t) (drop (length front) t)) (sym parted)
        (subst (λ (b : List ℕ). P (take (length front) (front ++ back)) b) (sym (drop_at front back (length front) refl))
        (subst (λ (a : List ℕ). P a back) (sym (take_at front back (length front) refl)) has)) in
        none (length front, omega (arith, long), here)

-- whether a piece spells a number, and a text those of all items
known-two : (n : ℕ) (piece : List ℕ) → IsKnown (IsTwoDigits n piece)
known-two n piece = known-both (known-less n 100) (known-text piece (two_digits n))

known-number : (item : Item) (n : ℕ) (piece : List ℕ) → IsKnown (SpellsNumber item n piece)
known-number (Literal byte) n piece = known-both (known-text piece (byte ∷ [])) (known-same n 0)
known-number Day n piece = known-two n piece
known-number SpacedDay n piece = known-either (known-two n piece) (known-both (known-less n 10) (known-text piece (32 ∷ (48 + n) ∷ [])))
known-number Month n piece = known-two n piece
known-number MonthName n piece = known-both (known-most 1 n) (known-name (slice_get month_names (n - 1)) (str_to_ascii_lowercase piece))
known-number Year n piece = known-both (known-less n 10000) (known-text piece (four_digits n))
known-number ShortYear n piece = short (known-below (λ short. IsTwoDigits short piece × (n ≡ long_year short)) (λ short. known-both (known-two short piece) (known-same n (long_year short))) 100)
  where
    short : IsKnown ((short : ℕ) × (short < 100) × (IsTwoDigits short piece × (n ≡ long_year short))) → IsKnown ((short : ℕ) × IsTwoDigits short piece × (n ≡ long_year short))
    short (inl found) = inl (found.0, found.2.0, found.2.1)
    short (inr none) = inr (λ found. none (found.0, found.1.0, (found.1, found.2)))
known-number Hour n piece = known-both (known-two n piece) (known-most n 23)
known-number Minute n piece = known-both (known-two n piece) (known-most n 59)
known-number Second n piece = known-both (known-two n piece) (known-most n 60)

pub known-spelt : (items : List Item) (parts : DateParts) (text : List ℕ) → IsKnown (Spells items parts text)
known-spelt [] parts text = known-text text []
known-spelt (item ∷ items) parts text =
    ⊎_elim
    (λ found. inl (found.0, found.1, found.2, found.3.0, found.3.1))
    (λ none. inr (λ spelt. none (spelt.0, spelt.1, spelt.2, (spelt.3, spelt.4))))
    (known-parted (λ piece rest. SpellsNumber item (number_of item parts) piece × Spells items parts rest)
    (λ piece rest. known-both (known-number item (number_of item parts) piece) (known-spelt items parts rest)) text)

-- the numbers that a text spells are below ten thousand
either-below : (b : Bool) (x y limit : ℕ) → x < limit → y < limit → cond b x y < limit
either-below true x y limit one two = one
either-below false x y limit one two = two

number-below : (item : Item) (n : ℕ) (piece : List ℕ) → SpellsNumber item n piece → n < 10000
number-below (Literal byte) n piece h = omega (arith, h.1)
number-below Day n piece h = omega (arith, h.0)
number-below SpacedDay n piece (inl h) = omega (arith, h.0)
number-below SpacedDay n piece (inr h) = omega (arith, h.0)
number-below Month n piece h = omega (arith, h.0)
number-below MonthName n piece h = let within : n - 1 < 12 = slice_get_within month_names (n - 1) (str_to_ascii_lowercase piece) h.1 in omega arith
number-below Year n piece h = h.0
number-below ShortYear n piece h =
    subst (λ (y : ℕ). y < 10000) (sym h.2) (either-below (nat_lt h.0 69) (2000 + h.0) (1900 + h.0) 10000 (omega (arith, h.1.0)) (omega (arith, h.1.0)))
number-below Hour n piece h = omega (arith, h.1)
number-below Minute n piece h = omega (arith, h.1)
number-below Second n piece h = omega (arith, h.1)

-- so each number may be cut there
abbrev small : DateParts → DateParts
small p = record { day = min p.day 9999; month = min p.month 9999; year = min p.year 9999; hour = min p.hour 9999; minute = min p.minute 9999; second = min p.second 9999 }

number-small : (item : Item) (p : DateParts) → number_of item (small p) ≡ min (number_of item p) 9999
number-small (Literal byte) p = refl
number-small Day p = refl
number-small SpacedDay p = refl
number-small Month p = refl
number-small MonthName p = refl
number-small Year p = refl
number-small ShortYear p = refl
number-small Hour p = refl
number-small Minute p = refl
number-small Second p = refl

min-within : (n : ℕ) → n ≤ 9999 → n ≡ min n 9999
min-within n most = omega arith

spelt-small : (items : List Item) (p : DateParts) (text : List ℕ) → Spells items p text → Spells items (small p) text
spelt-small [] p text spelt = spelt
spelt-small (item ∷ items) p text (piece, rest, parted, number, later) =
    let same : number_of item p ≡ number_of item (small p) = min-within (number_of item p) (omega (arith, number-below item (number_of item p) piece number)) ∙ sym (number-small item p) in
    (piece, rest, parted, subst (λ (n : ℕ). SpellsNumber item n piece) same number, spelt-small items p rest later)

-- whether some parts have a property that they keep where their numbers are cut
known-parts : (P : DateParts → Type 0) → ((p : DateParts) → IsKnown (P p)) → ((p : DateParts) → P p → P (small p)) → IsKnown ((p : DateParts) × P p)
known-parts P known kept =
    ⊎_elim
    (λ (day, d, (month, m, (year, y, (hour, h, (minute, n, (second, s, has)))))). inl (record { day = day; month = month; year = year; hour = hour; minute = minute; second = second }, has))
    (λ none. inr (λ some. let p = some.0 in
    none (min p.day 9999, below p.day, (min p.month 9999, below p.month, (min p.year 9999, below p.year, (min p.hour 9999, below p.hour, (min p.minute 9999, below p.minute, (min p.second 9999, below p.second, kept p some.1))))))))
    (known-below Days (λ day. known-below (Months day) (λ month. known-below (Years day month) (λ year. known-below (Hours day month year) (λ hour. known-below (Minutes day month year hour) (λ minute.
    known-below (Seconds day month year hour minute) (λ second. known (record { day = day; month = month; year = year; hour = hour; minute = minute; second = second })) 10000) 10000) 10000) 10000) 10000) 10000)
  where
    below : (n : ℕ) → min n 9999 < 10000
    below n = omega arith

    Seconds : ℕ → ℕ → ℕ → ℕ → ℕ → ℕ → Type 0
    Seconds day month year hour minute second = P (record { day = day; month = month; year = year; hour = hour; minute = minute; second = second })

    Minutes : ℕ → ℕ → ℕ → ℕ → ℕ → Type 0
    Minutes day month year hour minute = (second : ℕ) × (second < 10000) × Seconds day month year hour minute second

    Hours : ℕ → ℕ → ℕ → ℕ → Type 0
    Hours day month year hour = (minute : ℕ) × (minute < 10000) × Minutes day month year hour minute

    Years : ℕ → ℕ → ℕ → Type 0
    Years day month year = (hour : ℕ) × (hour < 10000) × Hours day month year hour

    Months : ℕ → ℕ → Type 0
    Months day month = (year : ℕ) × (year < 10000) × Years day month year

    Days : ℕ → Type 0
    Days day = (month : ℕ) × (month < 10000) × Months day month

-- whether the calendar has a day
known-day : (year month day : ℕ) → IsKnown (IsDay year month day)
known-day year month day =
    ⊎_elim
    (λ (first_year, (last_year, (first_month, (last_month, (first_day, last_day))))). inl (record {
      first_year = first_year;
      last_year = last_year;
      first_month = first_month;
      last_month = last_month;
      first_day = first_day;
      last_day = last_day;
    }))
    (λ not. inr (λ is. not (is.first_year, (is.last_year, (is.first_month, (is.last_month, (is.first_day, is.last_day)))))))
    (known-both (known-most 1000 year) (known-both (known-most year 9999) (known-both (known-most 1 month) (known-both (known-most month 12) (known-both (known-most 1 day) (known-most day (days_in_month year month)))))))

month-short : (year month : ℕ) → days_in_month year month ≤ 31
month-short year month =
    let leap : cond (is_leap_year year) 29 28 < 32 = either-below (is_leap_year year) 29 28 32 (omega arith) (omega arith) in
    let other : cond ((month == 4) || (month == 6) || (month == 9) || (month == 11)) 30 31 < 32 = either-below ((month == 4) || (month == 6) || (month == 9) || (month == 11)) 30 31 32 (omega arith) (omega arith) in
    let all : days_in_month year month < 32 = either-below (month == 2) _ _ 32 leap other in
    omega arith

-- whether a text spells a date, a time, or both
abbrev IsDated : List Item → List ℕ → DateParts → Type 0
IsDated items text p = Spells items p text × IsDay p.year p.month p.day

dated-small : (items : List Item) (text : List ℕ) (p : DateParts) → IsDated items text p → IsDated items text (small p)
dated-small items text p (spelt, day) =
    let year : p.year ≡ min p.year 9999 = min-within p.year day.last_year in
    let month : p.month ≡ min p.month 9999 = min-within p.month (omega (arith, day.last_month)) in
    let of_month : p.day ≡ min p.day 9999 = min-within p.day (omega (arith, day.last_day, month-short p.year p.month)) in
    (spelt-small items p text spelt, subst (λ (y : ℕ). IsDay y (min p.month 9999) (min p.day 9999)) year (subst (λ (m : ℕ). IsDay p.year m (min p.day 9999)) month (subst (λ (d : ℕ). IsDay p.year p.month d) of_month day)))

pub known-date : (items : List Item) (text : List ℕ) → IsKnown ((date : ℕ) × SpellsDate items text date)
known-date items text =
    ⊎_elim
    (λ found. inl (number_of_day found.0.year found.0.month found.0.day, record { parts = found.0; spelt = found.1.0; exists = found.1.1; number = refl }))
    (λ none. inr (λ some. none (some.1.parts, (some.1.spelt, some.1.exists))))
    (known-parts (IsDated items text) (λ p. known-both (known-spelt items p text) (known-day p.year p.month p.day)) (dated-small items text))

pub known-time : (items : List Item) (text : List ℕ) → IsKnown ((minute : ℕ) × SpellsTime items text minute)
known-time items text =
    ⊎_elim
    (λ found. inl (60 * found.0.hour + found.0.minute, record { parts = found.0; spelt = found.1; number = refl }))
    (λ none. inr (λ some. none (some.1.parts, some.1.spelt)))
    (known-parts (λ p. Spells items p text) (λ p. known-spelt items p text) (λ p spelt. spelt-small items p text spelt))

pub known-moment : (dates times : List Item) (text : List ℕ) → IsKnown ((date minute : ℕ) × SpellsBoth dates times text date minute)
known-moment dates times text =
    ⊎_elim
    (λ found. inl (found.3.0.0, found.3.1.0, record { front = found.0; back = found.1; parted = found.2; date = found.3.0.1; time = found.3.1.1 }))
    (λ none. inr (λ some. none (some.2.front, some.2.back, some.2.parted, ((some.0, some.2.date), (some.1, some.2.time)))))
    (known-parted (λ front back. ((date : ℕ) × SpellsDate dates front date) × ((minute : ℕ) × SpellsTime times back minute)) (λ front back. known-both (known-date dates front) (known-time times back)) text)
