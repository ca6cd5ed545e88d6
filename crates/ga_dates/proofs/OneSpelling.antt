-- By the items of a format a text spells one date, one time of day, or one of both; and their bounds.
use Rattle.std.proofs.Common.{◌≡◌, ◌<◌, ◌≤◌, ◌+◌, ◌-◌, ◌/◌, ◌%◌, ℕ, Bool, true, false, List, [], ◌∷◌, Option, Some, None, take, drop, length, length-append, get_or, cond, refl, ap, sym, ◌∙◌, subst, arith, inl, inr, ⊎_elim}
use Rattle.std.proofs.lemmas.Bool.{cases_Bool}
use Rattle.std.proofs.lemmas.List.{take_at, drop_at}
use Rattle.std.specs.Prelude.{count_by, if◌then◌else◌, ◌||◌, ◌==◌}
use Rattle.std.specs.Option.{option_map_or}
use Rattle.std.specs.Str.{str_to_ascii_lowercase}
use Rattle.ga_base.specs.Days.{HasEightDigits}
use Rattle.ga_dates.specs.declared.item.Item.{Item}
use Rattle.ga_dates.specs.declared.item.Item.TheVariants.{Literal, Day, SpacedDay, Month, MonthName, Year, ShortYear, Hour, Minute, Second}
use Rattle.ga_dates.specs.declared.item.Part.{Part}
use Rattle.ga_dates.specs.declared.item.Part.TheVariants.{Day as PartDay, Month as PartMonth, Year as PartYear, Hour as PartHour, Minute as PartMinute, Second as PartSecond}
use Rattle.ga_dates.specs.declared.kind.Kind.TheVariants.{Date, Time}
use Rattle.ga_dates.specs.declared.date_parts.DateParts.{DateParts}
use Rattle.ga_dates.specs.Calendar.{is_leap_year, days_in_month}
use Rattle.ga_dates.specs.Items.{part_of, is_part, gives, IsComplete, number_at, number_of}
use Rattle.ga_dates.specs.Spelling.{IsTwoDigits, IsSpacedDigits, IsFourDigits, IsMonthName, SpellsNumber, Spells, SpellsDate, SpellsTime, SpellsBoth, long_year}
use Rattle.ga_dates.specs.Steps.Reading.{width_of, AreSameParts}
use Rattle.ga_dates.proofs.NumberLemmas.{Some-injective, only_month}
use Rattle.ga_dates.proofs.PartLemmas.{count-cons}
use Rattle.ga_dates.proofs.ReadLemmas.{length-spelling, same_day, same_minute}

same-digits : (n m : ℕ) → 48 + n / 10 ≡ 48 + m / 10 → 48 + n % 10 ≡ 48 + m % 10 → n ≡ m
same-digits n m tens units = omega arith

two-unique : (n m : ℕ) (piece : List ℕ) → IsTwoDigits n piece → IsTwoDigits m piece → n ≡ m
two-unique n m piece one two =
    let e = sym one.1 ∙ two.1 in
    same-digits n m (ap (λ s. get_or s 0 0) e) (ap (λ s. get_or s 1 0) e)

four-unique : (n m : ℕ) (piece : List ℕ) → IsFourDigits n piece → IsFourDigits m piece → n ≡ m
four-unique n m piece one two =
    let e = sym one.1 ∙ two.1 in
    let front : n / 100 ≡ m / 100 = same-digits (n / 100) (m / 100) (ap (λ s. get_or s 0 0) e) (ap (λ s. get_or s 1 0) e) in
    let back : n % 100 ≡ m % 100 = same-digits (n % 100) (m % 100) (ap (λ s. get_or s 2 0) e) (ap (λ s. get_or s 3 0) e) in
    omega arith

spaced-unique : (n m : ℕ) (piece : List ℕ) → IsSpacedDigits n piece → IsSpacedDigits m piece → n ≡ m
spaced-unique n m piece (inl one) (inl two) = two-unique n m piece one two
spaced-unique n m piece (inl one) (inr two) = let space : 48 + n / 10 ≡ 32 = ap (λ s. get_or s 0 0) (sym one.1 ∙ two.1) in absurd (omega arith)
spaced-unique n m piece (inr one) (inl two) = let space : 48 + m / 10 ≡ 32 = ap (λ s. get_or s 0 0) (sym two.1 ∙ one.1) in absurd (omega arith)
spaced-unique n m piece (inr one) (inr two) = let units : 48 + n ≡ 48 + m = ap (λ s. get_or s 1 0) (sym one.1 ∙ two.1) in omega arith

month-unique : (n m : ℕ) (piece : List ℕ) → IsMonthName n piece → IsMonthName m piece → n ≡ m
month-unique n m piece one two =
    let name = str_to_ascii_lowercase piece in
    let same : n - 1 ≡ m - 1 = Some-injective (sym (only_month n piece name refl one) ∙ only_month m piece name refl two) in
    omega (arith, one.0, two.0)

-- a piece spells one number by an item
number-unique : (item : Item) (n m : ℕ) (piece : List ℕ) → SpellsNumber item n piece → SpellsNumber item m piece → n ≡ m
number-unique (Literal byte) n m piece one two = one.1 ∙ sym two.1
number-unique Day n m piece one two = two-unique n m piece one two
number-unique SpacedDay n m piece one two = spaced-unique n m piece one two
number-unique Month n m piece one two = two-unique n m piece one two
number-unique MonthName n m piece one two = month-unique n m piece one two
number-unique Year n m piece one two = four-unique n m piece one two
number-unique ShortYear n m piece one two = one.2 ∙ ap long_year (two-unique one.0 two.0 piece one.1 two.1) ∙ sym two.2
number-unique Hour n m piece one two = two-unique n m piece one.0 two.0
number-unique Minute n m piece one two = two-unique n m piece one.0 two.0
number-unique Second n m piece one two = two-unique n m piece one.0 two.0

-- the number of an item that gives a part is the part's
part-number : (part other : Part) (p : DateParts) → is_part part other ≡ true → number_at other p ≡ number_at part p
part-number PartDay PartDay p h = refl
part-number PartMonth PartMonth p h = refl
part-number PartYear PartYear p h = refl
part-number PartHour PartHour p h = refl
part-number PartMinute PartMinute p h = refl
part-number PartSecond PartSecond p h = refl
part-number _ _ p h = cc

given-number : (part : Part) (given : Option Part) (p : DateParts) → option_map_or (is_part part) given false ≡ true
    → option_map_or (λ other. number_at other p) given 0 ≡ number_at part p
given-number part None p h = cc
given-number part (Some other) p h = part-number part other p h

-- the parts that a text spells are the same, where the items give them
same-parts : (items : List Item) (p q : DateParts) (text : List ℕ) → Spells items p text → Spells items q text → AreSameParts items p q
same-parts [] p q text one two part given = absurd (omega (arith, given))
same-parts (item ∷ items) p q text (piece, rest, e, spells, later) (piece', rest', e', spells', later') part given =
    let w = width_of item in
    let wide = length-spelling item (number_of item p) piece spells in
    let wide' = length-spelling item (number_of item q) piece' spells' in
    let front : piece ≡ piece' = sym (take_at piece rest w wide) ∙ ap (take w) (sym e ∙ e') ∙ take_at piece' rest' w wide' in
    let back : rest ≡ rest' = sym (drop_at piece rest w wide) ∙ ap (drop w) (sym e ∙ e') ∙ drop_at piece' rest' w wide' in
    let number : number_of item p ≡ number_of item q =
    number-unique item (number_of item p) (number_of item q) piece' (subst (λ s. SpellsNumber item (number_of item p) s) front spells) spells' in
    ⊎_elim
    (λ yes. sym (given-number part (part_of item) p yes) ∙ number ∙ given-number part (part_of item) q yes)
    (λ no.
    let none : ◌≡◌ {A = ℕ} (cond (gives part item) 1 0) 0 = ap (λ b. cond b 1 0) no in
    same-parts items p q rest' (subst (λ s. Spells items p s) back later) later' part (omega (arith, given, count-cons part item items, none)))
    (cases_Bool (gives part item))

pub date-unique : (items : List Item) → IsComplete Date items → (text : List ℕ) (date date' : ℕ) → SpellsDate items text date → SpellsDate items text date' → date ≡ date'
date-unique items whole text date date' one two =
    one.number ∙ (same_day items one.parts two.parts whole (same-parts items one.parts two.parts text one.spelt two.spelt) two.exists).1 ∙ sym two.number

pub time-unique : (items : List Item) → IsComplete Time items → (text : List ℕ) (minute minute' : ℕ) → SpellsTime items text minute → SpellsTime items text minute' → minute ≡ minute'
time-unique items whole text minute minute' one two =
    one.number ∙ same_minute items one.parts two.parts whole (same-parts items one.parts two.parts text one.spelt two.spelt) ∙ sym two.number

-- what the items spell has as many bytes as their spellings
abbrev wide : List Item → ℕ
wide [] = 0
wide (item ∷ items) = width_of item + wide items

length-spelt : (items : List Item) (p : DateParts) (text : List ℕ) → Spells items p text → length text ≡ wide items
length-spelt [] p text e = ap length e
length-spelt (item ∷ items) p text (piece, rest, e, spells, later) =
    ap length e ∙ omega (arith, length-append piece rest, length-spelling item (number_of item p) piece spells, length-spelt items p rest later)

pub both-unique : (dates times : List Item) → IsComplete Date dates → IsComplete Time times → (text : List ℕ) (day minute day' minute' : ℕ)
    → SpellsBoth dates times text day minute → SpellsBoth dates times text day' minute' → (day ≡ day') × (minute ≡ minute')
both-unique dates times whole_date whole_time text day minute day' minute' one two =
    let w = wide dates in
    let front : one.front ≡ two.front =
    sym (take_at one.front one.back w (length-spelt dates one.date.parts one.front one.date.spelt)) ∙ ap (take w) (sym one.parted ∙ two.parted)
    ∙ take_at two.front two.back w (length-spelt dates two.date.parts two.front two.date.spelt) in
    let back : one.back ≡ two.back =
    sym (drop_at one.front one.back w (length-spelt dates one.date.parts one.front one.date.spelt)) ∙ ap (drop w) (sym one.parted ∙ two.parted)
    ∙ drop_at two.front two.back w (length-spelt dates two.date.parts two.front two.date.spelt) in (
      date-unique dates whole_date two.front day day' (subst (λ (s : List ℕ). SpellsDate dates s day) front one.date) two.date,
      time-unique times whole_time two.back minute minute' (subst (λ (s : List ℕ). SpellsTime times s minute) back one.time) two.time,
    )

-- some item spells the number of a part that is given
spelt-part : (part : Part) (items : List Item) (p : DateParts) (text : List ℕ) → Spells items p text → 1 ≤ count_by (gives part) items
    → (item : Item) × (piece : List ℕ) × (gives part item ≡ true) × SpellsNumber item (number_at part p) piece
spelt-part part [] p text e given = absurd (omega (arith, given))
spelt-part part (item ∷ items) p text (piece, rest, e, spells, later) given =
    ⊎_elim
    (λ yes. (item, piece, yes, subst (λ (n : ℕ). SpellsNumber item n piece) (given-number part (part_of item) p yes) spells))
    (λ no.
    let none : ◌≡◌ {A = ℕ} (cond (gives part item) 1 0) 0 = ap (λ b. cond b 1 0) no in
    spelt-part part items p rest later (omega (arith, given, count-cons part item items, none)))
    (cases_Bool (gives part item))

hour-le : (item : Item) (n : ℕ) (piece : List ℕ) → gives PartHour item ≡ true → SpellsNumber item n piece → n ≤ 23
hour-le Hour n piece given spells = spells.1
hour-le _ n piece given spells = cc

minute-le : (item : Item) (n : ℕ) (piece : List ℕ) → gives PartMinute item ≡ true → SpellsNumber item n piece → n ≤ 59
minute-le Minute n piece given spells = spells.1
minute-le _ n piece given spells = cc

pub minute-bound : (items : List Item) → IsComplete Time items → (text : List ℕ) (minute : ℕ) → SpellsTime items text minute → minute < 1440
minute-bound items whole text minute h =
    let hour = spelt-part PartHour items h.parts text h.spelt (omega (arith, whole.needed.0)) in
    let part = spelt-part PartMinute items h.parts text h.spelt (omega (arith, whole.needed.1.0)) in
    omega (arith, h.number, hour-le hour.0 h.parts.hour hour.1 hour.2 hour.3, minute-le part.0 h.parts.minute part.1 part.2 part.3)

either-le : (b : Bool) (x y : ℕ) → x ≤ 31 → y ≤ 31 → (if b then x else y) ≤ 31
either-le true x y one two = one
either-le false x y one two = two

days-le : (year month : ℕ) → days_in_month year month ≤ 31
days-le year month =
    either-le (month == 2) _ _ (either-le (is_leap_year year) 29 28 (omega arith) (omega arith))
    (either-le ((month == 4) || (month == 6) || (month == 9) || (month == 11)) 30 31 (omega arith) (omega arith))

pub date-bounds : (items : List Item) (text : List ℕ) (date : ℕ) → SpellsDate items text date → HasEightDigits date
date-bounds items text date h =
    let day = h.exists in
    let short : h.parts.day ≤ 31 = omega (arith, day.last_day, days-le h.parts.year h.parts.month) in
    (omega (arith, h.number, day.first_year), omega (arith, h.number, day.last_year, day.last_month, short))
