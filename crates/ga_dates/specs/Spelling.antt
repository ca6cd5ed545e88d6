-- Which texts the items of a format spell.
use Rattle.std.specs.Prelude.{ℕ, ◌≡◌, ◌+◌, ◌-◌, ◌*◌, ◌/◌, ◌%◌, ◌<◌, ◌≤◌, ◌⊎◌, List, [], ◌∷◌, ◌++◌, Some, nat_lt, if◌then◌else◌, codes}
use Rattle.std.specs.List.{slice_get}
use Rattle.std.specs.Str.{str_to_ascii_lowercase}
use Rattle.ga_base.specs.Bytes.{byte_of}
use Rattle.ga_base.specs.Days.{two_digits}
use Rattle.ga_dates.specs.declared.item.Item.{Item}
use Rattle.ga_dates.specs.declared.item.Item.TheVariants.{Literal, Day, SpacedDay, Month, MonthName, Year, ShortYear, Hour, Minute, Second}
use Rattle.ga_dates.specs.declared.date_parts.DateParts.{DateParts}
use Rattle.ga_dates.specs.Items.{number_of}
use Rattle.ga_dates.specs.Calendar.{IsDay, number_of_day}

-- the decimal digits of a number below 10,000
abbrev pub four_digits : ℕ → List ℕ
four_digits n = two_digits (n / 100) ++ two_digits (n % 100)

abbrev pub IsTwoDigits : ℕ → List ℕ → Type 0
IsTwoDigits n piece = (n < 100) × (piece ≡ two_digits n)

abbrev pub IsFourDigits : ℕ → List ℕ → Type 0
IsFourDigits n piece = (n < 10000) × (piece ≡ four_digits n)

-- two digits, or a space and a digit
abbrev pub IsSpacedDigits : ℕ → List ℕ → Type 0
IsSpacedDigits n piece = IsTwoDigits n piece ⊎ ((n < 10) × (piece ≡ byte_of (codes " ") ∷ (48 + n) ∷ []))

-- the names of the months, in lower case
abbrev pub month_names : List (List ℕ)
month_names =
    codes "jan" ∷ codes "feb" ∷ codes "mar" ∷ codes "apr" ∷ codes "may" ∷ codes "jun"
    ∷ codes "jul" ∷ codes "aug" ∷ codes "sep" ∷ codes "oct" ∷ codes "nov" ∷ codes "dec" ∷ []

-- the name of the month, from 1 for `jan`, in any ASCII letter case
abbrev pub IsMonthName : ℕ → List ℕ → Type 0
IsMonthName month piece =
    (1 ≤ month) × (slice_get month_names (month - 1) ≡ Some (str_to_ascii_lowercase piece))

-- the year that two digits represent: 2000 to 2068 for 00 to 68, and 1969 to 1999 for 69 to 99
abbrev pub long_year : ℕ → ℕ
long_year short = if nat_lt short 69 then 2000 + short else 1900 + short

-- the piece is the item's spelling of the number; a literal byte spells itself, and no number but 0
abbrev pub SpellsNumber : Item → ℕ → List ℕ → Type 0
SpellsNumber (Literal byte) n piece = (piece ≡ byte ∷ []) × (n ≡ 0)
SpellsNumber Day n piece = IsTwoDigits n piece
SpellsNumber SpacedDay n piece = IsSpacedDigits n piece
SpellsNumber Month n piece = IsTwoDigits n piece
SpellsNumber MonthName n piece = IsMonthName n piece
SpellsNumber Year n piece = IsFourDigits n piece
SpellsNumber ShortYear n piece = (short : ℕ) × IsTwoDigits short piece × (n ≡ long_year short)
SpellsNumber Hour n piece = IsTwoDigits n piece × (n ≤ 23)
SpellsNumber Minute n piece = IsTwoDigits n piece × (n ≤ 59)
SpellsNumber Second n piece = IsTwoDigits n piece × (n ≤ 60)

-- the text is one piece per item, in their order, and each spells the number of its item's part
abbrev pub Spells : List Item → DateParts → List ℕ → Type 0
Spells [] parts text = text ≡ []
Spells (item ∷ items) parts text =
    (piece rest : List ℕ) × (text ≡ piece ++ rest) × SpellsNumber item (number_of item parts) piece × Spells items parts rest

-- the text spells a date that exists, and this is its number, as 20240229
pub record SpellsDate (items : List Item) (text : List ℕ) (date : ℕ) : Type 0 where
  pub parts : DateParts
  pub spelt : Spells items parts text
  pub exists : IsDay parts.year parts.month parts.day
  pub number : date ≡ number_of_day parts.year parts.month parts.day

-- the text spells a time of day, and this is its minute, from 0 at midnight
pub record SpellsTime (items : List Item) (text : List ℕ) (minute : ℕ) : Type 0 where
  pub parts : DateParts
  pub spelt : Spells items parts text
  pub number : minute ≡ 60 * parts.hour + parts.minute

-- the text is a date by the first items, and directly after it a time by the second
pub record SpellsBoth (dates times : List Item) (text : List ℕ) (day minute : ℕ) : Type 0 where
  pub front : List ℕ
  pub back : List ℕ
  pub parted : text ≡ front ++ back
  pub date : SpellsDate dates front day
  pub time : SpellsTime times back minute
