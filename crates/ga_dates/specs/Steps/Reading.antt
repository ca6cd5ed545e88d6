-- How a text is read from the front: the words of functions that only this crate calls.
use Rattle.std.specs.Prelude.{ℕ, ◌≡◌, ◌≤◌, List, ◌++◌, count_by}
use Rattle.std.specs.Option.{option_map_or}
use Rattle.ga_dates.specs.declared.item.Item.{Item}
use Rattle.ga_dates.specs.declared.item.Item.TheVariants.{Literal, MonthName, Year}
use Rattle.ga_dates.specs.declared.item.Part.{Part}
use Rattle.ga_dates.specs.declared.item.Part.TheVariants.{Day as PartDay, Month as PartMonth, Year as PartYear, Hour as PartHour, Minute as PartMinute, Second as PartSecond}
use Rattle.ga_dates.specs.declared.date_parts.DateParts.{DateParts}
use Rattle.ga_dates.specs.Items.{part_of, gives, number_at}
use Rattle.ga_dates.specs.Spelling.{Spells}

-- how many bytes an item's spellings have
abbrev pub width_of : Item → ℕ
width_of (Literal _) = 1
width_of MonthName = 3
width_of Year = 4
width_of _ = 2

-- the parts with one of them set
abbrev pub with_part : Part → ℕ → DateParts → DateParts
with_part PartDay n p = record p { day = n }
with_part PartMonth n p = record p { month = n }
with_part PartYear n p = record p { year = n }
with_part PartHour n p = record p { hour = n }
with_part PartMinute n p = record p { minute = n }
with_part PartSecond n p = record p { second = n }

-- with the part set that an item gives
abbrev pub with_number : Item → ℕ → DateParts → DateParts
with_number item n p = option_map_or (λ part. with_part part n p) (part_of item) p

-- the text begins with such pieces, and this is the rest
abbrev pub BeginsWith : List Item → DateParts → List ℕ → List ℕ → Type 0
BeginsWith items parts text rest = (front : List ℕ) × (text ≡ front ++ rest) × Spells items parts front

-- the parts that the items give are the same
abbrev pub AreSameParts : List Item → DateParts → DateParts → Type 0
AreSameParts items p q = (part : Part) → 1 ≤ count_by (gives part) items → number_at part p ≡ number_at part q
