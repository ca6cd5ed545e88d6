-- The items of a format, the parts of a date or a time that they give, and the parts that a format needs.
use Rattle.std.specs.Prelude.{ℕ, ◌≡◌, ◌≤◌, List, [], ◌∷◌, count_by, Bool, true, false, Option, Some, None}
use Rattle.std.specs.Option.{option_map_or}
use Rattle.std.specs.List.{AllByRecursion}
use Rattle.ga_dates.specs.declared.item.Item.{Item}
use Rattle.ga_dates.specs.declared.item.Item.TheVariants.{Literal, Day, SpacedDay, Month, MonthName, Year, ShortYear, Hour, Minute, Second}
use Rattle.ga_dates.specs.declared.item.Part.{Part}
use Rattle.ga_dates.specs.declared.item.Part.TheVariants.{Day as PartDay, Month as PartMonth, Year as PartYear, Hour as PartHour, Minute as PartMinute, Second as PartSecond}
use Rattle.ga_dates.specs.declared.kind.Kind.{Kind}
use Rattle.ga_dates.specs.declared.kind.Kind.TheVariants.{Date, Time}
use Rattle.ga_dates.specs.declared.date_parts.DateParts.{DateParts}

-- the part that an item gives; a literal byte gives none
abbrev pub part_of : Item → Option Part
part_of (Literal _) = None
part_of Day = Some PartDay
part_of SpacedDay = Some PartDay
part_of Month = Some PartMonth
part_of MonthName = Some PartMonth
part_of Year = Some PartYear
part_of ShortYear = Some PartYear
part_of Hour = Some PartHour
part_of Minute = Some PartMinute
part_of Second = Some PartSecond

-- whether two parts are one
abbrev pub is_part : Part → Part → Bool
is_part PartDay PartDay = true
is_part PartMonth PartMonth = true
is_part PartYear PartYear = true
is_part PartHour PartHour = true
is_part PartMinute PartMinute = true
is_part PartSecond PartSecond = true
is_part _ _ = false

-- whether the item gives the part
abbrev pub gives : Part → Item → Bool
gives part item = option_map_or (is_part part) (part_of item) false

-- no part is given twice
abbrev pub AreOnce : List Item → Type 0
AreOnce items = (part : Part) → count_by (gives part) items ≤ 1

-- the parts that every format of the kind has to give
abbrev pub needed_parts : Kind → List Part
needed_parts Date = PartDay ∷ PartMonth ∷ PartYear ∷ []
needed_parts Time = PartHour ∷ PartMinute ∷ []

-- each part that is needed is given, and none twice
pub record IsComplete (kind : Kind) (items : List Item) : Type 0 where
  pub once : AreOnce items
  pub needed : AllByRecursion (λ part. count_by (gives part) items ≡ 1) (needed_parts kind)

-- the number of a part
abbrev pub number_at : Part → DateParts → ℕ
number_at PartDay p = p.day
number_at PartMonth p = p.month
number_at PartYear p = p.year
number_at PartHour p = p.hour
number_at PartMinute p = p.minute
number_at PartSecond p = p.second

-- the number of the part that an item gives; 0 for a literal byte
abbrev pub number_of : Item → DateParts → ℕ
number_of item p = option_map_or (λ part. number_at part p) (part_of item) 0
