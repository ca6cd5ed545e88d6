-- The texts that keys have beside those of a record: numbers in a fixed number of digits, parts of a day, and the groups of
-- status codes and of MIME types, which are this program's own.
use Rattle.std.specs.Prelude.{ℕ, ◌+◌, ◌/◌, ◌%◌, ◌^◌, ◌==◌, if◌then◌else◌, List, [], ◌∷◌, ◌++◌, map, Option, Some, None, codes}
use Rattle.std.specs.List.{before_first}
use Rattle.ga_base.specs.Bytes.{byte_of}
use Rattle.ga_base.specs.Days.{eight_digits, two_digits}
use Rattle.ga_base.specs.Layers.{is_empty}
use Rattle.ga_base.specs.declared.date_spec.DateSpec.{DateSpec}
use Rattle.ga_base.specs.declared.date_spec.DateSpec.TheVariants as D
use Rattle.ga_base.specs.declared.hour_spec.HourSpec.{HourSpec}
use Rattle.ga_base.specs.declared.hour_spec.HourSpec.TheVariants as H

-- the last three digits of a number; 48 is the digit 0
abbrev pub three_digits : ℕ → List ℕ
three_digits number = map (λ place. 48 + number / 10 ^ place % 10) (2 ∷ 1 ∷ 0 ∷ [])

-- the hour of a minute of the day, and the minute of that hour
abbrev pub hour_digits : ℕ → List ℕ
hour_digits minute = two_digits (minute / 60)

abbrev pub minute_digits : ℕ → List ℕ
minute_digits minute = two_digits (minute % 60)

-- the digits that a part of a day has after its day's: those of the hour, and of the minute too. A day itself has none, and
-- there is no part without a time
abbrev pub part_digits : DateSpec → Option ℕ → List ℕ
part_digits spec None = []
part_digits D.Date (Some minute) = []
part_digits D.Hour (Some minute) = hour_digits minute
part_digits D.Minute (Some minute) = hour_digits minute ++ minute_digits minute

-- a day has no parent; a part of one has the day's digits
abbrev pub part_parent : ℕ → List ℕ → List ℕ
part_parent date [] = []
part_parent date (digit ∷ part) = eight_digits date

-- the time of the day: its hour, or its tens of minutes
abbrev pub time_of : HourSpec → Option ℕ → List ℕ
time_of spec None = []
time_of H.Hour (Some minute) = hour_digits minute
time_of H.Tens (Some minute) = hour_digits minute ++ codes ":" ++ (48 + minute % 60 / 10) ∷ codes "0"

-- the group of a status of 100 to 599, by its first digit
abbrev pub status_group : ℕ → List ℕ
status_group status =
    let digit = status / 100 in
    if digit == 1 then codes "1xx Informational" else
    if digit == 2 then codes "2xx Success" else
    if digit == 3 then codes "3xx Redirection" else
    if digit == 4 then codes "4xx Client Errors" else
    codes "5xx Server Errors"

-- the text, or `Unknown` in place of an empty one
abbrev pub or_unknown : List ℕ → List ℕ
or_unknown text = if is_empty text then codes "Unknown" else text

-- what stands before the first `/`, or all of the text
abbrev pub before_slash : List ℕ → List ℕ
before_slash text = before_first (λ b. b == byte_of (codes "/")) text

-- the group of a MIME type
abbrev pub mime_group : List ℕ → List ℕ
mime_group mime = or_unknown (before_slash mime)

-- the text of an option, empty where there is none
abbrev pub text_in : Option (List ℕ) → List ℕ
text_in None = []
text_in (Some text) = text
