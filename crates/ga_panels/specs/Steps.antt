-- What the steps promise to one another: the words of functions that only this crate calls.
use Rattle.std.specs.Prelude.{ℕ, ◌+◌, ◌%◌, ◌/◌, Bool, true, false, if◌then◌else◌, Option, Some, None, List, [], ◌∷◌, ◌++◌, codes}
use Rattle.ga_base.specs.Days.{eight_digits}
use Rattle.ga_base.specs.declared.date_spec.DateSpec.{DateSpec}
use Rattle.ga_base.specs.declared.date_spec.DateSpec.TheVariants as D
use Rattle.ga_base.specs.declared.hour_spec.HourSpec.{HourSpec}
use Rattle.ga_base.specs.declared.hour_spec.HourSpec.TheVariants as H
use Rattle.ga_base.specs.declared.key.Key.{Key}
use Rattle.ga_base.specs.declared.panel.Panel.{Panel}
use Rattle.ga_panels.specs.Labels.{hour_digits, minute_digits}

-- the key of an entry without a request, where there is one
abbrev pub entry_at : ℕ → Panel → Bool → List ℕ → List ℕ → Option Key
entry_at date panel has_key parent label =
    if has_key then Some (record { panel = panel; date = date; parent = parent; label = label; method = []; protocol = [] }) else None

-- the digits of a day, of an hour and of a minute of it
abbrev pub moment_of : ℕ → ℕ → List ℕ
moment_of date minute = eight_digits date ++ hour_digits minute ++ minute_digits minute

-- the tens of minutes of a minute of the day
abbrev pub tens_of : ℕ → List ℕ
tens_of minute = hour_digits minute ++ codes ":" ++ (48 + minute % 60 / 10) ∷ codes "0"

-- how many of these digits VISITORS has as data, and VISIT_TIMES of those
abbrev pub moment_len : DateSpec → Bool → ℕ
moment_len spec false = 8
moment_len D.Date true = 8
moment_len D.Hour true = 10
moment_len D.Minute true = 12

abbrev pub tens_len : HourSpec → ℕ
tens_len H.Hour = 2
tens_len H.Tens = 5
