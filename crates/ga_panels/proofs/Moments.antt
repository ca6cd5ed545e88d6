-- The minute of a record, and the form of what VISITORS counts it under.
use Rattle.std.proofs.Common.{◌≡◌, ℕ, ◌<◌, ◌/◌, ◌%◌, ◌+◌, zero, suc, true, List, [], ◌∷◌, ◌++◌, Option, Some, None, IfSome, refl, inl, inr, arith}
use Rattle.std.specs.Option.{unwrap_or}
use Rattle.std.specs.Char.{is_ascii_digit}
use Rattle.std.specs.List.{AllByRecursion}
use Rattle.std.specs.Str.{IsAscii, all_ascii_digits}
use Rattle.std.proofs.lemmas.Bool.Decides.{nat_tests}
use Rattle.ga_base.specs.Days.{eight_digits, two_digits}
use Rattle.ga_base.specs.Layers.{IsDayOrPart}
use Rattle.ga_base.specs.declared.date_spec.DateSpec.{DateSpec}
use Rattle.ga_base.specs.declared.date_spec.DateSpec.TheVariants as D
use Rattle.ga_panels.specs.Labels.{hour_digits, minute_digits, part_digits, part_parent}

-- the minute of a record that has one is one of the day's
pub minute-timed : (minute : Option ℕ) → unwrap_or minute 0 < 1440 → IfSome minute (λ m. m < 1440)
minute-timed None small = tt
minute-timed (Some minute) small = small

-- bytes below 128 are ASCII
pub ascii-all : (bytes : List ℕ) → AllByRecursion (λ b. b < 128) bytes → IsAscii bytes
ascii-all [] all i = omega arith
ascii-all (b ∷ bytes) all zero = all.0
ascii-all (b ∷ bytes) all (suc i) = ascii-all bytes all.1 i

-- ---- the form of VISITORS' data

digit-yes : (n : ℕ) → n < 10 → is_ascii_digit (48 + n) ≡ true
digit-yes n small = grind (arith, nat_tests)

both-digits : (n : ℕ) → n < 100 → all_ascii_digits (two_digits n) ≡ true
both-digits n small = rw (digit-yes (n / 10) (omega arith), digit-yes (n % 10) (omega arith)) refl

four-digits : (m n : ℕ) → m < 100 → n < 100 → all_ascii_digits (two_digits m ++ two_digits n) ≡ true
four-digits m n small also =
    rw (digit-yes (m / 10) (omega arith), digit-yes (m % 10) (omega arith), digit-yes (n / 10) (omega arith), digit-yes (n % 10) (omega arith)) refl

pub visit-form : (date : ℕ) (spec : DateSpec) (minute : Option ℕ) → IfSome minute (λ m. m < 1440)
    → IsDayOrPart date (part_parent date (part_digits spec minute)) (eight_digits date ++ part_digits spec minute)
visit-form date spec None timed = inl (refl, refl)
visit-form date D.Date (Some minute) timed = inl (refl, refl)
visit-form date D.Hour (Some minute) timed =
    inr (refl, record { more = hour_digits minute; spelled = refl; digits = both-digits (minute / 60) (omega arith); many = inl refl })
visit-form date D.Minute (Some minute) timed =
    inr (
      refl,
      record {
        more = hour_digits minute ++ minute_digits minute;
        spelled = refl;
        digits = four-digits (minute / 60) (minute % 60) (omega arith) (omega arith);
        many = inr refl;
      },
    )
