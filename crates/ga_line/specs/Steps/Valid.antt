-- What the values of a valid line promise.
use Rattle.std.specs.Prelude.{◌≡◌, ◌⊎◌, ℕ, ◌<◌, List, [], Option, Some, Result, Ok, Err, ⊤}
use Rattle.std.specs.Str.{IsUtf8}
use Rattle.std.specs.declared.borrow.CowStr.{CowStr}
use Rattle.std.specs.declared.borrow.CowStr.TheVariants.{Borrowed, Owned}
use Rattle.ga_base.specs.declared.counts.TheConstants.{BIG}
use Rattle.ga_base.specs.declared.record.Record.{Record}
use Rattle.ga_requests.specs.Tables.{IsMethod, IsProtocol}
use Rattle.ga_line.specs.declared.numbers.Numbers.{Numbers}
use Rattle.ga_line.specs.declared.setup.LineSetup.{LineSetup}
use Rattle.ga_line.specs.Fits.{Part, field}
use Rattle.ga_line.specs.Letters.{status_letter, size_letter}
use Rattle.ga_line.specs.Records.{IsRefused, SaysMoment, HasStatus, HasMicros, size_value, taken_part}

-- the fields aren't refused, and these are the numbers that they say
pub record HasNumbers (setup : LineSetup) (parts : List Part) (numbers : Numbers) : Type 0 where
  pub accepted : ¬ IsRefused setup parts
  pub moment : SaysMoment setup parts numbers.date numbers.minute
  pub status : HasStatus setup.strict_status (field status_letter parts) numbers.status
  pub bytes : size_value (field size_letter parts) ≡ numbers.bytes
  pub micros : HasMicros (taken_part parts) numbers.micros

-- the time taken is too large to count
abbrev pub IsTooSlow : Option Part → Type 0
IsTooSlow part = (micros : ℕ) × HasMicros part (Some micros) × (BIG < micros)

-- the record has these numbers
pub record AreOf (numbers : Numbers) (rec : Record) : Type 0 where
  pub date : rec.date ≡ numbers.date
  pub minute : rec.minute ≡ numbers.minute
  pub status : rec.status ≡ numbers.status
  pub bytes : rec.bytes ≡ numbers.bytes
  pub micros : rec.micros ≡ numbers.micros

-- the text is a known method, a known protocol or empty
abbrev pub IsKnownText : List ℕ → Type 0
IsKnownText text = (text ≡ []) ⊎ (IsMethod text ⊎ IsProtocol text)

-- the texts of all fields are UTF-8
abbrev pub AreUtf8 : List Part → Type 0
AreUtf8 parts = (letter : ℕ) (text : List ℕ) → field letter parts ≡ Some text → IsUtf8 text

-- the text is answered, and borrowed
abbrev pub IsLent : {Z E : Type 0} → Result (CowStr Z) E → Type 0
IsLent (Ok (Borrowed text)) = ⊤
IsLent (Ok (Owned text)) = ⊥
IsLent (Err e) = ⊥
