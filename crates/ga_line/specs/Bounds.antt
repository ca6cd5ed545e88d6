-- The bounds that the record of a valid line keeps to.
use Rattle.std.specs.Prelude.{◌≡◌, ◌≢◌, [], ◌<◌, ◌≤◌, ◌⊎◌, ⊤, IfSome}
use Rattle.ga_base.specs.Days.{HasEightDigits}
use Rattle.ga_base.specs.declared.counts.TheConstants.{BIG}
use Rattle.ga_base.specs.declared.record.Line.{Line}
use Rattle.ga_base.specs.declared.record.Line.TheVariants.{Skipped, Failed, Good}
use Rattle.ga_base.specs.declared.record.Record.{Record}
use Rattle.ga_requests.specs.Tables.{IsMethod, IsProtocol}

-- The host isn't empty, method and protocol are known ones or empty. The date has eight digits, as 20240229 has, and a day has
-- 1440 minutes.
pub record RecordBounds (rec : Record) : Type 0 where
  pub host : rec.host ≢ []
  pub method : (rec.method ≡ []) ⊎ IsMethod rec.method
  pub protocol : (rec.protocol ≡ []) ⊎ IsProtocol rec.protocol
  pub date : HasEightDigits rec.date
  pub minute : IfSome rec.minute (λ minute. minute < 1440)
  pub status : (rec.status ≡ 0) ⊎ ((100 ≤ rec.status) × (rec.status ≤ 599))
  pub bytes : rec.bytes ≤ BIG
  pub micros : IfSome rec.micros (λ micros. micros ≤ BIG)

-- the record that a line says, if it says one, keeps to them
abbrev pub KeepsBounds : Line → Type 0
KeepsBounds Skipped = ⊤
KeepsBounds Failed = ⊤
KeepsBounds (Good rec) = RecordBounds rec
