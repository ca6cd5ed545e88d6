-- The fields of a line that are accepted, and those that are refused.
use Rattle.std.proofs.Common.{◌≡◌, ◌↔◌, ℕ, ◌≤◌, Bool, false, List, length, Option, Some, sym, ◌∙◌, subst, arith}
use Rattle.std.specs.Prelude.{IsTrue, IfSome}
use Rattle.std.proofs.lemmas.Bool.{false≢true}
use Rattle.ga_base.specs.declared.counts.TheConstants.{BIG}
use Rattle.ga_base.specs.declared.record.TheConstants.{MAX_LINE}
use Rattle.ga_line.specs.declared.numbers.Numbers.{Numbers}
use Rattle.ga_line.specs.declared.setup.LineSetup.{LineSetup}
use Rattle.ga_line.specs.Fits.{Part, field}
use Rattle.ga_line.specs.Shapes.{FitsShape}
use Rattle.ga_line.specs.Letters.{host_letter, both_letter, date_letter, time_letter, status_letter, size_letter}
use Rattle.ga_line.specs.Records.{IsMissing, IsNoAddress, day_text, request_text, taken_part, HasMoment, SaysMoment, HasStatus, HasMicros, size_value, IsRefused, no_host, no_date, no_request, no_address, bad_moment, bad_status, too_large, too_slow, Fails, too_long, misfit, refused}
use Rattle.ga_line.specs.Steps.Valid.{HasNumbers}
use Rattle.ga_line.proofs.ReadLemmas.{taken-unique}
use Rattle.ga_line.proofs.ShapeLemmas.{FitsShape-unique}

-- a test that tells what is missing says no
pub is-there : {b : Bool} {text field_text : Option (List ℕ)} → IsTrue b ↔ IsMissing text → b ≡ false → text ≡ field_text → ¬ IsMissing field_text
is-there tells denied same missing = false≢true (sym denied ∙ tells.1 (subst IsMissing (sym same) missing))

-- and one that tells of a host that is no address
pub is-address : (any : Bool) {b : Bool} {text field_text : Option (List ℕ)} → IsTrue b ↔ IsNoAddress any text → b ≡ false → text ≡ field_text → ¬ IsNoAddress any field_text
is-address any tells denied same bad = false≢true (sym denied ∙ tells.1 (subst (IsNoAddress any) (sym same) bad))

-- what the texts of the fields say, the line says
pub says-moment : (setup : LineSetup) (parts : List Part) {both day time : Option (List ℕ)} (date : ℕ) (minute : Option ℕ) → both ≡ field both_letter parts → day ≡ field date_letter parts
    → time ≡ field time_letter parts → HasMoment setup both day time date minute → SaysMoment setup parts date minute
says-moment setup parts {both = both} {day = day} {time = time} date minute b d t has =
    subst (λ (x : Option (List ℕ)). HasMoment setup (field both_letter parts) (field date_letter parts) x date minute) t
    (subst (λ (x : Option (List ℕ)). HasMoment setup (field both_letter parts) x time date minute) d (subst (λ (x : Option (List ℕ)). HasMoment setup x day time date minute) b has))

pub has-numbers : (setup : LineSetup) (parts : List Part) (numbers : Numbers) → ¬ IsMissing (field host_letter parts) → ¬ IsMissing (day_text parts) → ¬ IsMissing (request_text parts)
    → ¬ IsNoAddress setup.no_ip_validation (field host_letter parts) → SaysMoment setup parts numbers.date numbers.minute → HasStatus setup.strict_status (field status_letter parts) numbers.status → numbers.bytes ≡ size_value (field size_letter parts)
    → numbers.bytes ≤ BIG → HasMicros (taken_part parts) numbers.micros → IfSome numbers.micros (λ m. m ≤ BIG) → HasNumbers setup parts numbers
has-numbers setup parts numbers host day request address moment status bytes small micros short = record {
  accepted = accepted;
  moment = moment;
  status = status;
  bytes = sym bytes;
  micros = micros;
}
  where
    accepted : ¬ IsRefused setup parts
    accepted (no_host missing) = host missing
    accepted (no_date missing) = day missing
    accepted (no_request missing) = request missing
    accepted (no_address bad) = address bad
    accepted (bad_moment none) = none numbers.date numbers.minute moment
    accepted (bad_status none) = none numbers.status status
    accepted (too_large above) = omega (arith, above, bytes, small)
    accepted (too_slow m has above) =
        let same : numbers.micros ≡ Some m = taken-unique (taken_part parts) numbers.micros (Some m) micros has in
        let within : m ≤ BIG = subst (λ (o : Option ℕ). IfSome o (λ n. n ≤ BIG)) same short in
        omega (arith, above, within)

-- a line of fields that are accepted is valid
pub accepted-line : (setup : LineSetup) (line : List ℕ) (parts : List Part) → length line ≤ MAX_LINE → FitsShape setup.format line parts → ¬ IsRefused setup parts → ¬ Fails setup line
accepted-line setup line parts short fits accepted (too_long long) = omega (arith, short, long)
accepted-line setup line parts short fits accepted (misfit none) = none parts fits
accepted-line setup line parts short fits accepted (refused others given r) = accepted (subst (IsRefused setup) (FitsShape-unique setup.format line others parts given fits) r)
