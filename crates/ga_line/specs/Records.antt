-- What a line of a log says: the line is passed over, or it fails, or it is a record.
use Rattle.std.specs.Prelude.{◌≡◌, ℕ, ◌*◌, ◌/◌, ◌^◌, ◌<◌, ◌≤◌, ◌⊎◌, ◌==◌, Bool, true, false, ⊤, List, [], ◌∷◌, ◌++◌, length, Option, Some, None, unwrap_or, codes, if◌then◌else◌}
use Rattle.std.specs.List.{find}
use Rattle.std.specs.Str.{all_ascii_digits, bytes_eq}
use Rattle.std.specs.Str.Lossy.{utf8_lossy}
use Rattle.std.specs.Str.Parse.{digits_value}
use Rattle.ga_base.specs.Bytes.{byte_of}
use Rattle.ga_base.specs.declared.counts.TheConstants.{BIG}
use Rattle.ga_base.specs.declared.record.Line.{Line}
use Rattle.ga_base.specs.declared.record.Line.TheVariants.{Skipped, Failed, Good}
use Rattle.ga_base.specs.declared.record.Record.{Record}
use Rattle.ga_base.specs.declared.record.TheConstants.{MAX_LINE}
use Rattle.ga_dates.specs.declared.item.Item.{Item}
use Rattle.ga_dates.specs.Spelling.{SpellsDate, SpellsTime, SpellsBoth}
use Rattle.ga_hosts.specs.Addresses.{IsAddress}
use Rattle.ga_requests.specs.Requests.{HasParts}
use Rattle.ga_requests.specs.Tables.{IsMethod, IsProtocol}
use Rattle.ga_requests.specs.Urls as urls
use Rattle.ga_line.specs.declared.setup.LineSetup.{LineSetup}
use Rattle.ga_line.specs.Fits.{Part, field}
use Rattle.ga_line.specs.Shapes.{FitsShape}
use Rattle.ga_line.specs.Letters.{host_letter, date_letter, time_letter, both_letter, request_letter, method_letter, path_letter, query_letter, protocol_letter, status_letter, size_letter, referrer_letter, agent_letter, vhost_letter, user_letter, cache_letter, mime_letter, tls_letter, micros_letter, millis_letter, seconds_letter, is_taken_letter}

-- the first of two fields of which a format has one at most
abbrev pub either : Option (List ℕ) → Option (List ℕ) → Option (List ℕ)
either None other = other
either (Some text) other = Some text

-- the text that has the day, and the one that has what was asked for
abbrev pub day_text : List Part → Option (List ℕ)
day_text parts = either (field both_letter parts) (field date_letter parts)

abbrev pub request_text : List Part → Option (List ℕ)
request_text parts = either (field request_letter parts) (field path_letter parts)

-- the field is absent, or its text is empty
abbrev pub IsMissing : Option (List ℕ) → Type 0
IsMissing None = ⊤
IsMissing (Some text) = text ≡ []

-- the text of `%t` says this minute of the day; where there is none, there is no minute
abbrev pub HasMinute : List Item → Option (List ℕ) → Option ℕ → Type 0
HasMinute times None minute = minute ≡ None
HasMinute times (Some time) minute = (m : ℕ) × (minute ≡ Some m) × SpellsTime times time m

-- the texts of `%x`, `%d` and `%t` say this day and this minute of it: `%x` is the day and directly after it the time
abbrev pub HasMoment : LineSetup → Option (List ℕ) → Option (List ℕ) → Option (List ℕ) → ℕ → Option ℕ → Type 0
HasMoment setup (Some both) day time date minute = (m : ℕ) × (minute ≡ Some m) × SpellsBoth setup.date setup.time both date m
HasMoment setup None None time date minute = ⊥
HasMoment setup None (Some day) time date minute = SpellsDate setup.date day date × HasMinute setup.time time minute

abbrev pub SaysMoment : LineSetup → List Part → ℕ → Option ℕ → Type 0
SaysMoment setup parts date minute = HasMoment setup (field both_letter parts) (field date_letter parts) (field time_letter parts) date minute

-- the text is a status code: three digits, whose number is 100 to 599
pub record IsStatus (text : List ℕ) (status : ℕ) : Type 0 where
  pub three : length text ≡ 3
  pub digits : all_ascii_digits text ≡ true
  pub value : status ≡ digits_value 10 text
  pub first : 100 ≤ status
  pub last : status ≤ 599

-- the status that the field says: 0 where it is absent, or where it is no status code and that isn't asked for strictly
abbrev pub HasStatus : Bool → Option (List ℕ) → ℕ → Type 0
HasStatus strict None status = status ≡ 0
HasStatus true (Some text) status = IsStatus text status
HasStatus false (Some text) status = IsStatus text status ⊎ (((code : ℕ) → ¬ IsStatus text code) × (status ≡ 0))

-- the value of the field's digits, and 0 where it is absent or has anything but digits
abbrev pub size_value : Option (List ℕ) → ℕ
size_value None = 0
size_value (Some text) = if all_ascii_digits text then digits_value 10 text else 0

-- one or more digits
pub record AreDigits (text : List ℕ) : Type 0 where
  pub some : 0 < length text
  pub digits : all_ascii_digits text ≡ true

-- the number with these digits before its dot and those after it, in units of its last place of this many: what is
-- less than a unit is cut
abbrev pub decimal_value : ℕ → List ℕ → List ℕ → ℕ
decimal_value places front back = digits_value 10 (front ++ back) * 10 ^ places / 10 ^ length back

-- A number in units of its last place of this many: digits alone, or digits, a dot and digits.
pub data IsDecimal (places : ℕ) (text : List ℕ) (number : ℕ) : Type 0 where
  whole : AreDigits text → number ≡ decimal_value places text [] → IsDecimal places text number
  parted : (front back : List ℕ) → text ≡ front ++ byte_of (codes ".") ∷ back → AreDigits front → AreDigits back → number ≡ decimal_value places front back → IsDecimal places text number

-- The microseconds that the text of a field for the time taken writes: whole ones, or milliseconds or seconds with decimals.
pub data IsMicros (part : Part) (micros : ℕ) : Type 0 where
  in_micros : part.0 ≡ micros_letter → AreDigits part.1 → micros ≡ digits_value 10 part.1 → IsMicros part micros
  in_millis : part.0 ≡ millis_letter → IsDecimal 3 part.1 micros → IsMicros part micros
  in_seconds : part.0 ≡ seconds_letter → IsDecimal 6 part.1 micros → IsMicros part micros

-- the first field of the line that has the time taken; the others aren't read
abbrev pub taken_part : List Part → Option Part
taken_part parts = find (λ part. is_taken_letter part.0) parts

-- the time that the answer took: None where the field is absent or is no such number
abbrev pub HasMicros : Option Part → Option ℕ → Type 0
HasMicros None micros = micros ≡ None
HasMicros (Some part) None = (number : ℕ) → ¬ IsMicros part number
HasMicros (Some part) (Some number) = IsMicros part number

-- a line that isn't counted: an empty one, or one that begins with '#'
abbrev pub IsPassedOver : List ℕ → Type 0
IsPassedOver line = (line ≡ []) ⊎ ((comment : List ℕ) × (line ≡ byte_of (codes "#") ∷ comment))

-- the host is there and no address; with the option that lets any text be a host, that is no cause
abbrev pub IsNoAddress : Bool → Option (List ℕ) → Type 0
IsNoAddress true host = ⊥
IsNoAddress false None = ⊥
IsNoAddress false (Some host) = ¬ IsAddress host

-- why a line that fits, with these fields, is refused
pub data IsRefused (setup : LineSetup) (parts : List Part) : Type 0 where
  no_host : IsMissing (field host_letter parts) → IsRefused setup parts
  no_date : IsMissing (day_text parts) → IsRefused setup parts
  no_request : IsMissing (request_text parts) → IsRefused setup parts
  no_address : IsNoAddress setup.no_ip_validation (field host_letter parts) → IsRefused setup parts
  bad_moment : ((date : ℕ) (minute : Option ℕ) → ¬ SaysMoment setup parts date minute) → IsRefused setup parts
  bad_status : ((status : ℕ) → ¬ HasStatus setup.strict_status (field status_letter parts) status) → IsRefused setup parts
  too_large : BIG < size_value (field size_letter parts) → IsRefused setup parts
  too_slow : (micros : ℕ) → HasMicros (taken_part parts) (Some micros) → BIG < micros → IsRefused setup parts

-- why a line that isn't passed over is no valid one
pub data Fails (setup : LineSetup) (line : List ℕ) : Type 0 where
  too_long : MAX_LINE < length line → Fails setup line
  misfit : ((parts : List Part) → ¬ FitsShape setup.format line parts) → Fails setup line
  refused : (parts : List Part) → FitsShape setup.format line parts → IsRefused setup parts → Fails setup line

-- a field's text as UTF-8, with U+FFFD for what isn't, and empty where the field is absent
abbrev pub utf8_text : Option (List ℕ) → List ℕ
utf8_text text = utf8_lossy (unwrap_or text [])

-- what a field says in which a dash says nothing, and that as UTF-8
abbrev pub said : Option (List ℕ) → List ℕ
said None = []
said (Some text) = if bytes_eq text (codes "-") then [] else text

abbrev pub said_text : Option (List ℕ) → List ℕ
said_text text = utf8_lossy (said text)

-- a query after the path, with a question mark between them unless it has its own
abbrev pub with_query : List ℕ → List ℕ → List ℕ
with_query path [] = path
with_query path (byte ∷ query) = path ++ (if byte == urls.question_mark then byte ∷ query else urls.question_mark ∷ byte ∷ query)

-- a text that counts only where it is known, and is empty else
abbrev pub IfKnown : (List ℕ → Type 0) → Option (List ℕ) → List ℕ → Type 0
IfKnown IsOne None known = known ≡ []
IfKnown IsOne (Some text) known = (IsOne text × (known ≡ text)) ⊎ ((¬ IsOne text) × (known ≡ []))

-- the method, the target and the protocol that the texts of `%r`, `%m`, `%U` and `%H` have: those of the request line, or the
-- path, and a method and a protocol where they are known ones
abbrev pub HasRequest : Option (List ℕ) → Option (List ℕ) → Option (List ℕ) → Option (List ℕ) → List ℕ → List ℕ → List ℕ → Type 0
HasRequest (Some request) method path protocol m target p = HasParts request m target p
HasRequest None method path protocol m target p = IfKnown IsMethod method m × (target ≡ unwrap_or path []) × IfKnown IsProtocol protocol p

abbrev pub SaysRequest : List Part → List ℕ → List ℕ → List ℕ → Type 0
SaysRequest parts m target p =
    HasRequest (field request_letter parts) (field method_letter parts) (field path_letter parts) (field protocol_letter parts) m target p

-- how often a URL is decoded
abbrev pub decodings : LineSetup → ℕ
decodings setup = if setup.double_decode then 2 else 1

-- a target without its query where queries aren't asked for
abbrev pub kept_of : LineSetup → List ℕ → List ℕ
kept_of setup target = if setup.no_query then urls.without_query target else target

-- the URL of a target and of the query's own field: joined, then cut, then decoded and made UTF-8
abbrev pub url_of : LineSetup → List ℕ → List Part → List ℕ
url_of setup target parts = urls.url_text (decodings setup) (kept_of setup (with_query target (said (field query_letter parts))))

-- the record has what these fields say of the request
pub record AsksFor (setup : LineSetup) (parts : List Part) (method address protocol : List ℕ) : Type 0 where
  pub target : List ℕ
  pub request : SaysRequest parts method target protocol
  pub url : address ≡ url_of setup target parts

-- the record has the texts of these fields
pub record HasTexts (setup : LineSetup) (parts : List Part) (rec : Record) : Type 0 where
  pub host : rec.host ≡ utf8_text (field host_letter parts)
  pub request : AsksFor setup parts rec.method rec.url rec.protocol
  pub referrer : rec.referrer ≡ said_text (field referrer_letter parts)
  pub agent : rec.agent ≡ said_text (field agent_letter parts)
  pub vhost : rec.vhost ≡ said_text (field vhost_letter parts)
  pub user : rec.user ≡ said_text (field user_letter parts)
  pub cache : rec.cache ≡ said_text (field cache_letter parts)
  pub mime : rec.mime ≡ said_text (field mime_letter parts)
  pub tls : rec.tls ≡ said_text (field tls_letter parts)

-- the record has the values of a line with these fields
pub record IsRecordOf (setup : LineSetup) (parts : List Part) (rec : Record) : Type 0 where
  pub texts : HasTexts setup parts rec
  pub moment : SaysMoment setup parts rec.date rec.minute
  pub status : HasStatus setup.strict_status (field status_letter parts) rec.status
  pub bytes : rec.bytes ≡ size_value (field size_letter parts)
  pub micros : HasMicros (taken_part parts) rec.micros

-- what a line says
abbrev pub IsLineOf : LineSetup → List ℕ → Line → Type 0
IsLineOf setup line Skipped = IsPassedOver line
IsLineOf setup line Failed = ¬ IsPassedOver line × Fails setup line
IsLineOf setup line (Good rec) = ¬ IsPassedOver line × ¬ Fails setup line × ((parts : List Part) × FitsShape setup.format line parts × IsRecordOf setup parts rec)

-- a line says one thing
abbrev pub SaysOneThing : LineSetup → List ℕ → Type 0
SaysOneThing setup line = (one two : Line) → IsLineOf setup line one → IsLineOf setup line two → one ≡ two

-- a line says something
abbrev pub SaysSomething : LineSetup → List ℕ → Type 0
SaysSomething setup line = (answer : Line) × IsLineOf setup line answer
