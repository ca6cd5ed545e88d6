-- What a line says: one thing at most.
use Rattle.std.proofs.Common.{◌≡◌, ℕ, Bool, true, false, List, Option, Some, None, refl, sym, ap, ◌∙◌, subst, inl, inr}
use Rattle.ga_base.specs.declared.record.Line.TheVariants.{Skipped, Failed, Good}
use Rattle.ga_base.specs.declared.record.Record.{Record}
use Rattle.ga_dates.specs.declared.kind.Kind.TheVariants.{Date, Time}
use Rattle.ga_dates.specs.Items.{IsComplete}
use Rattle.ga_line.specs.declared.setup.LineSetup.{LineSetup}
use Rattle.ga_line.specs.declared.numbers.Numbers.{Numbers}
use Rattle.ga_line.specs.Fits.{Part, field}
use Rattle.ga_line.specs.Shapes.{FitsShape}
use Rattle.ga_line.specs.Letters.{request_letter, method_letter, path_letter, protocol_letter, status_letter}
use Rattle.ga_dates.specs.declared.item.Item.{Item}
use Rattle.ga_requests.specs.Requests.{HasParts}
use Rattle.ga_requests.specs.Tables.{IsMethod, IsProtocol}
use Rattle.ga_line.specs.Records.{HasMinute, HasMoment, HasStatus, HasMicros, SaysMoment, HasTexts, IfKnown, HasRequest, AsksFor, url_of, IsRecordOf, IsPassedOver, IsLineOf, Fails, SaysOneThing, taken_part}
use Rattle.ga_line.specs.Steps.Valid.{HasNumbers, AreOf}
use Rattle.ga_dates.specs.Spelling.{SpellsDate, SpellsTime, SpellsBoth}
use Rattle.ga_line.proofs.DecimalLemmas.{micros-unique}
use Rattle.ga_line.proofs.ShapeLemmas.{FitsShape-unique}

-- the record of the fields and their numbers is what the line says
pub says-record : (setup : LineSetup) (line : List ℕ) (parts : List Part) (numbers : Numbers) (rec : Record) → ¬ IsPassedOver line → ¬ Fails setup line → FitsShape setup.format line parts
    → HasNumbers setup parts numbers → AreOf numbers rec → HasTexts setup parts rec → IsLineOf setup line (Good rec)
says-record setup line parts numbers rec read accepted fits has are texts = (
  read,
  accepted,
  (
    parts,
    fits,
    record {
      texts = texts;
      moment = subst (λ (d : ℕ). SaysMoment setup parts d rec.minute) (sym are.date) (subst (λ (m : Option ℕ). SaysMoment setup parts numbers.date m) (sym are.minute) has.moment);
      status = subst (HasStatus setup.strict_status (field status_letter parts)) (sym are.status) has.status;
      bytes = are.bytes ∙ sym has.bytes;
      micros = subst (HasMicros (taken_part parts)) (sym are.micros) has.micros;
    },
  ),
)

status-unique : (strict : Bool) (text : Option (List ℕ)) (status status' : ℕ) → HasStatus strict text status → HasStatus strict text status' → status ≡ status'
status-unique strict None status status' one two = one ∙ sym two
status-unique true (Some text) status status' one two = one.value ∙ sym two.value
status-unique false (Some text) status status' (inl one) (inl two) = one.value ∙ sym two.value
status-unique false (Some text) status status' (inl one) (inr two) = absurd (two.0 status one)
status-unique false (Some text) status status' (inr one) (inl two) = absurd (one.0 status' two)
status-unique false (Some text) status status' (inr one) (inr two) = one.1 ∙ sym two.1

pub taken-unique : (part : Option Part) (micros micros' : Option ℕ) → HasMicros part micros → HasMicros part micros' → micros ≡ micros'
taken-unique None micros micros' one two = one ∙ sym two
taken-unique (Some part) None None one two = refl
taken-unique (Some part) None (Some n) one two = absurd (one n two)
taken-unique (Some part) (Some n) None one two = absurd (two n one)
taken-unique (Some part) (Some n) (Some m) one two = ap Some (micros-unique part n m one two)

-- by a whole format a text spells one date, one minute of the day, and one of both
abbrev pub OneDate : Type 0
OneDate = (items : List Item) → IsComplete Date items → (text : List ℕ) (date other : ℕ) → SpellsDate items text date → SpellsDate items text other → date ≡ other

abbrev pub OneTime : Type 0
OneTime = (items : List Item) → IsComplete Time items → (text : List ℕ) (minute other : ℕ) → SpellsTime items text minute → SpellsTime items text other → minute ≡ other

abbrev pub OneDateAndTime : Type 0
OneDateAndTime = (dates times : List Item) → IsComplete Date dates → IsComplete Time times → (text : List ℕ) (date minute other_date other_minute : ℕ)
    → SpellsBoth dates times text date minute → SpellsBoth dates times text other_date other_minute → (date ≡ other_date) × (minute ≡ other_minute)

-- a text is split in one way
abbrev pub OneSplit : Type 0
OneSplit = (text method target protocol other_method other_target other_protocol : List ℕ) → HasParts text method target protocol → HasParts text other_method other_target other_protocol
    → (method ≡ other_method) × (target ≡ other_target) × (protocol ≡ other_protocol)

if-known-unique : (IsOne : List ℕ → Type 0) (text : Option (List ℕ)) (known known' : List ℕ) → IfKnown IsOne text known → IfKnown IsOne text known' → known ≡ known'
if-known-unique IsOne None known known' one two = one ∙ sym two
if-known-unique IsOne (Some text) known known' (inl one) (inl two) = one.1 ∙ sym two.1
if-known-unique IsOne (Some text) known known' (inl one) (inr two) = absurd (two.0 one.0)
if-known-unique IsOne (Some text) known known' (inr one) (inl two) = absurd (one.0 two.0)
if-known-unique IsOne (Some text) known known' (inr one) (inr two) = one.1 ∙ sym two.1

request-unique : OneSplit → (line method path protocol : Option (List ℕ)) (m t p m' t' p' : List ℕ) → HasRequest line method path protocol m t p → HasRequest line method path protocol m' t' p'
    → (m ≡ m') × (t ≡ t') × (p ≡ p')
request-unique one_split (Some line) method path protocol m t p m' t' p' one two = one_split line m t p m' t' p' one two
request-unique one_split None method path protocol m t p m' t' p' one two =
    (if-known-unique IsMethod method m m' one.0 two.0, one.1 ∙ sym two.1, if-known-unique IsProtocol protocol p p' one.2 two.2)

asks-unique : OneSplit → (setup : LineSetup) (parts : List Part) (m u p m' u' p' : List ℕ) → AsksFor setup parts m u p → AsksFor setup parts m' u' p' → (m ≡ m') × (u ≡ u') × (p ≡ p')
asks-unique one_split setup parts m u p m' u' p' one two =
    let same = request-unique one_split (field request_letter parts) (field method_letter parts) (field path_letter parts) (field protocol_letter parts) m one.target p m' two.target p' one.request two.request in
    (same.0, one.url ∙ ap (λ (t : List ℕ). url_of setup t parts) same.1 ∙ sym two.url, same.2)

module _ (one_split : OneSplit) (one_date : OneDate) (one_time : OneTime) (one_both : OneDateAndTime) where
  minute-unique : (times : List Item) → IsComplete Time times → (time : Option (List ℕ)) (minute minute' : Option ℕ) → HasMinute times time minute → HasMinute times time minute' → minute ≡ minute'
  minute-unique times whole None minute minute' one two = one ∙ sym two
  minute-unique times whole (Some time) minute minute' one two = one.1 ∙ ap Some (one_time times whole time one.0 two.0 one.2 two.2) ∙ sym two.1

  moment-unique : (setup : LineSetup) → IsComplete Date setup.date → IsComplete Time setup.time → (both day time : Option (List ℕ)) (date date' : ℕ) (minute minute' : Option ℕ)
      → HasMoment setup both day time date minute → HasMoment setup both day time date' minute' → (date ≡ date') × (minute ≡ minute')
  moment-unique setup dates times (Some both) day time date date' minute minute' one two =
      let same = one_both setup.date setup.time dates times both date one.0 date' two.0 one.2 two.2 in
      (same.0, one.1 ∙ ap Some same.1 ∙ sym two.1)
  moment-unique setup dates times None None time date date' minute minute' one two = absurd one
  moment-unique setup dates times None (Some day) time date date' minute minute' one two =
      (one_date setup.date dates day date date' one.0 two.0, minute-unique setup.time times time minute minute' one.1 two.1)

  IsRecordOf-unique : (setup : LineSetup) → IsComplete Date setup.date → IsComplete Time setup.time → (parts : List Part) (rec rec' : Record)
      → IsRecordOf setup parts rec → IsRecordOf setup parts rec' → rec ≡ rec'
  IsRecordOf-unique setup dates times parts rec rec' one two =
      let a = one.texts in
      let b = two.texts in
      let moment = moment-unique setup dates times _ _ _ rec.date rec'.date rec.minute rec'.minute one.moment two.moment in
      let host : rec.host ≡ rec'.host = a.host ∙ sym b.host in
      let asks = asks-unique one_split setup parts rec.method rec.url rec.protocol rec'.method rec'.url rec'.protocol a.request b.request in
      let status : rec.status ≡ rec'.status = status-unique setup.strict_status _ rec.status rec'.status one.status two.status in
      let bytes : rec.bytes ≡ rec'.bytes = one.bytes ∙ sym two.bytes in
      let micros : rec.micros ≡ rec'.micros = taken-unique (taken_part parts) rec.micros rec'.micros one.micros two.micros in
      let referrer : rec.referrer ≡ rec'.referrer = a.referrer ∙ sym b.referrer in
      let agent : rec.agent ≡ rec'.agent = a.agent ∙ sym b.agent in
      let vhost : rec.vhost ≡ rec'.vhost = a.vhost ∙ sym b.vhost in
      let user : rec.user ≡ rec'.user = a.user ∙ sym b.user in
      let cache : rec.cache ≡ rec'.cache = a.cache ∙ sym b.cache in
      let mime : rec.mime ≡ rec'.mime = a.mime ∙ sym b.mime in
      let tls : rec.tls ≡ rec'.tls = a.tls ∙ sym b.tls in
      λ i. record {
        host = host i;
        date = moment.0 i;
        minute = moment.1 i;
        method = asks.0 i;
        protocol = asks.2 i;
        url = asks.1 i;
        status = status i;
        bytes = bytes i;
        micros = micros i;
        referrer = referrer i;
        agent = agent i;
        vhost = vhost i;
        user = user i;
        cache = cache i;
        mime = mime i;
        tls = tls i;
      }

  -- a line says one thing
  pub IsLineOf-unique : (setup : LineSetup) (line : List ℕ) → IsComplete Date setup.date → IsComplete Time setup.time → SaysOneThing setup line
  IsLineOf-unique setup line dates times Skipped Skipped a b = refl
  IsLineOf-unique setup line dates times Skipped Failed a b = absurd (b.0 a)
  IsLineOf-unique setup line dates times Skipped (Good rec) a b = absurd (b.0 a)
  IsLineOf-unique setup line dates times Failed Skipped a b = absurd (a.0 b)
  IsLineOf-unique setup line dates times Failed Failed a b = refl
  IsLineOf-unique setup line dates times Failed (Good rec) a b = absurd (b.1 a.1)
  IsLineOf-unique setup line dates times (Good rec) Skipped a b = absurd (a.0 b)
  IsLineOf-unique setup line dates times (Good rec) Failed a b = absurd (a.1 b.1)
  IsLineOf-unique setup line dates times (Good rec) (Good rec') a b =
      let same = FitsShape-unique setup.format line a.2.0 b.2.0 a.2.1 b.2.1 in
      ap Good (IsRecordOf-unique setup dates times b.2.0 rec rec' (subst (λ (ps : List Part). IsRecordOf setup ps rec) same a.2.2) b.2.2)
