-- The record of a valid line keeps to its bounds.
use Rattle.std.proofs.Common.{◌≡◌, ◌≢◌, ◌⊎◌, ◌+◌, ◌<◌, ◌≤◌, ℕ, Bool, true, false, List, [], ◌∷◌, ◌++◌, ◌==◌, cond, refl, length, take, length-append, Option, Some, None, sym, ap, ◌∙◌, subst, arith, inl, inr, ⊎_elim}
use Rattle.std.proofs.lemmas.Bool.{cases_lt}
use Rattle.std.specs.Prelude.{IfSome}
use Rattle.ga_base.specs.Days.{HasEightDigits}
use Rattle.ga_base.specs.declared.counts.TheConstants.{BIG}
use Rattle.ga_base.specs.declared.record.Line.TheVariants.{Good}
use Rattle.ga_base.specs.declared.record.Record.{Record}
use Rattle.ga_dates.specs.declared.item.Item.{Item}
use Rattle.ga_dates.specs.declared.kind.Kind.TheVariants.{Time}
use Rattle.ga_dates.specs.Items.{IsComplete}
use Rattle.ga_dates.specs.Spelling.{SpellsDate, SpellsTime}
use Rattle.ga_requests.specs.Tables.{IsMethod, IsProtocol}
use Rattle.std.specs.Str.Lossy.{utf8_lossy, utf8_lossy_within, utf8_valid_len, after_first_chunk, replacement_bytes}
use Rattle.ga_line.specs.Bounds.{RecordBounds}
use Rattle.ga_line.specs.declared.setup.LineSetup.{LineSetup}
use Rattle.ga_line.specs.Fits.{Part, field}
use Rattle.ga_line.specs.Letters.{host_letter, request_letter, method_letter, path_letter, protocol_letter, both_letter, date_letter, time_letter, status_letter, size_letter}
use Rattle.ga_line.specs.Records.{HasMoment, HasStatus, HasMicros, IsRefused, IsLineOf, IsMissing, IfKnown, HasRequest, utf8_text, no_host, too_large, too_slow, refused, size_value, taken_part}

-- a date that is spelt has eight digits, and a minute by a whole format is below 1440
abbrev pub EightDigits : Type 0
EightDigits = (items : List Item) (text : List ℕ) (date : ℕ) → SpellsDate items text date → HasEightDigits date

abbrev pub BelowDay : Type 0
BelowDay = (items : List Item) → IsComplete Time items → (text : List ℕ) (minute : ℕ) → SpellsTime items text minute → minute < 1440

minute-bounds : BelowDay → (setup : LineSetup) → IsComplete Time setup.time → (both day time : Option (List ℕ)) (date : ℕ) (minute : Option ℕ) → HasMoment setup both day time date minute → IfSome minute (λ m. m < 1440)
minute-bounds below setup complete (Some both) day time date minute h = subst (λ (m : Option ℕ). IfSome m (λ n. n < 1440)) (sym h.1) (below setup.time complete h.2.back h.0 h.2.time)
minute-bounds below setup complete None None time date minute h = absurd h
minute-bounds below setup complete None (Some day) None date minute h = subst (λ (m : Option ℕ). IfSome m (λ n. n < 1440)) (sym h.1) tt
minute-bounds below setup complete None (Some day) (Some time) date minute (spelt, has) = subst (λ (m : Option ℕ). IfSome m (λ n. n < 1440)) (sym has.1) (below setup.time complete time has.0 has.2)

date-bounds : EightDigits → (setup : LineSetup) (both day time : Option (List ℕ)) (date : ℕ) (minute : Option ℕ) → HasMoment setup both day time date minute → HasEightDigits date
date-bounds eight setup (Some both) day time date minute h = eight setup.date h.2.front date h.2.date
date-bounds eight setup None None time date minute h = absurd h
date-bounds eight setup None (Some day) time date minute h = eight setup.date day date h.0

status-bounds : (strict : Bool) (text : Option (List ℕ)) (status : ℕ) → HasStatus strict text status → (status ≡ 0) ⊎ ((100 ≤ status) × (status ≤ 599))
status-bounds strict None status h = inl h
status-bounds true (Some text) status h = inr (h.first, h.last)
status-bounds false (Some text) status (inl h) = inr (h.first, h.last)
status-bounds false (Some text) status (inr h) = inl h.1

micros-bounds : (setup : LineSetup) (parts : List Part) (micros : Option ℕ) → ¬ IsRefused setup parts → HasMicros (taken_part parts) micros → IfSome micros (λ m. m ≤ BIG)
micros-bounds setup parts None accepted has = tt
micros-bounds setup parts (Some m) accepted has = ⊎_elim (λ slow. absurd (accepted (too_slow m has slow))) (λ within. within) (cases_lt BIG m)

-- a text that isn't empty stays so where it is made UTF-8
lossy-some : (text : List ℕ) → text ≢ [] → utf8_lossy text ≢ []
unfolding utf8_lossy
lossy-some [] some none = some refl
lossy-some (b ∷ rest) some none = go (utf8_valid_len (b ∷ rest) == length (b ∷ rest)) none
  where
    go : (whole : Bool) → cond whole (b ∷ rest) (take (utf8_valid_len (b ∷ rest)) (b ∷ rest) ++ (replacement_bytes ++ utf8_lossy_within (length rest) (after_first_chunk (b ∷ rest)))) ≡ [] → ⊥
    go true e = let l : length (b ∷ rest) ≡ 0 = ap length e in omega arith
    go false e =
        let later = replacement_bytes ++ utf8_lossy_within (length rest) (after_first_chunk (b ∷ rest)) in
        let l : length (take (utf8_valid_len (b ∷ rest)) (b ∷ rest)) + length later ≡ 0 = sym (length-append (take (utf8_valid_len (b ∷ rest)) (b ∷ rest)) later) ∙ ap length e in
        omega arith

host-some : (text : Option (List ℕ)) → ¬ IsMissing text → utf8_text text ≢ []
host-some None there = absurd (there tt)
host-some (Some text) there = lossy-some text there

-- the method and the protocol are known or empty
if-known : (IsOne : List ℕ → Type 0) (text : Option (List ℕ)) (known : List ℕ) → IfKnown IsOne text known → (known ≡ []) ⊎ IsOne known
if-known IsOne None known h = inl h
if-known IsOne (Some text) known (inl h) = inr (subst IsOne (sym h.1) h.0)
if-known IsOne (Some text) known (inr h) = inl h.1

request-known : (line method path protocol : Option (List ℕ)) (m t p : List ℕ) → HasRequest line method path protocol m t p → ((m ≡ []) ⊎ IsMethod m) × ((p ≡ []) ⊎ IsProtocol p)
request-known (Some line) method path protocol m t p (inl h) = (inr h.method_is_known, inr h.protocol_is_known)
request-known (Some line) method path protocol m t p (inr h) = (inl h.no_method, inl h.no_protocol)
request-known None method path protocol m t p h = (if-known IsMethod method m h.0, if-known IsProtocol protocol p h.2)

pub good-bounds : EightDigits → BelowDay → (setup : LineSetup) (line : List ℕ) (rec : Record) → IsComplete Time setup.time → IsLineOf setup line (Good rec) → RecordBounds rec
good-bounds eight below setup line rec complete says =
    let parts = says.2.0 in
    let is = says.2.2 in
    let accepted : ¬ IsRefused setup parts = λ r. says.1 (refused parts says.2.1 r) in
    let known = request-known (field request_letter parts) (field method_letter parts) (field path_letter parts) (field protocol_letter parts) rec.method is.texts.request.target rec.protocol is.texts.request.request in
    let there : ¬ IsMissing (field host_letter parts) = λ missing. accepted (no_host missing) in
    record {
      host = λ none. host-some (field host_letter parts) there (sym is.texts.host ∙ none);
      method = known.0;
      protocol = known.1;
      date = date-bounds eight setup (field both_letter parts) (field date_letter parts) (field time_letter parts) rec.date rec.minute is.moment;
      minute = minute-bounds below setup complete (field both_letter parts) (field date_letter parts) (field time_letter parts) rec.date rec.minute is.moment;
      status = status-bounds setup.strict_status (field status_letter parts) rec.status is.status;
      bytes = ⊎_elim (λ large. absurd (accepted (too_large large))) (λ within. omega (arith, is.bytes, within)) (cases_lt BIG (size_value (field size_letter parts)));
      micros = micros-bounds setup parts rec.micros accepted is.micros;
    }
