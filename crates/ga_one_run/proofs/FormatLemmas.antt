-- The formats of settings mean one thing: a setup, or one refusal.
use Rattle.std.proofs.Common.{◌≡◌, ◌≢◌, ◌⊎◌, ℕ, Bool, List, refl, ap, sym, ◌∙◌, subst, inl, inr, ⊎_elim, Result, Ok, Err, codes}
use Rattle.std.proofs.lemmas.Bool.{cases_Bool, true≢false}
use Rattle.std.proofs.lemmas.Slice.Eq.{bytes_eq-Decides}
use Rattle.std.specs.Str.{bytes_eq}
use Rattle.ga_base.specs.declared.formats.FormatFault.{FormatFault}
use Rattle.ga_base.specs.declared.formats.FormatFault.TheVariants.{UnknownSpecifier, Repeated, NoDelimiter, Missing, BadDirective, NotJson, BadShape, Leaf, NoMemory as FormatNoMemory}
use Rattle.ga_dates.specs.declared.item.Item.{Item}
use Rattle.ga_dates.specs.declared.kind.Kind.{Kind}
use Rattle.ga_dates.specs.declared.kind.Kind.TheVariants.{Date as DateKind, Time as TimeKind}
use Rattle.ga_dates.specs.Grammar.{IsAnswer, IsFormatFault}
use Rattle.ga_format.specs.Named.{StandsFor}
use Rattle.ga_line.specs.declared.setup.LineSetup.{LineSetup}
use Rattle.ga_line.specs.declared.setup.Shape.{Shape}
use Rattle.ga_line.specs.ShapeTexts.{ShapeOf}
use Rattle.ga_words.specs.declared.settings.Settings.{Settings}
use Rattle.ga_one_run.specs.Setups.{IsLineSetup, LogMeans, format_word}
use Rattle.ga_one_run.specs.Steps.Setups.{GivesLineSetup, IsRefusal}
use Rattle.ga_one_run.specs.declared.setups.SetupFault.{SetupFault}
use Rattle.ga_one_run.specs.declared.setups.SetupFault.TheVariants.{Refused, NoMemory}
use Rattle.ga_one_run.specs.declared.status.Which.{Which}
use Rattle.ga_one_run.specs.declared.status.Which.TheVariants.{Log, Date, Time}

same-or-not : (x y : List ℕ) → (x ≡ y) ⊎ (x ≢ y)
same-or-not x y =
    ⊎_elim (λ e. inl ((bytes_eq-Decides x y).0 e)) (λ e. inr (λ same. true≢false (sym ((bytes_eq-Decides x y).1 same) ∙ e))) (cases_Bool (bytes_eq x y))

-- a word represents one text
one-text : (word a b : List ℕ) → StandsFor word a → StandsFor word b → a ≡ b
one-text word a b h k =
    ⊎_elim (λ e. h.is_common e ∙ sym (k.is_common e)) (λ one.
    ⊎_elim (λ e. h.is_combined e ∙ sym (k.is_combined e)) (λ two.
    ⊎_elim (λ e. h.is_vcommon e ∙ sym (k.is_vcommon e)) (λ three.
    ⊎_elim (λ e. h.is_vcombined e ∙ sym (k.is_vcombined e)) (λ four.
    h.is_other one two three four ∙ sym (k.is_other one two three four))
    (same-or-not word (codes "VCOMBINED")))
    (same-or-not word (codes "VCOMMON")))
    (same-or-not word (codes "COMBINED")))
    (same-or-not word (codes "COMMON"))

-- what the laws of formats say
abbrev OneAnswer : Type 0
OneAnswer = (text : List ℕ) (answer other : Result Shape FormatFault) → ShapeOf text answer → ShapeOf text other → answer ≡ other

abbrev OneFormat : Type 0
OneFormat = (kind : Kind) (text : List ℕ) (answer other : Result (List Item) FormatFault) → IsAnswer kind text answer → IsAnswer kind text other → answer ≡ other

-- the same in the order in which the formats are asked: each step has one outcome
abbrev setup-of : Settings → Shape → List Item → List Item → LineSetup
setup-of s items dates times = record {
  format = items;
  date = dates;
  time = times;
  no_ip_validation = s.no_ip_validation;
  strict_status = s.strict_status;
  double_decode = s.double_decode;
  no_query = s.no_query;
}

abbrev after-time : Settings → Shape → List Item → Result (List Item) FormatFault → Result LineSetup SetupFault
after-time s items dates (Ok times) = Ok (setup-of s items dates times)
after-time s items dates (Err fault) = Err (Refused Time fault)

record TimeStep (s : Settings) (items : Shape) (dates : List Item) (answer : Result LineSetup SetupFault) : Type 0 where
  times : Result (List Item) FormatFault
  means : IsAnswer TimeKind s.time_format times
  is : answer ≡ after-time s items dates times

abbrev AfterDate : Settings → Shape → Result (List Item) FormatFault → Result LineSetup SetupFault → Type 0
AfterDate s items (Ok dates) answer = TimeStep s items dates answer
AfterDate s items (Err fault) answer = answer ≡ Err (Refused Date fault)

record DateStep (s : Settings) (items : Shape) (answer : Result LineSetup SetupFault) : Type 0 where
  dates : Result (List Item) FormatFault
  means : IsAnswer DateKind s.date_format dates
  next : AfterDate s items dates answer

abbrev AfterLog : Settings → Result Shape FormatFault → Result LineSetup SetupFault → Type 0
AfterLog s (Ok items) answer = DateStep s items answer
AfterLog s (Err fault) answer = answer ≡ Err (Refused Log fault)

record LogStep (s : Settings) (answer : Result LineSetup SetupFault) : Type 0 where
  log : Result Shape FormatFault
  means : LogMeans (format_word s) log
  next : AfterLog s log answer

module _ (one_answer : OneAnswer) (one-format : OneFormat) where
  one-log : (word : List ℕ) (a b : Result Shape FormatFault) → LogMeans word a → LogMeans word b → a ≡ b
  one-log word a b h k =
      one_answer k.0 a b (subst (λ (text : List ℕ). ShapeOf text a) (one-text word h.0 k.0 h.1 k.1) h.2) k.2

  one-time : (s : Settings) (items : Shape) (dates : List Item) (a b : Result LineSetup SetupFault) → TimeStep s items dates a → TimeStep s items dates b → a ≡ b
  one-time s items dates a b h k = h.is ∙ ap (after-time s items dates) (one-format TimeKind s.time_format h.times k.times h.means k.means) ∙ sym k.is

  after-date : (s : Settings) (items : Shape) (dates : Result (List Item) FormatFault) (a b : Result LineSetup SetupFault) → AfterDate s items dates a → AfterDate s items dates b
      → a ≡ b
  after-date s items (Ok dates) a b h k = one-time s items dates a b h k
  after-date s items (Err fault) a b h k = h ∙ sym k

  one-date : (s : Settings) (items : Shape) (a b : Result LineSetup SetupFault) → DateStep s items a → DateStep s items b → a ≡ b
  one-date s items a b h k =
      after-date s items k.dates a b
      (subst (λ (r : Result (List Item) FormatFault). AfterDate s items r a) (one-format DateKind s.date_format h.dates k.dates h.means k.means) h.next) k.next

  after-log : (s : Settings) (log : Result Shape FormatFault) (a b : Result LineSetup SetupFault) → AfterLog s log a → AfterLog s log b → a ≡ b
  after-log s (Ok items) a b h k = one-date s items a b h k
  after-log s (Err fault) a b h k = h ∙ sym k

  one-step : (s : Settings) (a b : Result LineSetup SetupFault) → LogStep s a → LogStep s b → a ≡ b
  one-step s a b h k =
      after-log s k.log a b (subst (λ (r : Result Shape FormatFault). AfterLog s r a) (one-log (format_word s) h.log k.log h.means k.means) h.next) k.next

abbrev with-flags : LineSetup → Bool → Bool → Bool → Bool → LineSetup
with-flags line n t d q = record line { no_ip_validation = n; strict_status = t; double_decode = d; no_query = q }

flags-same : (line : LineSetup) (n n' t t' d d' q q' : Bool) → n ≡ n' → t ≡ t' → d ≡ d' → q ≡ q' → with-flags line n t d q ≡ with-flags line n' t' d' q'
flags-same line n n' t t' d d' q q' e f g h = λ i. with-flags line (e i) (f i) (g i) (h i)

setup-is : (s : Settings) (line : LineSetup) → IsLineSetup s line → Ok line ≡ after-time s line.format line.date (Ok line.time)
setup-is s line h =
    ap Ok (flags-same line line.no_ip_validation s.no_ip_validation line.strict_status s.strict_status line.double_decode s.double_decode line.no_query s.no_query h.no_ip_validation h.strict_status
    h.double_decode h.no_query)

steps-of : (s : Settings) (answer : Result LineSetup SetupFault) → GivesLineSetup s answer → LogStep s answer
steps-of s (Ok line) h = record {
  log = Ok line.format;
  means = h.format;
  next = record { dates = Ok line.date; means = h.date; next = record { times = Ok line.time; means = h.time; is = setup-is s line h } };
}
steps-of s (Err (Refused Log fault)) h = record { log = Err fault; means = h.0; next = refl }
steps-of s (Err (Refused Date fault)) h = record { log = Ok h.0.0; means = h.0.1; next = record { dates = Err fault; means = h.0.2; next = refl } }
steps-of s (Err (Refused Time fault)) h = record {
  log = Ok h.0.0;
  means = h.0.2;
  next = record { dates = Ok h.0.1; means = h.0.3; next = record { times = Err fault; means = h.0.4; is = refl } };
}
steps-of s (Err NoMemory) h = absurd (h.1 refl)

-- the formats of settings mean one thing
pub one-outcome : OneAnswer → OneFormat → (s : Settings) (a b : Result LineSetup SetupFault) → GivesLineSetup s a → GivesLineSetup s b → a ≡ b
one-outcome answer format s a b h k = one-step answer format s a b (steps-of s a h) (steps-of s b k)

answer-of : (kind : Kind) (text : List ℕ) (fault : FormatFault) → IsFormatFault kind text fault → fault ≢ FormatNoMemory → IsAnswer kind text (Err fault)
answer-of kind text (UnknownSpecifier at) h fed = absurd h
answer-of kind text (Repeated at) h fed = absurd h
answer-of kind text (NoDelimiter at) h fed = absurd h
answer-of kind text (Missing need) h fed = absurd h
answer-of kind text (BadDirective at) h fed = h
answer-of kind text NotJson h fed = absurd h
answer-of kind text (BadShape leaf) h fed = absurd h
answer-of kind text (Leaf leaf fault at) h fed = absurd h
answer-of kind text FormatNoMemory h fed = absurd (fed refl)

-- a refusal for the fault that a date or time format has is one for its answer
pub refused-as : (which : Which) (kind : Kind) (text : List ℕ) (fault : FormatFault) (refusal : SetupFault) → IsFormatFault kind text fault
    → IsRefusal which (λ other. (other ≡ fault) × (other ≢ FormatNoMemory)) refusal → IsRefusal which (λ other. IsAnswer kind text (Err other)) refusal
refused-as which kind text fault (Refused other found) bad h =
    (h.0, answer-of kind text found (subst (λ (f : FormatFault). IsFormatFault kind text f) (sym h.1.0) bad) h.1.1)
refused-as which kind text fault NoMemory bad h = tt

-- a refusal for the fault that a log format has is one for its meaning
pub refused-log : (word text : List ℕ) (fault : FormatFault) (refusal : SetupFault) → StandsFor word text → (fault ≡ FormatNoMemory) ⊎ ShapeOf text (Err fault)
    → IsRefusal Log (λ other. (other ≡ fault) × (other ≢ FormatNoMemory)) refusal → IsRefusal Log (λ other. LogMeans word (Err other)) refusal
refused-log word text fault (Refused other found) stands bad h = (h.0, (text, stands, by bad))
  where
    by : (fault ≡ FormatNoMemory) ⊎ ShapeOf text (Err fault) → ShapeOf text (Err found)
    by (inl none) = absurd (h.1.1 (h.1.0 ∙ none))
    by (inr is) = subst (λ (f : FormatFault). ShapeOf text (Err f)) (sym h.1.0) is
refused-log word text fault NoMemory stands bad h = tt
