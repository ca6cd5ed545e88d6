-- All words have an answer.
use mathlib.Core.Logic.Dec.{and}
use Rattle.std.proofs.Common.{◌≡◌, ◌+◌, ◌-◌, ◌<◌, ◌≤◌, ℕ, zero, suc, Option, Some, None, List, [], ◌∷◌, ◌++◌, length, position, codes, refl, ap, inl, inr, arith, length-append, Result, Ok, Err}
use Rattle.ga_words.specs.declared.settings.Settings.{Settings}
use Rattle.ga_words.specs.declared.fault.WordFault.{WordFault}
use Rattle.ga_words.specs.declared.fault.WordFault.TheVariants.{UnknownOption, MissingValue, BadValue, NoFormat, NoInput, Conflict, NoMemory}
use Rattle.ga_words.specs.declared.words_reading.Reading.{Reading}
use Rattle.ga_words.specs.Defaults.{defaults}
use Rattle.ga_words.specs.Units.{WordUnit, written, generate_places}
use Rattle.ga_words.specs.Units.WordUnit.{Alone, Joined, Separate, Log}
use Rattle.ga_words.specs.WordsOf.{WordsOf, HasOther, IsSettingsFault, IsLastOf, rank_of}
use Rattle.ga_words.specs.Steps.Words.{HasRead, HasReadAll, IsLast, IsWholly, is_nameless}
use Rattle.ga_words.proofs.AnswerLemmas.{whole-read, tail-read, nameless-fault, accepted, refusal}
use Rattle.ga_words.proofs.Decided.{either, all-three, is-true, is-false, is-absent, is-empty, has-items}
use Rattle.ga_words.proofs.FirstUnit.{Begins, begins}
use Rattle.ga_words.proofs.LogLemmas.{none-nameless, is-nameless}
use Rattle.ga_words.proofs.RowLemmas.{read-more, fault-next}
use Rattle.ga_words.proofs.SomeRange.{OneAddress}

module _ (units : List WordUnit) (s : Settings) where
  no-format : Dec (IsSettingsFault units s NoFormat)
  no-format = and (has-items s.logs) (is-absent s.log_format)

  no-input : Dec (IsSettingsFault units s NoInput)
  no-input = all-three (is-empty s.logs) (is-false s.restore) (is-absent s.generate)

  has-other : Dec (HasOther s)
  has-other = either (has-items s.logs) (either (is-true s.persist) (is-true s.restore))

  -- nothing that comes before this fault is wrong
  none-before : (fault : WordFault) → (rank_of fault ≤ 2) → (0 < rank_of fault → ¬ IsSettingsFault units s NoFormat) → (1 < rank_of fault → ¬ IsSettingsFault units s NoInput)
      → (other : WordFault) → IsSettingsFault units s other → ¬ (rank_of other < rank_of fault)
  none-before fault top format input (UnknownOption at) h lower = h
  none-before fault top format input (MissingValue at) h lower = h
  none-before fault top format input (BadValue at) h lower = h
  none-before fault top format input NoFormat h lower = format lower h
  none-before fault top format input NoInput h lower = input lower h
  none-before fault top format input (Conflict at) h lower = absurd (omega arith)
  none-before fault top format input NoMemory h lower = h

  faultless : ¬ IsSettingsFault units s NoFormat → ¬ IsSettingsFault units s NoInput → ((at : ℕ) → ¬ IsSettingsFault units s (Conflict at)) → (fault : WordFault) → ¬ IsSettingsFault units s fault
  faultless format input conflict (UnknownOption at) h = h
  faultless format input conflict (MissingValue at) h = h
  faultless format input conflict (BadValue at) h = h
  faultless format input conflict NoFormat h = format h
  faultless format input conflict NoInput h = input h
  faultless format input conflict (Conflict at) h = conflict at h
  faultless format input conflict NoMemory h = h

  -- what is wrong with the settings of these units as a whole, or nothing
  abbrev SomeAmiss : Type 0
  SomeAmiss = (found : Option WordFault) × IsWholly units s found

  no-place : (places : List ℕ) (at : ℕ) → places ≡ [] → IsLastOf places at → ⊥
  no-place places at none ([], e) = cc
  no-place places at none (x ∷ earlier, e) = cc

  conflicting : ¬ IsSettingsFault units s NoFormat → ¬ IsSettingsFault units s NoInput → Dec (HasOther s) → (at : Option ℕ) → IsLast (generate_places 0 units) at → SomeAmiss
  conflicting format input (no alone) at last = (None, faultless format input (λ place h. alone h.1))
  conflicting format input (yes other) None last = (None, faultless format input (λ place h. no-place (generate_places 0 units) place last h.0))
  conflicting format input (yes other) (Some at) last =
      (Some (Conflict at), record { stands = (last, other); first = none-before (Conflict at) (omega arith) (λ _. format) (λ _. input) })

  some-amiss : (at : Option ℕ) → IsLast (generate_places 0 units) at → SomeAmiss
  some-amiss at last = given no-format no-input
    where
      given : Dec (IsSettingsFault units s NoFormat) → Dec (IsSettingsFault units s NoInput) → SomeAmiss
      given (yes h) input = (Some NoFormat, record { stands = h; first = none-before NoFormat (omega arith) (λ lower. absurd (omega arith)) (λ lower. absurd (omega arith)) })
      given (no format) (yes h) = (Some NoInput, record { stands = h; first = none-before NoInput (omega arith) (λ _. format) (λ lower. absurd (omega arith)) })
      given (no format) (no input) = conflicting format input has-other at last

abbrev HasAnswer : List (List ℕ) → Type 0
HasAnswer words = (answer : Result Settings WordFault) × WordsOf words answer

-- a unit is at least one word
has-words : (unit : WordUnit) → 0 < length (written unit)
has-words (Alone name) = omega arith
has-words (Joined name value) = omega arith
has-words (Separate name value) = omega arith
has-words (Log name) = omega arith

module _ (words : List (List ℕ)) where
  -- all of the words are read
  whole-answer : (reading : Reading) → HasReadAll words reading → HasAnswer words
  whole-answer reading read = given (some-amiss read.units reading.settings reading.generate_at read.last)
    where
      given : SomeAmiss read.units reading.settings → HasAnswer words
      given (None, none) = (Ok reading.settings, accepted words reading read none)
      given (Some fault, amiss) = (Err fault, refusal words reading read fault amiss)

  -- `--` and logs are left
  tail-answer : (logs rest : List (List ℕ)) (reading : Reading) → HasRead words rest reading → rest ≡ codes "--" ∷ logs → HasAnswer words
  tail-answer logs rest reading read tail = given (position is_nameless logs) refl
    where
      s : Settings
      s = record reading.settings { logs = reading.settings.logs ++ logs }

      given : (at : Option ℕ) → position is_nameless logs ≡ at → HasAnswer words
      given None e = whole-answer (record reading { settings = s }) (tail-read words rest reading read (codes "--") logs s (inr (logs, tail)) tail (none-nameless logs e) refl)
      given (Some k) e =
          let place = length words - length logs in
          (Err (BadValue (place + k)), inl (nameless-fault words rest reading read (codes "--") logs (BadValue (place + k)) (inr (logs, tail)) tail (is-nameless place logs k e)))

  -- words of which at most this many are left have an answer
  abbrev Answers : ℕ → Type 0
  Answers count = (rest : List (List ℕ)) (reading : Reading) → HasRead words rest reading → length rest ≤ count → HasAnswer words

  next : (count : ℕ) → Answers count → (word : List ℕ) (after : List (List ℕ)) (reading : Reading) → HasRead words (word ∷ after) reading → length after ≤ count
      → Begins word after (length words - length (word ∷ after)) reading → HasAnswer words
  next count again word after reading read le (inl (more, new, takes)) =
      again more new (read-more words (word ∷ after) word after reading read refl more new takes)
      (omega (arith, ap length takes.spells, length-append (written takes.unit) more, has-words takes.unit))
  next count again word after reading read le (inr (inl (fault, stands))) = (Err fault, inl (fault-next words (word ∷ after) word after reading read refl fault stands))
  next count again word after reading read le (inr (inr tail)) = tail-answer after (word ∷ after) reading read (ap (λ (w : List ℕ). w ∷ after) tail)

  -- goes on from what is read, while words are left
  answer-from : OneAddress → (count : ℕ) → Answers count
  answer-from one_address count [] reading read le = whole-answer reading (whole-read words [] reading read refl)
  answer-from one_address zero (word ∷ after) reading read le = absurd (omega arith)
  answer-from one_address (suc count) (word ∷ after) reading read le =
      next count (answer-from one_address count) word after reading read (omega arith) (begins one_address word after (length words - length (word ∷ after)) reading)

pub some-answer : OneAddress → (words : List (List ℕ)) → HasAnswer words
some-answer one_address words =
    answer-from words one_address (length words) words (record { settings = defaults; generate_at = None })
    (record { units = []; spells = refl; row = refl; last = refl }) (omega arith)

pub not-memory : (words : List (List ℕ)) → ¬ WordsOf words (Err NoMemory)
not-memory words (inl h) = h.stands
not-memory words (inr h) = h.stands
