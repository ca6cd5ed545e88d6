-- What reading a word, or an option with its value, gives: a unit, or a fault.
use Rattle.std.proofs.Common.{◌≡◌, ◌≢◌, ◌+◌, ◌==◌, ℕ, Bool, true, false, length, if◌then◌else◌, Option, Some, None, List, [], ◌∷◌, codes, refl, sym, ap, ◌∙◌, subst, inl, inr}
use Rattle.std.specs.Str.{bytes_eq}
use Rattle.ga_words.specs.declared.settings.Settings.{Settings}
use Rattle.ga_words.specs.declared.fault.WordFault.{WordFault}
use Rattle.ga_words.specs.declared.fault.WordFault.TheVariants.{UnknownOption, MissingValue}
use Rattle.ga_words.specs.declared.options.Takes.{Takes as CodeTakes}
use Rattle.ga_words.specs.declared.options.Takes.TheVariants as C
use Rattle.ga_words.specs.declared.options.Flag.{Flag as CodeFlag}
use Rattle.ga_words.specs.declared.words_reading.Reading.{Reading}
use Rattle.ga_words.specs.Options.{takes_of, Sets, TakesValue}
use Rattle.ga_words.specs.Units.{BeginsWithDash, AddsLogs}
use Rattle.ga_words.specs.Units.WordUnit.{Alone, Joined, Separate, Log}
use Rattle.ga_words.specs.WordsOf.{BeginsWithFault}
use Rattle.ga_words.specs.Steps.Settings.{meaning, with_flag, IsValueFault}
use Rattle.ga_words.specs.Steps.Words.{IsJoined, HasNoJoined, TakesUnit, IsUnitFault}

abbrev reading_of : Settings → Option ℕ → Reading
reading_of s at = record { settings = s; generate_at = at }

abbrev noted : List ℕ → ℕ → Option ℕ → Option ℕ
noted name at old = if bytes_eq name (codes "--generate") then Some at else old

module _ (word : List ℕ) (after : List (List ℕ)) (at : ℕ) (old : Reading) (s : Settings) where
  pub unit-log : word ≢ [] → ¬ BeginsWithDash word → AddsLogs (word ∷ []) old.settings s → TakesUnit (word ∷ after) after at old (reading_of s old.generate_at)
  unit-log some dashless adds = record { unit = Log word; spells = refl; makes = (some, dashless, adds); place = refl }

  pub unit-flag : (takes : CodeTakes) (flag : CodeFlag) → takes ≡ C.Flag flag → takes_of word ≡ Some (meaning takes) → s ≡ with_flag flag old.settings
      → TakesUnit (word ∷ after) after at old (reading_of s old.generate_at)
  unit-flag takes flag is option set =
      record { unit = Alone word; spells = refl; makes = (with_flag flag, option ∙ ap (λ (t : CodeTakes). Some (meaning t)) is, set); place = refl }

  pub unit-apart : (takes : CodeTakes) (value : List ℕ) (more : List (List ℕ)) (place : Option ℕ) → takes_of word ≡ Some (meaning takes) → after ≡ value ∷ more
      → Sets (meaning takes) value old.settings s → place ≡ noted word at old.generate_at → TakesUnit (word ∷ after) more at old (reading_of s place)
  unit-apart takes value more place option split sets is =
      record { unit = Separate word value; spells = ap (λ (x : List (List ℕ)). word ∷ x) split; makes = (meaning takes, option, sets); place = is }

  pub unit-joined : (name value : List ℕ) (takes : CodeTakes) (place : Option ℕ) → IsJoined word name takes value
      → Sets (meaning takes) value old.settings s → place ≡ noted name at old.generate_at → TakesUnit (word ∷ after) after at old (reading_of s place)
  unit-joined name value takes place joined sets is =
      record { unit = Joined name value; spells = ap (λ (x : List ℕ). x ∷ after) joined.is; makes = (meaning takes, joined.option, joined.long, sets); place = is }

pub takes-value : (takes : CodeTakes) → ((flag : CodeFlag) → takes ≡ C.Flag flag → ⊥) → TakesValue (meaning takes)
takes-value (C.Flag flag) none = absurd (none flag refl)
takes-value (C.Format format) none = λ set e. cc
takes-value (C.Name name) none = λ set e. cc
takes-value (C.Number number low high) none = λ set e. cc
takes-value C.Status none = λ set e. cc
takes-value C.Target none = λ set e. cc
takes-value C.Addresses none = λ set e. cc
takes-value (C.OfPanel on) none = λ set e. cc
takes-value C.DateSpec none = λ set e. cc
takes-value C.HourSpec none = λ set e. cc

module _ (word : List ℕ) (after : List (List ℕ)) (at : ℕ) where
  pub fault-apart : (takes : CodeTakes) (value : List ℕ) (more : List (List ℕ)) (fault : WordFault) → takes_of word ≡ Some (meaning takes) → ((flag : CodeFlag) → takes ≡ C.Flag flag → ⊥)
      → after ≡ value ∷ more → IsValueFault takes value (at + 1) fault → IsUnitFault at (word ∷ after) fault
  fault-apart takes value more fault option none split (inl memory) = inl memory
  fault-apart takes value more fault option none split (inr bad) =
      inr (subst (BeginsWithFault at (word ∷ after)) (sym bad.0) (inr (inl (
        refl,
        record {
          name = word;
          value = value;
          more = more;
          words_are = ap (λ (x : List (List ℕ)). word ∷ x) split;
          takes = meaning takes;
          option = option;
          with_value = takes-value takes none;
          outside = bad.1;
        },
      ))))

  pub fault-joined : (name value : List ℕ) (takes : CodeTakes) (fault : WordFault) → IsJoined word name takes value → IsValueFault takes value at fault → IsUnitFault at (word ∷ after) fault
  fault-joined name value takes fault joined (inl memory) = inl memory
  fault-joined name value takes fault joined (inr bad) =
      inr (subst (BeginsWithFault at (word ∷ after)) (sym bad.0) (inl (
        refl,
        record {
          name = name;
          value = value;
          more = after;
          words_are = ap (λ (x : List ℕ). x ∷ after) joined.is;
          takes = meaning takes;
          option = joined.option;
          long = joined.long;
          outside = bad.1;
        },
      )))

  pub fault-unknown : word ≢ codes "--" → BeginsWithDash word × (takes_of word ≡ None) × HasNoJoined word → IsUnitFault at (word ∷ after) (UnknownOption at)
  fault-unknown no_tail h = inr (refl, (word, after, refl, record { dash = h.0; no_tail = no_tail; alone = h.1; joined = h.2 }))

  pub fault-missing : (takes : CodeTakes) → takes_of word ≡ Some (meaning takes) → ((flag : CodeFlag) → takes ≡ C.Flag flag → ⊥) → after ≡ [] → IsUnitFault at (word ∷ after) (MissingValue at)
  fault-missing takes option none last =
      inr (refl, record { name = word; last = ap (λ (x : List (List ℕ)). word ∷ x) last; takes = meaning takes; option = option; value = takes-value takes none })

pub some-word : (word text : List ℕ) (b : Bool) → b ≡ (length text == 0) → b ≡ false → text ≡ word → word ≢ []
some-word word text b test not_empty same none =
    let empty : length text ≡ 0 = ap length (same ∙ none) in
    let yes : (length text == 0) ≡ true = ap (λ (n : ℕ). n == 0) empty in cc
