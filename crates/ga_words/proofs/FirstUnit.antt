-- All words begin with a unit, with a fault, or with `--`.
use Rattle.std.proofs.Common.{◌≡◌, ◌≢◌, ◌+◌, ℕ, if◌then◌else◌, Option, Some, None, List, [], ◌∷◌, ◌++◌, codes, refl, ap, inl, inr, ◌⊎◌}
use Rattle.ga_words.specs.declared.settings.Settings.{Settings}
use Rattle.ga_words.specs.declared.fault.WordFault.{WordFault}
use Rattle.ga_words.specs.declared.fault.WordFault.TheVariants.{UnknownOption, MissingValue, BadValue}
use Rattle.ga_words.specs.declared.words_reading.Reading.{Reading}
use Rattle.ga_words.specs.Options.{Takes, takes_of, IsLong, TakesValue}
use Rattle.ga_words.specs.Options.Takes.{Flag, Format, Name, Number, Status, Target, Addresses, OfPanel, OneOf}
use Rattle.ga_words.specs.Units.{WordUnit, written, BeginsWithDash, Makes, names_generate}
use Rattle.ga_words.specs.Units.WordUnit.{Alone, Joined, Separate, Log}
use Rattle.ga_words.specs.WordsOf.{BeginsWithFault}
use Rattle.ga_words.specs.Steps.Words.{IsCut, HasNoJoined, TakesUnit}
use Rattle.ga_words.proofs.CutLemmas.{IsPlainOrCut, plain-or-cut}
use Rattle.ga_words.proofs.Decided.{same-number, same-text}
use Rattle.ga_words.proofs.NameLemmas.{no-joined-plain, no-joined-cut}
use Rattle.ga_words.proofs.SomeRange.{OneAddress}
use Rattle.ga_words.proofs.SomeValue.{IsJudged, judged}

-- the first of the words, from `at` on, are a unit, or begin with a fault, or the first is `--`
abbrev pub Begins : List ℕ → List (List ℕ) → ℕ → Reading → Type 0
Begins word after at old =
    ((more : List (List ℕ)) × (new : Reading) × TakesUnit (word ∷ after) more at old new)
    ⊎ ((fault : WordFault) × BeginsWithFault at (word ∷ after) fault)
    ⊎ (word ≡ codes "--")

-- the first words are this unit
unit-first : (word : List ℕ) (after : List (List ℕ)) (at : ℕ) (old : Reading) (unit : WordUnit) (more : List (List ℕ)) (new : Settings)
    → word ∷ after ≡ written unit ++ more → Makes unit old.settings new → Begins word after at old
unit-first word after at old unit more new spells makes =
    inl (
      more,
      record { settings = new; generate_at = if names_generate unit then Some at else old.generate_at },
      record { unit = unit; spells = spells; makes = makes; place = refl },
    )

fault-first : (word : List ℕ) (after : List (List ℕ)) (at : ℕ) (old : Reading) (fault : WordFault) → BeginsWithFault at (word ∷ after) fault → Begins word after at old
fault-first word after at old fault begins = inr (inl (fault, begins))

module _ (one_address : OneAddress) where
  -- the word is an option, `=` and a value
  joined-first : (word : List ℕ) (after : List (List ℕ)) (at : ℕ) (old : Reading) (name value : List ℕ) (takes : Takes)
      → word ≡ name ++ codes "=" ++ value → takes_of name ≡ Some takes → IsLong name → Begins word after at old
  joined-first word after at old name value takes is option long = given (judged one_address takes value old.settings)
    where
      words_are : word ∷ after ≡ (name ++ codes "=" ++ value) ∷ after
      words_are = ap (λ (w : List ℕ). w ∷ after) is

      given : IsJudged takes value old.settings → Begins word after at old
      given (inl (new, sets)) = unit-first word after at old (Joined name value) after new words_are (takes, option, long, sets)
      given (inr outside) =
          fault-first word after at old (BadValue at)
          (inl (refl, record { name = name; value = value; more = after; words_are = words_are; takes = takes; option = option; long = long; outside = outside }))

  -- the word is an option, and its value is the next word, where there is one
  apart-first : (word : List ℕ) (after : List (List ℕ)) (at : ℕ) (old : Reading) (takes : Takes) → takes_of word ≡ Some takes → TakesValue takes → Begins word after at old
  apart-first word [] at old takes option with_value =
      fault-first word [] at old (MissingValue at) (refl, record { name = word; last = refl; takes = takes; option = option; value = with_value })
  apart-first word (value ∷ more) at old takes option with_value = given (judged one_address takes value old.settings)
    where
      given : IsJudged takes value old.settings → Begins word (value ∷ more) at old
      given (inl (new, sets)) = unit-first word (value ∷ more) at old (Separate word value) more new refl (takes, option, sets)
      given (inr outside) =
          fault-first word (value ∷ more) at old (BadValue (at + 1))
          (inr (inl (refl, record { name = word; value = value; more = more; words_are = refl; takes = takes; option = option; with_value = with_value; outside = outside })))

  option-first : (word : List ℕ) (after : List (List ℕ)) (at : ℕ) (old : Reading) (takes : Takes) → takes_of word ≡ Some takes → Begins word after at old
  option-first word after at old (Flag set) e = unit-first word after at old (Alone word) after (set old.settings) refl (set, e, refl)
  option-first word after at old (Format set) e = apart-first word after at old (Format set) e (λ own k. cc)
  option-first word after at old (Name set) e = apart-first word after at old (Name set) e (λ own k. cc)
  option-first word after at old (Number low high set) e = apart-first word after at old (Number low high set) e (λ own k. cc)
  option-first word after at old (Status set) e = apart-first word after at old (Status set) e (λ own k. cc)
  option-first word after at old (Target set) e = apart-first word after at old (Target set) e (λ own k. cc)
  option-first word after at old (Addresses set) e = apart-first word after at old (Addresses set) e (λ own k. cc)
  option-first word after at old (OfPanel set) e = apart-first word after at old (OfPanel set) e (λ own k. cc)
  option-first word after at old (OneOf words) e = apart-first word after at old (OneOf words) e (λ own k. cc)

  dashed-first : (word : List ℕ) (after : List (List ℕ)) (at : ℕ) (old : Reading) → BeginsWithDash word → word ≢ codes "--" → Begins word after at old
  dashed-first word after at old dash no_tail = alone (takes_of word) refl
    where
      unknown : takes_of word ≡ None → HasNoJoined word → Begins word after at old
      unknown none no_joined =
          fault-first word after at old (UnknownOption at) (refl, (word, after, refl, record { dash = dash; no_tail = no_tail; alone = none; joined = no_joined }))

      named : (front back : List ℕ) (found : Option Takes) → takes_of word ≡ None → IsCut word front back → IsLong front → takes_of front ≡ found → Begins word after at old
      named front back None none cut long e = unknown none (no-joined-cut word front back cut (λ own. e))
      named front back (Some takes) none cut long e = joined-first word after at old front back takes cut.split e long

      parted : takes_of word ≡ None → IsPlainOrCut word → Begins word after at old
      parted none (inl plain) = unknown none (no-joined-plain word plain)
      parted none (inr (front, back, cut)) =
          elim (same-text front (codes "-o")) [
            | yes short ↦ unknown none (no-joined-cut word front back cut (λ long. absurd (long short)))
            | no long ↦ named front back (takes_of front) none cut long refl
          ]

      alone : (found : Option Takes) → takes_of word ≡ found → Begins word after at old
      alone None e = parted e (plain-or-cut word)
      alone (Some takes) e = option-first word after at old takes e

  pub begins : (word : List ℕ) (after : List (List ℕ)) (at : ℕ) (old : Reading) → Begins word after at old
  begins [] after at old = fault-first [] after at old (BadValue at) (inr (inr (inl (refl, (after, refl)))))
  begins (b ∷ bs) after at old =
      elim (same-number b 45) [
        | yes dash ↦ elim (same-text (b ∷ bs) (codes "--")) [
          | yes tail ↦ inr (inr tail)
          | no no_tail ↦ dashed-first (b ∷ bs) after at old (bs, ap (λ (x : ℕ). x ∷ bs) dash) no_tail
        ]
        | no dashless ↦ unit-first (b ∷ bs) after at old (Log (b ∷ bs)) after (record old.settings { logs = old.settings.logs ++ (b ∷ bs) ∷ [] }) refl
            ((λ e. cc), (λ h. let first : b ≡ 45 = let e = h.1 in cc in dashless first), refl)
      ]
