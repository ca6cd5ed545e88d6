-- What a word says by itself, what reading a unit does, and what is known after the units.
use Rattle.std.specs.Prelude.{◌≡◌, ◌≢◌, ℕ, ◌+◌, ◌<◌, ◌==◌, ◌⊎◌, Bool, if◌then◌else◌, Option, Some, None, List, [], ◌∷◌, ◌++◌, length, codes, MatchOption}
use Rattle.ga_words.specs.declared.settings.Settings.{Settings}
use Rattle.ga_words.specs.declared.fault.WordFault.{WordFault}
use Rattle.ga_words.specs.declared.fault.WordFault.TheVariants.{BadValue, NoMemory}
use Rattle.ga_words.specs.declared.options.Takes.{Takes as CodeTakes}
use Rattle.ga_words.specs.declared.word.Word.{Word}
use Rattle.ga_words.specs.declared.word.Word.TheVariants as W
use Rattle.ga_words.specs.declared.words_reading.Reading.{Reading}
use Rattle.ga_words.specs.Defaults.{defaults}
use Rattle.ga_words.specs.Options.{takes_of, IsLong}
use Rattle.ga_words.specs.Units.{WordUnit, written, spelled, BeginsWithDash, Makes, RowMakes, AreNamed, names_generate, generate_places}
use Rattle.ga_words.specs.WordsOf.{AreUnits, BeginsWithFault, IsLastOf, IsSettingsFault, rank_of}
use Rattle.ga_words.specs.Steps.Settings.{meaning}

-- the text has no `=`
abbrev pub IsPlain : List ℕ → Type 0
IsPlain text = (front back : List ℕ) → text ≢ front ++ codes "=" ++ back

-- the word is cut at its first `=`
pub record IsCut (word front back : List ℕ) : Type 0 where
  pub split : word ≡ front ++ codes "=" ++ back
  pub plain : IsPlain front

-- the word is the option of this name, which takes this, `=` and this value
pub record IsJoined (word name : List ℕ) (takes : CodeTakes) (value : List ℕ) : Type 0 where
  pub is : word ≡ name ++ codes "=" ++ value
  pub long : IsLong name
  pub option : takes_of name ≡ Some (meaning takes)

-- the word is no option with `=` and a value
abbrev pub HasNoJoined : List ℕ → Type 0
HasNoJoined word = (name value : List ℕ) → word ≡ name ++ codes "=" ++ value → IsLong name → takes_of name ≡ None

-- what is found of a word is what it says
abbrev pub SaysOf : List ℕ → Word → Type 0
SaysOf word W.Log = ¬ BeginsWithDash word
SaysOf word (W.Alone takes) = takes_of word ≡ Some (meaning takes)
SaysOf word (W.Joined name takes value) = IsJoined word name.now takes value.now
SaysOf word W.Unknown = BeginsWithDash word × (takes_of word ≡ None) × HasNoJoined word

-- the fault is lack of memory, or the words that begin at `at` begin with it
abbrev pub IsUnitFault : ℕ → List (List ℕ) → WordFault → Type 0
IsUnitFault at words fault = (fault ≡ NoMemory) ⊎ BeginsWithFault at words fault

-- the first of these words, from `at` on, are a unit, with this after it, and it is read
pub record TakesUnit (words rest : List (List ℕ)) (at : ℕ) (old new : Reading) : Type 0 where
  pub unit : WordUnit
  pub spells : words ≡ written unit ++ rest
  pub makes : Makes unit old.settings new.settings
  pub place : new.generate_at ≡ (if names_generate unit then Some at else old.generate_at)

-- the last of the places, where there is one
abbrev pub IsLast : List ℕ → Option ℕ → Type 0
IsLast places None = places ≡ []
IsLast places (Some at) = IsLastOf places at

-- these words begin with a row of units, which is read, and this is after it
pub record HasRead (words rest : List (List ℕ)) (reading : Reading) : Type 0 where
  pub units : List WordUnit
  pub spells : words ≡ spelled units ++ rest
  pub row : RowMakes units defaults reading.settings
  pub last : IsLast (generate_places 0 units) reading.generate_at

-- all of these words are read
pub record HasReadAll (words : List (List ℕ)) (reading : Reading) : Type 0 where
  pub units : List WordUnit
  pub are_units : AreUnits words units reading.settings
  pub last : IsLast (generate_places 0 units) reading.generate_at

-- no word is left, or `--` and what follows it
abbrev pub IsTail : List (List ℕ) → Type 0
IsTail rest = (rest ≡ []) ⊎ ((logs : List (List ℕ)) × (rest ≡ codes "--" ∷ logs))

-- what is wrong with the settings of these units as a whole, or nothing
pub record IsFirstSettingsFault (units : List WordUnit) (s : Settings) (fault : WordFault) : Type 0 where
  pub stands : IsSettingsFault units s fault
  pub first : (other : WordFault) → IsSettingsFault units s other → ¬ (rank_of other < rank_of fault)

abbrev pub IsWholly : List WordUnit → Settings → Option WordFault → Type 0
IsWholly units s found = MatchOption found ((fault : WordFault) → ¬ IsSettingsFault units s fault) (IsFirstSettingsFault units s)

-- the log has no name
abbrev pub is_nameless : List ℕ → Bool
is_nameless log = length log == 0

-- the logs from `at` on have a name but for one, which this place is of
pub record IsNameless (at : ℕ) (logs : List (List ℕ)) (fault : WordFault) : Type 0 where
  pub named : List (List ℕ)
  pub more : List (List ℕ)
  pub logs_are : logs ≡ named ++ [] ∷ more
  pub are_named : AreNamed named
  pub fault_is : fault ≡ BadValue (at + length named)
