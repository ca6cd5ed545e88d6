-- Words that name a configuration file: which file that is, and what they mean after the words that the file gives.
use Rattle.std.specs.Prelude.{◌≡◌, ℕ, ◌+◌, false, Option, List, ◌++◌, length, Result, Ok, Err}
use Rattle.std.specs.List.{AllByRecursion}
use Rattle.ga_words.specs.declared.settings.Settings.{Settings}
use Rattle.ga_words.specs.declared.fault.WordFault.{WordFault}
use Rattle.ga_words.specs.declared.fault.WordFault.TheVariants.{UnknownOption, MissingValue, BadValue, NoFormat, NoInput, Conflict, NoMemory}
use Rattle.ga_words.specs.Defaults.{defaults}
use Rattle.ga_words.specs.Units.{WordUnit, spelled, RowMakes, names_generate}
use Rattle.ga_words.specs.Units.WordUnit.{Log}
use Rattle.ga_words.specs.WordsOf.{AreUnits, HasFault, WordsOf}

-- ---- the file

-- no word is at fault by itself, and this is the last configuration file that they name, if they name any
pub record NamesConf (words : List (List ℕ)) (name : Option (List ℕ)) : Type 0 where
  pub units : List WordUnit
  pub settings : Settings
  pub are_units : AreUnits words units settings
  pub is : name ≡ settings.config_file

-- the file that words name, or the first fault that has a place among them
abbrev pub ScanOf : List (List ℕ) → Result (Option (List ℕ)) WordFault → Type 0
ScanOf words (Ok name) = NamesConf words name
ScanOf words (Err fault) = HasFault words fault

-- ---- the words of the file

-- a flag, or an option with its value, but not that of generated lines
abbrev pub IsConfUnit : WordUnit → Type 0
IsConfUnit (Log name) = ⊥
IsConfUnit unit = names_generate unit ≡ false

-- the words are such units
pub record AreConfWords (conf : List (List ℕ)) : Type 0 where
  pub units : List WordUnit
  pub spells : conf ≡ spelled units
  pub settings : Settings
  pub row : RowMakes units defaults settings
  pub are : AllByRecursion IsConfUnit units

-- a fault among words as one of all words, those of a file before them
abbrev pub among_all : List (List ℕ) → WordFault → WordFault
among_all conf (UnknownOption at) = UnknownOption at
among_all conf (MissingValue at) = MissingValue at
among_all conf (BadValue at) = BadValue at
among_all conf NoFormat = NoFormat
among_all conf NoInput = NoInput
among_all conf (Conflict at) = Conflict (length conf + at)
among_all conf NoMemory = NoMemory

-- What words mean after those of a file: what all of them mean, one after the other. A conflict has its place among the words
-- alone, and no other fault comes that has one.
abbrev pub JoinedOf : List (List ℕ) → List (List ℕ) → Result Settings WordFault → Type 0
JoinedOf conf words (Ok s) = WordsOf (conf ++ words) (Ok s)
JoinedOf conf words (Err fault) = WordsOf (conf ++ words) (Err (among_all conf fault))

-- a fault of the settings as a whole, or lack of memory
abbrev pub HasNoPlace : WordFault → Type 0
HasNoPlace (UnknownOption at) = ⊥
HasNoPlace (MissingValue at) = ⊥
HasNoPlace (BadValue at) = ⊥
HasNoPlace NoFormat = Unit {0}
HasNoPlace NoInput = Unit {0}
HasNoPlace (Conflict at) = Unit {0}
HasNoPlace NoMemory = Unit {0}
