-- What a list of words means: the settings of a run, or the fault for which it means none.
use Rattle.std.specs.Prelude.{◌≡◌, ◌≢◌, ℕ, ◌+◌, ◌<◌, ◌⊎◌, true, false, Option, Some, None, List, [], ◌∷◌, ◌++◌, length, codes, decimal, Result, Ok, Err}
use Rattle.ga_words.specs.declared.settings.Settings.{Settings}
use Rattle.ga_words.specs.declared.fault.WordFault.{WordFault}
use Rattle.ga_words.specs.declared.fault.WordFault.TheVariants.{UnknownOption, MissingValue, BadValue, NoFormat, NoInput, Conflict, NoMemory}
use Rattle.ga_words.specs.Defaults.{defaults}
use Rattle.ga_words.specs.Options.{Takes, takes_of, IsLong, IsOutside, TakesValue}
use Rattle.ga_words.specs.Units.{WordUnit, spelled, RowMakes, BeginsWithDash, AddsLogs, tail_words, tail_logs, AreNamed, generate_places}

-- the words are this row of units, perhaps with `--` and logs after it, and all of them make these settings
pub record AreUnits (words : List (List ℕ)) (units : List WordUnit) (s : Settings) : Type 0 where
  pub tail : Option (List (List ℕ))
  pub spells : words ≡ spelled units ++ tail_words tail
  pub before : Settings
  pub row : RowMakes units defaults before
  pub named : AreNamed (tail_logs tail)
  pub makes : AddsLogs (tail_logs tail) before s

-- the word begins with a dash, isn't `--`, and names no option
pub record NamesNoOption (word : List ℕ) : Type 0 where
  pub dash : BeginsWithDash word
  pub no_tail : word ≢ codes "--"
  pub alone : takes_of word ≡ None
  pub joined : (name value : List ℕ) → word ≡ name ++ codes "=" ++ value → IsLong name → takes_of name ≡ None

-- the first of these words names no option
abbrev pub IsUnknown : List (List ℕ) → Type 0
IsUnknown words = (word : List ℕ) × (more : List (List ℕ)) × (words ≡ word ∷ more) × NamesNoOption word

-- the only word left is an option that takes a value
pub record LacksValue (words : List (List ℕ)) : Type 0 where
  pub name : List ℕ
  pub last : words ≡ name ∷ []
  pub takes : Takes
  pub option : takes_of name ≡ Some takes
  pub value : TakesValue takes

-- the first of these words is an option with `=` and a value that it doesn't take, as no flag takes any
pub record IsBadJoined (words : List (List ℕ)) : Type 0 where
  pub name : List ℕ
  pub value : List ℕ
  pub more : List (List ℕ)
  pub words_are : words ≡ (name ++ codes "=" ++ value) ∷ more
  pub takes : Takes
  pub option : takes_of name ≡ Some takes
  pub long : IsLong name
  pub outside : IsOutside takes value

-- the first of these words is an option, and the second a value that it doesn't take
pub record IsBadSeparate (words : List (List ℕ)) : Type 0 where
  pub name : List ℕ
  pub value : List ℕ
  pub more : List (List ℕ)
  pub words_are : words ≡ name ∷ value ∷ more
  pub takes : Takes
  pub option : takes_of name ≡ Some takes
  pub with_value : TakesValue takes
  pub outside : IsOutside takes value

-- the first of these words is a log without a name
abbrev pub IsBadLog : List (List ℕ) → Type 0
IsBadLog words = (more : List (List ℕ)) × (words ≡ [] ∷ more)

-- the first of these words is `--`, and this many logs after it stands the first one without a name
pub record IsBadTail (words : List (List ℕ)) (logs : ℕ) : Type 0 where
  pub named : List (List ℕ)
  pub more : List (List ℕ)
  pub words_are : words ≡ codes "--" ∷ (named ++ [] ∷ more)
  pub are_named : AreNamed named
  pub count : logs ≡ length named

-- The words that begin at `at` begin with this fault. A bad value has the place of the word that holds it.
abbrev pub BeginsWithFault : ℕ → List (List ℕ) → WordFault → Type 0
BeginsWithFault at words (UnknownOption place) = (place ≡ at) × IsUnknown words
BeginsWithFault at words (MissingValue place) = (place ≡ at) × LacksValue words
BeginsWithFault at words (BadValue place) =
    ((place ≡ at) × IsBadJoined words) ⊎ ((place ≡ at + 1) × IsBadSeparate words)
    ⊎ ((place ≡ at) × IsBadLog words) ⊎ ((logs : ℕ) × (place ≡ at + 1 + logs) × IsBadTail words logs)
BeginsWithFault at words NoFormat = ⊥
BeginsWithFault at words NoInput = ⊥
BeginsWithFault at words (Conflict place) = ⊥
BeginsWithFault at words NoMemory = ⊥

-- The first fault of the words: units stand before it, and it has a place.
pub record HasFault (words : List (List ℕ)) (fault : WordFault) : Type 0 where
  pub units : List WordUnit
  pub rest : List (List ℕ)
  pub spells : words ≡ spelled units ++ rest
  pub before : Settings
  pub row : RowMakes units defaults before
  pub stands : BeginsWithFault (length (spelled units)) rest fault

-- `--generate` stands with a log, `--persist` or `--restore`, which it makes useless
abbrev pub HasOther : Settings → Type 0
HasOther s = (s.logs ≢ []) ⊎ (s.persist ≡ true) ⊎ (s.restore ≡ true)

-- this is the last of the places
abbrev pub IsLastOf : List ℕ → ℕ → Type 0
IsLastOf places at = (earlier : List ℕ) × (places ≡ earlier ++ at ∷ [])

-- what is wrong with the settings of these units as a whole
abbrev pub IsSettingsFault : List WordUnit → Settings → WordFault → Type 0
IsSettingsFault units s (UnknownOption at) = ⊥
IsSettingsFault units s (MissingValue at) = ⊥
IsSettingsFault units s (BadValue at) = ⊥
IsSettingsFault units s NoFormat = (s.logs ≢ []) × (s.log_format ≡ None)
IsSettingsFault units s NoInput = (s.logs ≡ []) × (s.restore ≡ false) × (s.generate ≡ None)
IsSettingsFault units s (Conflict at) = IsLastOf (generate_places 0 units) at × HasOther s
IsSettingsFault units s NoMemory = ⊥

-- the order of what may be wrong with the settings as a whole
abbrev pub rank_of : WordFault → ℕ
rank_of NoFormat = 0
rank_of NoInput = 1
rank_of (Conflict at) = 2
rank_of _ = 3

-- the words make these settings, and nothing is wrong with them
pub record AreAccepted (words : List (List ℕ)) (s : Settings) : Type 0 where
  pub units : List WordUnit
  pub are_units : AreUnits words units s
  pub faultless : (fault : WordFault) → ¬ IsSettingsFault units s fault

-- the words make settings with which this is wrong, and nothing before it
pub record AreRefused (words : List (List ℕ)) (fault : WordFault) : Type 0 where
  pub units : List WordUnit
  pub settings : Settings
  pub are_units : AreUnits words units settings
  pub stands : IsSettingsFault units settings fault
  pub first : (other : WordFault) → IsSettingsFault units settings other → ¬ (rank_of other < rank_of fault)

-- The settings that words mean, or the fault for which they mean none: the first that has a place among them, and where
-- there is none, the first of what is wrong with their settings as a whole.
abbrev pub WordsOf : List (List ℕ) → Result Settings WordFault → Type 0
WordsOf words (Ok s) = AreAccepted words s
WordsOf words (Err fault) = HasFault words fault ⊎ AreRefused words fault

-- both answers are the same fault, or settings that are the same as they are compared
abbrev pub IsSame : Result Settings WordFault → Result Settings WordFault → Type 0
IsSame (Ok s) (Ok other) = s ≡ other
IsSame (Ok s) (Err other) = ⊥
IsSame (Err fault) (Ok other) = ⊥
IsSame (Err fault) (Err other) = fault ≡ other

-- what a fault shows
abbrev pub word_text : ℕ → List ℕ → List ℕ
word_text at text = codes "word " ++ decimal at ++ text

abbrev pub fault_text : WordFault → List ℕ
fault_text (UnknownOption at) = word_text at (codes ": unknown option")
fault_text (MissingValue at) = word_text at (codes ": value missing")
fault_text (BadValue at) = word_text at (codes ": bad value")
fault_text NoFormat = codes "no log format"
fault_text NoInput = codes "no input"
fault_text (Conflict at) = word_text at (codes ": conflict")
fault_text NoMemory = codes "no memory"
