-- The exit status of a run, and the line that it writes to standard error.
use Rattle.std.specs.Prelude.{◌≡◌, ℕ, List, [], ◌∷◌, ◌++◌, Option, Some, None, Ok, slice_get, codes, decimal}
use Rattle.ga_base.specs.declared.counts.Counter.{Counter}
use Rattle.ga_base.specs.declared.counts.Counter.TheVariants.{Lines, Bytes, Micros, Generations}
use Rattle.ga_base.specs.FormatFaults.{fault_leaf, fault_place, fault_text}
use Rattle.ga_ports.specs.declared.outs.To.{To}
use Rattle.ga_targets.specs.Printing.{joined}
use Rattle.ga_words.specs.Joined.{JoinedOf}
use Rattle.ga_words.specs.declared.fault.WordFault.{WordFault}
use Rattle.ga_words.specs.declared.fault.WordFault.TheVariants.{UnknownOption, MissingValue, BadValue, NoFormat, NoInput, Conflict, NoMemory as WordNoMemory}
use Rattle.ga_words.specs.declared.settings.Settings.{Settings}
use Rattle.ga_one_run.specs.Printing.{report_file, target_of}
use Rattle.ga_one_run.specs.declared.status.Input.{Input}
use Rattle.ga_one_run.specs.declared.status.Input.TheVariants.{Conf as ConfInput, Rules as RulesInput, Log as LogInput}
use Rattle.ga_one_run.specs.declared.status.Status.{Status}
use Rattle.ga_one_run.specs.declared.status.Status.TheVariants.{Done, BadWords, BadConf, BadFormat, BadRules, FileFault, FileShort, DiskFault, DbDamaged, KeepDiffers, OutFault, CounterFull, NoMemory}
use Rattle.ga_one_run.specs.declared.status.Which.{Which}
use Rattle.ga_one_run.specs.declared.status.Which.TheVariants.{Log, Date, Time}

-- 0 where all is done, 1 for the words, those of the configuration file, their formats and the rules, 2 for the files, 3 for the
-- disk, 4 for the report's target, 5 for a full counter, 6 for a damaged database, 7 for lack of memory, 8 for a database that
-- keeps another number of days
abbrev pub code_of : Status → ℕ
code_of Done = 0
code_of (BadWords fault) = 1
code_of (BadConf line) = 1
code_of (BadFormat which fault) = 1
code_of (BadRules line) = 1
code_of (FileFault file) = 2
code_of (FileShort file at) = 2
code_of DiskFault = 3
code_of (OutFault to at) = 4
code_of (CounterFull which total) = 5
code_of (DbDamaged side at) = 6
code_of (KeepDiffers stored given) = 8
code_of NoMemory = 7

abbrev pub counter_name : Counter → List ℕ
counter_name Lines = codes "lines "
counter_name Bytes = codes "bytes "
counter_name Micros = codes "micros "
counter_name Generations = codes "generations "

abbrev pub format_name : Which → List ℕ
format_name Log = codes "log format"
format_name Date = codes "date format"
format_name Time = codes "time format"

-- the leaf of a JSON format in which its fault is, from 0
abbrev pub leaf_pieces : Option ℕ → List (List ℕ)
leaf_pieces None = []
leaf_pieces (Some leaf) = codes ", leaf " ∷ decimal leaf ∷ []

-- where a format's fault is, as a byte of its text, or of the leaf's, from 0
abbrev pub place_pieces : Option ℕ → List (List ℕ)
place_pieces None = []
place_pieces (Some at) = codes ", byte " ∷ decimal at ∷ []

-- the pieces of the line that a fault of the words is told by
abbrev pub word_pieces : WordFault → List (List ℕ)
word_pieces (UnknownOption at) = codes "goaccess: word " ∷ decimal at ∷ codes ": unknown option\n" ∷ []
word_pieces (MissingValue at) = codes "goaccess: word " ∷ decimal at ∷ codes ": value missing\n" ∷ []
word_pieces (BadValue at) = codes "goaccess: word " ∷ decimal at ∷ codes ": bad value\n" ∷ []
word_pieces NoFormat = codes "goaccess: no log format\n" ∷ []
word_pieces NoInput = codes "goaccess: no input\n" ∷ []
word_pieces (Conflict at) = codes "goaccess: word " ∷ decimal at ∷ codes ": conflict\n" ∷ []
word_pieces WordNoMemory = codes "goaccess: no memory\n" ∷ []

-- the pieces of the line that a run with this status writes to standard error: none where it is done.
-- `name` is that of the input or of the target that failed
abbrev pub fault_pieces : List ℕ → Status → List (List ℕ)
fault_pieces name Done = []
fault_pieces name (BadWords fault) = word_pieces fault
fault_pieces name (BadConf line) = codes "goaccess: config file, line " ∷ decimal line ∷ codes ": not a setting\n" ∷ []
fault_pieces name (BadFormat which fault) =
    codes "goaccess: " ∷ format_name which
    ∷ (leaf_pieces (fault_leaf fault) ++ (place_pieces (fault_place fault) ++ codes ": " ∷ fault_text fault ∷ codes "\n" ∷ []))
fault_pieces name (BadRules line) = codes "goaccess: browsers file, line " ∷ decimal line ∷ codes ": not a rule\n" ∷ []
fault_pieces name (FileFault file) = codes "goaccess: " ∷ name ∷ codes ": read failed\n" ∷ []
fault_pieces name (FileShort file at) = codes "goaccess: " ∷ name ∷ codes ": short at " ∷ decimal at ∷ codes "\n" ∷ []
fault_pieces name DiskFault = codes "goaccess: database: device failed\n" ∷ []
fault_pieces name (DbDamaged side at) =
    codes "goaccess: database: side " ∷ decimal side ∷ codes " damaged at " ∷ decimal at ∷ codes "\n" ∷ []
fault_pieces name (KeepDiffers stored given) =
    codes "goaccess: keep-last: stored " ∷ decimal stored ∷ codes ", given " ∷ decimal given ∷ codes "\n" ∷ []
fault_pieces name (OutFault to at) =
    codes "goaccess: " ∷ name ∷ codes ": write failed after " ∷ decimal at ∷ codes " bytes\n" ∷ []
fault_pieces name (CounterFull which total) =
    codes "goaccess: counter full: " ∷ counter_name which ∷ decimal total ∷ codes "\n" ∷ []
fault_pieces name NoMemory = codes "goaccess: no memory\n" ∷ []

abbrev pub fault_line : List ℕ → Status → List ℕ
fault_line name status = joined (fault_pieces name status)

-- the name of an input, as the words have it; a configuration file is read before they mean anything
abbrev pub NamesInput : List (List ℕ) → List (List ℕ) → Input → List ℕ → Type 0
NamesInput conf words RulesInput name = (s : Settings) × JoinedOf conf words (Ok s) × (s.browsers_file ≡ Some name)
NamesInput conf words ConfInput name = ⊥
NamesInput conf words (LogInput place) name = (s : Settings) × JoinedOf conf words (Ok s) × (slice_get s.logs place ≡ Some name)

-- what a line calls the target that `-o` says: its file by its name, or standard output
abbrev pub target_name : Option (List ℕ) → List ℕ
target_name None = codes "standard output"
target_name (Some name) = name

abbrev pub NamesTarget : List (List ℕ) → List (List ℕ) → To → List ℕ → Type 0
NamesTarget conf words to name = (s : Settings) × JoinedOf conf words (Ok s) × (to ≡ target_of (report_file s.generate s.output.name))
    × (name ≡ target_name (report_file s.generate s.output.name))

-- the name of what failed, as the words give it; a status without one leaves it empty
abbrev pub NamesFailed : List (List ℕ) → List (List ℕ) → Status → List ℕ → Type 0
NamesFailed conf words (FileFault file) name = NamesInput conf words file name
NamesFailed conf words (FileShort file at) name = NamesInput conf words file name
NamesFailed conf words (OutFault to at) name = NamesTarget conf words to name
NamesFailed conf words _ name = name ≡ []

-- the line of a run with these words and this status
pub record IsFaultLine (conf words : List (List ℕ)) (status : Status) (line : List ℕ) : Type 0 where
  pub name : List ℕ
  pub names : NamesFailed conf words status name
  pub is : line ≡ fault_line name status
