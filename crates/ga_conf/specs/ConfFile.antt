-- What a configuration file says: each line is a name and its value, which make a word of the command line, or is passed over.
-- The form is that of GoAccess's configuration file; which lines are refused, and what the others give, is this program's own.
use Rattle.std.specs.Prelude.{◌≡◌, ◌≢◌, ℕ, ◌+◌, ◌≤◌, ◌⊎◌, Bool, true, false, ◌==◌, ◌||◌, if◌then◌else◌, Option, None, MatchOption, List, [], ◌∷◌, ◌++◌, length, codes, decimal, Result, Err}
use Rattle.std.specs.Char.{is_ascii_digit, is_ascii_lowercase}
use Rattle.std.specs.List.{AllByRecursion, list_all}
use Rattle.std.specs.Str.{IsUtf8, bytes_eq}
use Rattle.std.specs.Str.Lines.{lines}
use Rattle.ga_base.specs.Bytes.{byte_of}
use Rattle.ga_words.specs.Options.{Takes, IsFlag, IsTaken, takes_of}
use Rattle.ga_conf.specs.declared.conf_line.TheConstants.{MAX_CONF_LINE}
use Rattle.ga_conf.specs.declared.fault.ConfFault.{ConfFault}
use Rattle.ga_conf.specs.declared.fault.ConfFault.TheVariants.{BadConf, NoMemory}

-- ---- names and values

-- a blank: a space or a tab
abbrev pub is_blank : ℕ → Bool
is_blank b = (b == 32) || (b == 9)

abbrev pub AreBlanks : List ℕ → Type 0
AreBlanks text = AllByRecursion (λ b. is_blank b ≡ true) text

abbrev pub HasNoBlank : List ℕ → Type 0
HasNoBlank text = AllByRecursion (λ b. is_blank b ≡ false) text

-- the text begins with no blank, and ends with none
abbrev pub BeginsBare : List ℕ → Type 0
BeginsBare text = (b : ℕ) (rest : List ℕ) → text ≡ b ∷ rest → is_blank b ≡ false

abbrev pub EndsBare : List ℕ → Type 0
EndsBare text = (b : ℕ) (front : List ℕ) → text ≡ front ++ b ∷ [] → is_blank b ≡ false

-- the line is a name and its value, which may be empty; blanks are before, between and after them
pub record IsSetting (line name value : List ℕ) : Type 0 where
  pub before : List ℕ
  pub between : List ℕ
  pub after : List ℕ
  pub split : line ≡ before ++ (name ++ (between ++ (value ++ after)))
  pub blanks : AreBlanks before × AreBlanks between × AreBlanks after
  pub some : name ≢ []
  pub no_blank : HasNoBlank name
  pub bare : BeginsBare value × EndsBare value
  -- where no blank follows the name, nothing does
  pub apart : between ≡ [] → value ≡ []

-- the byte that begins a comment
abbrev pub number_sign : ℕ
number_sign = byte_of (codes "#")

-- a line of blanks alone, or a comment
abbrev pub IsPassedOver : List ℕ → Type 0
IsPassedOver line = AreBlanks line ⊎ ((blanks comment : List ℕ) × AreBlanks blanks × (line ≡ blanks ++ number_sign ∷ comment))

-- ---- what a setting gives

-- the word of an option, by its name in the file
abbrev pub option_of : List ℕ → List ℕ
option_of name = codes "--" ++ name

-- what the option of this name takes, where a file may set it: all options but that of generated lines, and that of the file
abbrev pub takes_in_file : List ℕ → Option Takes
takes_in_file name =
    if bytes_eq name (codes "generate") || bytes_eq name (codes "config-file") then None else takes_of (option_of name)

-- a flag gives its word where it is on, and nothing where it is off
abbrev pub FlagGives : List ℕ → List ℕ → List (List ℕ) → Type 0
FlagGives option value words = ((value ≡ codes "true") × (words ≡ option ∷ [])) ⊎ ((value ≡ codes "false") × (words ≡ []))

-- any other option gives one word with its value, which it has to take
abbrev pub ValueGives : Takes → List ℕ → List ℕ → List (List ℕ) → Type 0
ValueGives takes option value words = IsTaken takes value × (words ≡ (option ++ codes "=" ++ value) ∷ [])

abbrev pub OptionGives : Takes → List ℕ → List ℕ → List (List ℕ) → Type 0
OptionGives takes option value words = (IsFlag takes × FlagGives option value words) ⊎ ValueGives takes option value words

-- a byte of the names that GoAccess's settings have
abbrev pub is_name_byte : ℕ → Bool
is_name_byte b = is_ascii_lowercase b || is_ascii_digit b || (b == byte_of (codes "-"))

-- a setting that this program doesn't have; the two that would give lines are refused
pub record IsOtherName (name : List ℕ) : Type 0 where
  pub bytes : list_all is_name_byte name ≡ true
  pub not_generate : name ≢ codes "generate"
  pub not_log : name ≢ codes "log-file"

-- the words that a setting gives: those of its option, or none where it names none
abbrev pub SettingGives : List ℕ → List ℕ → List (List ℕ) → Type 0
SettingGives name value words =
    MatchOption (takes_in_file name) (IsOtherName name × (words ≡ [])) (λ takes. OptionGives takes (option_of name) value words)

-- ---- lines

-- the line is text, and not too long
pub record IsReadable (line : List ℕ) : Type 0 where
  pub short : length line ≤ MAX_CONF_LINE
  pub utf8 : IsUtf8 line

-- the words that a line gives: none where it is passed over, or else those of the setting that it is
abbrev pub LineGives : List ℕ → List (List ℕ) → Type 0
LineGives line words =
    IsReadable line
    × ((IsPassedOver line × (words ≡ []))
    ⊎ (¬ IsPassedOver line × ((name value : List ℕ) × IsSetting line name value × SettingGives name value words)))

-- the words that lines give, in their order
abbrev pub LinesGive : List (List ℕ) → List (List ℕ) → Type 0
LinesGive [] words = words ≡ []
LinesGive (line ∷ more) words = (first later : List (List ℕ)) × LineGives line first × LinesGive more later × (words ≡ first ++ later)

-- The words of a configuration file. Its lines are std's: the pieces before each line feed, each without one carriage return
-- before that line feed, and then what follows the last line feed where it is not empty, with its bytes unchanged.
abbrev pub ConfGives : List ℕ → List (List ℕ) → Type 0
ConfGives bytes words = LinesGive (lines bytes) words

-- the first line that gives no words has this number, from 1: all lines before it give some or none, and it gives nothing
pub record IsBadLine (bytes : List ℕ) (number : ℕ) : Type 0 where
  pub before : List (List ℕ)
  pub line : List ℕ
  pub after : List (List ℕ)
  pub split : lines bytes ≡ before ++ line ∷ after
  pub fine : (words : List (List ℕ)) × LinesGive before words
  pub bad : (words : List (List ℕ)) → ¬ LineGives line words
  pub place : number ≡ length before + 1

-- ---- answers

-- the file gives words, or has a first bad line
abbrev pub IsAnswered : List ℕ → Type 0
IsAnswered bytes = ((words : List (List ℕ)) × ConfGives bytes words) ⊎ ((number : ℕ) × IsBadLine bytes number)

-- an error names the first line that gives no words, or lack of memory
abbrev pub IsConfFault : List ℕ → ConfFault → Type 0
IsConfFault bytes (BadConf number) = IsBadLine bytes number
IsConfFault bytes NoMemory = Unit {0}

-- what an error shows
abbrev pub fault_text : ConfFault → List ℕ
fault_text (BadConf number) = codes "line " ++ decimal number ++ codes ": not a setting"
fault_text NoMemory = codes "no memory"

-- the result is this answer, unless memory ran out
abbrev pub UnlessNoMemory : {T : Type 0} → Result T ConfFault → Result T ConfFault → Type 0
UnlessNoMemory result answer = (result ≡ answer) ⊎ (result ≡ Err NoMemory)
