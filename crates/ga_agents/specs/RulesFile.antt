-- What a browsers file says: each line is a token, one or more tabs and a category, or is passed over. The form is that of
-- GoAccess's browsers files; what a line may hold, how long it may be and which fault is the first are this program's own.
use Rattle.std.specs.Prelude.{◌≡◌, ◌≢◌, ℕ, ◌+◌, ◌≤◌, ◌⊎◌, List, [], ◌∷◌, ◌++◌, length, codes, decimal, Result, Err}
use Rattle.std.specs.List.{AllByRecursion}
use Rattle.std.specs.Str.{IsUtf8}
use Rattle.std.specs.Str.Lines.{lines}
use Rattle.ga_base.specs.Bytes.{byte_of}
use Rattle.ga_agents.specs.declared.fault.RuleFault.{RuleFault}
use Rattle.ga_agents.specs.declared.fault.RuleFault.TheVariants.{RuleFault as BadLine, NoMemory}
use Rattle.ga_agents.specs.declared.row.Rule.{Rule}
use Rattle.ga_agents.specs.declared.row.TheConstants.{MAX_RULE_LINE}

abbrev pub tab : ℕ
tab = 9

-- the byte that begins a comment
abbrev pub number_sign : ℕ
number_sign = byte_of (codes "#")

-- a token or a category: text with no tab, and not empty
pub record IsPart (text : List ℕ) : Type 0 where
  pub some : text ≢ []
  pub no_tab : AllByRecursion (λ b. b ≢ tab) text
  pub utf8 : IsUtf8 text

-- the line is the rule: its token, one or more tabs, its category
pub record SpellsRule (line : List ℕ) (rule : Rule) : Type 0 where
  pub tabs : List ℕ
  pub split : line ≡ rule.token ++ tab ∷ (tabs ++ rule.category)
  pub all_tabs : AllByRecursion (λ b. b ≡ tab) tabs
  pub token : IsPart rule.token
  pub category : IsPart rule.category

-- a line that gives no rule: an empty one, or a comment, which need not be text
abbrev pub IsPassedOver : List ℕ → Type 0
IsPassedOver line = (line ≡ []) ⊎ ((comment : List ℕ) × (line ≡ number_sign ∷ comment))

-- the rules that a line gives: none where it is passed over, or else the one that it spells
abbrev pub LineGives : List ℕ → List Rule → Type 0
LineGives line given =
    (length line ≤ MAX_RULE_LINE)
    × ((IsPassedOver line × (given ≡ []))
    ⊎ (¬ IsPassedOver line × ((rule : Rule) × SpellsRule line rule × (given ≡ rule ∷ []))))

-- the rules that lines give, in their order
abbrev pub LinesGive : List (List ℕ) → List Rule → Type 0
LinesGive [] given = given ≡ []
LinesGive (line ∷ more) given = (first later : List Rule) × LineGives line first × LinesGive more later × (given ≡ first ++ later)

-- The rules of a browsers file. Its lines are std's: the pieces before each line feed, each without one carriage return
-- before that line feed, and then what follows the last line feed where it is not empty, with its bytes unchanged.
abbrev pub FileGives : List ℕ → List Rule → Type 0
FileGives text given = LinesGive (lines text) given

-- the first line that gives no rules has this number, from 1: all lines before it give some or none, and it gives nothing
pub record IsBadLine (text : List ℕ) (number : ℕ) : Type 0 where
  pub before : List (List ℕ)
  pub line : List ℕ
  pub after : List (List ℕ)
  pub split : lines text ≡ before ++ line ∷ after
  pub fine : (given : List Rule) × LinesGive before given
  pub bad : (given : List Rule) → ¬ LineGives line given
  pub place : number ≡ length before + 1

-- the file gives rules, or has a first bad line
abbrev pub IsAnswered : List ℕ → Type 0
IsAnswered text = ((given : List Rule) × FileGives text given) ⊎ ((number : ℕ) × IsBadLine text number)

-- an error names the first line that gives no rules, or lack of memory
abbrev pub IsFileFault : List ℕ → RuleFault → Type 0
IsFileFault text (BadLine number) = IsBadLine text number
IsFileFault text NoMemory = Unit {0}

-- what an error shows
abbrev pub fault_text : RuleFault → List ℕ
fault_text (BadLine number) = codes "line " ++ decimal number ++ codes ": not a rule"
fault_text NoMemory = codes "no memory"

-- the result is this answer, unless memory ran out
abbrev pub UnlessNoMemory : {T : Type 0} → Result T RuleFault → Result T RuleFault → Type 0
UnlessNoMemory result answer = (result ≡ answer) ⊎ (result ≡ Err NoMemory)
