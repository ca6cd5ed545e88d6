-- What the steps promise to one another: the words of functions that only this crate calls.
use Rattle.std.specs.Prelude.{◌≡◌, ◌≢◌, ◌↔◌, ℕ, ◌+◌, ◌-◌, ◌*◌, ◌%◌, ◌<◌, ◌≤◌, List, [], ◌∷◌, ◌++◌, length, take, drop, Bool, false, not, ◌==◌, IsTrue, slice_index}
use Rattle.std.specs.List.{AllByRecursion, slice_index_or}
use Rattle.std.specs.Str.{IsCharBoundary}
use Rattle.ga_agents.specs.declared.classes.Found.{Found}
use Rattle.ga_agents.specs.declared.fault.RuleFault.{RuleFault}
use Rattle.ga_agents.specs.declared.fault.RuleFault.TheVariants.{RuleFault as BadLine, NoMemory}
use Rattle.ga_agents.specs.declared.pair_set.PairSet.{PairSet}
use Rattle.ga_agents.specs.declared.row.RulesLine.{RulesLine}
use Rattle.ga_agents.specs.declared.row.RulesLine.TheVariants.{PassedOver, Entry}
use Rattle.ga_agents.specs.declared.row.Rule.{Rule}
use Rattle.ga_agents.specs.declared.tables.BrowserEntry.{BrowserEntry}
use Rattle.ga_agents.specs.declared.tables.SystemEntry.{SystemEntry}
use Rattle.ga_agents.specs.Occurs.{StandsFirst, IsFirstEntry}
use Rattle.ga_agents.specs.RulesFile.{tab, LineGives}
use Rattle.ga_agents.specs.Tables.{rule, System, system}

-- the entries of the code's tables as those of the definitions
abbrev pub rule_of : BrowserEntry → Rule
rule_of entry = rule entry.0.now entry.1.now

abbrev pub system_of : SystemEntry → System
system_of entry = system entry.0.now entry.1.now entry.2.now

-- the slot of a pair of bytes
abbrev pub slot_of : ℕ → ℕ → ℕ
slot_of first second = (first * 31 + second) % 256

-- the slot of the pair of neighbours in a text that ends at this place
abbrev pub slot_at : List ℕ → ℕ → ℕ
slot_at text i = slot_of (slice_index text (i - 1)) (slice_index text i)

-- whether a slot is in a set
abbrev pub has_slot : PairSet → ℕ → Bool
has_slot set slot = slice_index_or set.flags slot false

-- the slots in the set are those of the text's pairs
abbrev pub IsSetOf : PairSet → List ℕ → Type 0
IsSetOf set text = (slot : ℕ) → IsTrue (has_slot set slot) ↔ ((i : ℕ) × (1 ≤ i) × (i < length text) × (slot_at text i ≡ slot))

-- the slot of each pair of the token is in the set
abbrev pub HasAllPairs : PairSet → List ℕ → Type 0
HasAllPairs set token = (i : ℕ) → 1 ≤ i → i < length token → IsTrue (has_slot set (slot_at token i))

-- the first place of the token in the agent, and the agent may be cut there and after the token
pub record IsPlace (token agent : List ℕ) (at : ℕ) : Type 0 where
  pub within : at + length token ≤ length agent
  pub stands : StandsFirst token agent (take at agent) (drop (at + length token) agent)
  pub cut_before : IsCharBoundary agent at
  pub cut_after : IsCharBoundary agent (at + length token)

-- the first rule for the agent, and its token's first place
pub record IsFound (rules : List Rule) (agent : List ℕ) (found : Found) : Type 0 where
  pub first : IsFirstEntry (λ (r : Rule). r.token) rules agent (rule found.token.now found.category.now)
  pub place : IsPlace found.token.now agent found.at

-- the byte is no tab
abbrev pub is_other : ℕ → Bool
is_other b = not (b == tab)

-- the text begins with a byte that is no tab
abbrev pub Begins : List ℕ → Type 0
Begins text = (b : ℕ) × (rest : List ℕ) × (text ≡ b ∷ rest) × (b ≢ tab)

-- a line is cut into what stands before its first tab and what follows the tabs there, which is not empty
pub record IsCut (line token category : List ℕ) : Type 0 where
  pub tabs : List ℕ
  pub split : line ≡ token ++ tab ∷ (tabs ++ category)
  pub free : AllByRecursion (λ b. b ≢ tab) token
  pub all_tabs : AllByRecursion (λ b. b ≡ tab) tabs
  pub begins : Begins category

-- the rules that a row of the file adds
abbrev pub rules_of_row : RulesLine → List Rule
rules_of_row PassedOver = []
rules_of_row (Entry token category) = rule token.now category.now ∷ []

-- why a line with this number adds nothing: it gives no rules, or memory ran out
abbrev pub IsLineFault : List ℕ → ℕ → RuleFault → Type 0
IsLineFault line number (BadLine place) = (place ≡ number) × ((added : List Rule) → ¬ LineGives line added)
IsLineFault line number NoMemory = Unit {0}
