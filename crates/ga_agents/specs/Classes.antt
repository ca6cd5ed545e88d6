-- What an agent is: its browser and the browser's category by the rules, its system and group by the systems, and whether it
-- is a crawler. By first occurrence; the ends of a browser's text are our own rule.
use Rattle.std.specs.Prelude.{◌≡◌, ◌≢◌, ℕ, ◌↔◌, ◌⊎◌, Bool, ◌||◌, ◌==◌, List, [], ◌++◌, codes, IsTrue}
use Rattle.std.specs.List.{AllByRecursion, before_first}
use Rattle.ga_base.specs.Bytes.{byte_of}
use Rattle.ga_agents.specs.declared.agent.Agent.{Agent}
use Rattle.ga_agents.specs.declared.agent.Class.{Class}
use Rattle.ga_agents.specs.declared.row.Rule.{Rule}
use Rattle.ga_agents.specs.Occurs.{StandsFirst, NoneOccurs, IsFirstEntry}
use Rattle.ga_agents.specs.Tables.{System, builtin_rules, systems}

-- what represents a browser, a category, a system or a group that no entry gives
abbrev pub unknown : List ℕ
unknown = codes "Unknown"

-- the category of crawlers
abbrev pub crawlers : List ℕ
crawlers = codes "Crawlers"

-- the bytes at which a browser's text ends
abbrev pub is_delimiter : ℕ → Bool
is_delimiter b =
    b == byte_of (codes " ") || b == byte_of (codes ";") || b == byte_of (codes ",") || b == byte_of (codes "(") || b == byte_of (codes ")")

-- the text from the token's first place up to the first delimiter at or after the token's end, or to the end
pub record IsBrowserText (token agent browser : List ℕ) : Type 0 where
  pub front : List ℕ
  pub rest : List ℕ
  pub stands : StandsFirst token agent front rest
  pub text : browser ≡ token ++ before_first is_delimiter rest

-- the browser and the category that the rules give an agent
abbrev pub HasBrowser : List Rule → List ℕ → List ℕ → List ℕ → Type 0
HasBrowser rules agent browser category =
    ((rule : Rule) × IsFirstEntry (λ (r : Rule). r.token) rules agent rule × IsBrowserText rule.token agent browser × (category ≡ rule.category))
    ⊎ (NoneOccurs (λ (r : Rule). r.token) rules agent × (browser ≡ unknown) × (category ≡ unknown))

-- the system of an agent and its group
abbrev pub HasSystem : List ℕ → List ℕ → List ℕ → Type 0
HasSystem agent name group =
    ((s : System) × IsFirstEntry (λ (e : System). e.token) systems agent s × (name ≡ s.system) × (group ≡ s.group))
    ⊎ (NoneOccurs (λ (e : System). e.token) systems agent × (name ≡ unknown) × (group ≡ unknown))

-- what an agent is, by the rules of a browsers file and then the built-in ones
pub record IsAgent (file : List Rule) (agent : List ℕ) (answer : Agent) : Type 0 where
  pub browser : HasBrowser (file ++ builtin_rules) agent answer.browser answer.category
  pub system : HasSystem agent answer.system answer.system_group
  pub crawler : IsTrue answer.crawler ↔ (answer.category ≡ crawlers)

-- each rule of a browsers file has a token and a category
abbrev pub AreNamed : List Rule → Type 0
AreNamed rules = AllByRecursion (λ (rule : Rule). (rule.token ≢ []) × (rule.category ≢ [])) rules

-- so nothing that an answer tells is empty
pub record HasNames (answer : Agent) : Type 0 where
  pub browser : answer.browser ≢ []
  pub category : answer.category ≢ []
  pub system : answer.system ≢ []
  pub system_group : answer.system_group ≢ []

-- what the borrowed form of an answer tells: each of its texts, and whether it is a crawler
abbrev pub agent_of : Class → Agent
agent_of class = record {
  browser = class.browser.now;
  category = class.category.now;
  system = class.system.now;
  system_group = class.system_group.now;
  crawler = class.crawler;
}

-- the agent has a browser of the crawlers
abbrev pub IsCrawler : List Rule → List ℕ → Type 0
IsCrawler file agent = (browser : List ℕ) × HasBrowser (file ++ builtin_rules) agent browser crawlers

-- by the rules of a file an agent is something
abbrev pub IsSomething : List Rule → List ℕ → Type 0
IsSomething file agent = (answer : Agent) × IsAgent file agent answer

-- and it is no two things
abbrev pub IsOneThing : List Rule → List ℕ → Type 0
IsOneThing file agent = (one two : Agent) → IsAgent file agent one → IsAgent file agent two → one ≡ two

-- what tells whether an agent is a crawler
abbrev pub TellsCrawlers : List Rule → List ℕ → Type 0
TellsCrawlers file agent = (answer : Agent) → IsAgent file agent answer → IsTrue answer.crawler ↔ IsCrawler file agent
