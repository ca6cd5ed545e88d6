-- Why the rules of a browsers file weren't read.
use Rattle.std.specs.Prelude.{◌≡◌, ◌⊎◌, ℕ, List, [], Option, Some, None}
use Rattle.ga_agents.specs.RulesFile.{IsBadLine}
use Rattle.ga_logs.specs.Following.{MissesLog, ReadsPortion}
use Rattle.ga_resume.specs.declared.follow.Follow.TheVariants.{Whole}
use Rattle.ga_logs.specs.declared.portion.Portion.{Portion}
use Rattle.ga_ports.specs.Files.{FilesView}
use Rattle.ga_resume.specs.declared.fault.PlaceFault.TheVariants.{NoMemory}
use Rattle.ga_one_run.specs.declared.rules.RulesFault.{RulesFault}
use Rattle.ga_one_run.specs.declared.rules.RulesFault.TheVariants.{Unread, Bad}

-- why those of a named file weren't
abbrev pub StopsRules : List ℕ → FilesView → FilesView → RulesFault → Type 0
StopsRules name old new (Unread fault) = MissesLog Whole [] name old new fault
    ⊎ ((fault ≡ NoMemory) × ((text : Portion) × ReadsPortion Whole [] name old new text))
StopsRules name old new (Bad line) = (text : Portion) × ReadsPortion Whole [] name old new text × IsBadLine text.bytes line

-- and those of a file that is named, if one is
abbrev pub StopsNamed : Option (List ℕ) → FilesView → FilesView → RulesFault → Type 0
StopsNamed None old new fault = ⊥
StopsNamed (Some name) old new fault = StopsRules name old new fault
