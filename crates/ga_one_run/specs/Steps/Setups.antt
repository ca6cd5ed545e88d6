-- What the calls that compile the formats of a run answer.
use Rattle.std.specs.Prelude.{◌≡◌, ◌≢◌, Result, Ok, Err}
use Rattle.ga_base.specs.declared.formats.FormatFault.{FormatFault}
use Rattle.ga_line.specs.declared.setup.LineSetup.{LineSetup}
use Rattle.ga_words.specs.declared.settings.Settings.{Settings}
use Rattle.ga_one_run.specs.declared.setups.SetupFault.{SetupFault}
use Rattle.ga_one_run.specs.declared.setups.SetupFault.TheVariants.{Refused, NoMemory}
use Rattle.ga_one_run.specs.declared.status.Which.{Which}
use Rattle.ga_one_run.specs.Setups.{IsLineSetup, IsRefused}

-- why there is no setup
abbrev pub IsSetupFault : Settings → SetupFault → Type 0
IsSetupFault s (Refused which fault) = IsRefused s which fault
IsSetupFault s NoMemory = Unit {0}

-- that format is refused for such a fault, or memory ran out
abbrev pub IsRefusal : Which → (FormatFault → Type 0) → SetupFault → Type 0
IsRefusal which fails (Refused other fault) = (other ≡ which) × fails fault
IsRefusal which fails NoMemory = Unit {0}

-- what the formats of the settings mean, where memory is at hand: how lines are read, or one refusal
abbrev pub GivesLineSetup : Settings → Result LineSetup SetupFault → Type 0
GivesLineSetup s (Ok line) = IsLineSetup s line
GivesLineSetup s (Err fault) = IsSetupFault s fault × (fault ≢ NoMemory)
