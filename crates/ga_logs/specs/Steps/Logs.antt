-- How the reading and counting of logs ended.
use Rattle.std.specs.Prelude.{◌≡◌, ℕ, ◌⊎◌, List, Option}
use Rattle.ga_base.specs.declared.entry.Entry.{Entry}
use Rattle.ga_line.specs.Lines.{lines}
use Rattle.ga_outcomes.specs.declared.setup.Setup.{Setup}
use Rattle.ga_ports.specs.Files.{FilesView}
use Rattle.ga_resume.specs.declared.fault.PlaceFault.{PlaceFault}
use Rattle.ga_resume.specs.declared.fault.PlaceFault.TheVariants.{FileFault, FileShort, NoMemory}
use Rattle.ga_logs.specs.Counting.{CountingSeen, HasCounted}
use Rattle.ga_logs.specs.declared.full.CountingFault.{CountingFault}
use Rattle.ga_logs.specs.declared.full.CountingFault.TheVariants.{Full as CounterFull, NoMemory as CountingNoMemory}
use Rattle.ga_logs.specs.declared.full.Full.{Full as TheFull}
use Rattle.ga_logs.specs.Following.{MissesLog, ReadsAll, ReadsPortion}
use Rattle.ga_logs.specs.Portions.{Follows, counted_lines}
use Rattle.ga_resume.specs.Following.{keeps}
use Rattle.ga_logs.specs.Steps.Streaming.{Adds}
use Rattle.ga_logs.specs.declared.fault.CountFault.{CountFault}
use Rattle.ga_logs.specs.declared.fault.CountFault.TheVariants.{Failed as LogFailed, Short as LogShort, Full, NoMemory as CountNoMemory}
use Rattle.ga_resume.specs.declared.follow.Follow.{Follow}
use Rattle.ga_logs.specs.declared.portion.Portion.{Portion}
use Rattle.ga_resume.specs.declared.start.Start.{Start}

-- the lines that are counted of a portion
abbrev pub portion_lines : Follow → Portion → List (List ℕ)
portion_lines follow portion = lines portion.bytes (keeps follow)

-- one log more was read and counted
pub record CountsOneLog (setup : Setup) (follow : Follow) (name : List ℕ) (entries entries' : List Entry) (files files' : FilesView)
    (counting counting' : CountingSeen) : Type 0 where
  pub portion : Portion
  pub read : ReadsPortion follow entries name files files' portion
  pub follows : Follows follow portion entries entries'
  pub adds : Adds setup (portion_lines follow portion) counting counting'

-- why one log more wasn't counted; memory may be wanting once it was read
abbrev pub StopsOneLog : Follow → List Entry → List ℕ → FilesView → FilesView → PlaceFault → Type 0
StopsOneLog follow entries name files files' fault =
    MissesLog follow entries name files files' fault
    ⊎ ((fault ≡ NoMemory) × ((portion : Portion) × ReadsPortion follow entries name files files' portion))

-- these logs were read and the entries went with them, and the generator's lines and theirs are counted
pub record HasCountedLogs (setup : Setup) (start : Start) (generated : Option ℕ) (names : List (List ℕ)) (entries entries' : List Entry)
    (files files' : FilesView) (counting : CountingSeen) : Type 0 where
  pub portions : List Portion
  pub read : ReadsAll start.follow names entries entries' files files' portions
  pub begun : counting.start.totals ≡ start.totals
  pub counted : HasCounted setup (counted_lines generated start.follow portions) counting

-- the fault of the log at a place, and of counting
abbrev pub fault_of_log : ℕ → PlaceFault → CountFault
fault_of_log place FileFault = LogFailed place
fault_of_log place (FileShort at) = LogShort place at
fault_of_log place NoMemory = CountNoMemory

abbrev pub fault_of_full : TheFull → CountFault
fault_of_full full = Full full.which full.total

abbrev pub fault_of_counting : CountingFault → CountFault
fault_of_counting (CounterFull full) = fault_of_full full
fault_of_counting CountingNoMemory = CountNoMemory
