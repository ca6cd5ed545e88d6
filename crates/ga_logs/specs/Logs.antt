-- What it is to count logs, and why they aren't counted.
use Rattle.std.specs.Prelude.{ℕ, ◌⊎◌, ⊤, Option, List}
use Rattle.ga_base.specs.declared.counts.Counter.{Counter}
use Rattle.ga_base.specs.declared.entry.Entry.{Entry}
use Rattle.ga_ports.specs.Files.{FilesView}
use Rattle.ga_resume.specs.declared.fault.PlaceFault.TheVariants.{FileFault, FileShort, NoMemory}
use Rattle.ga_outcomes.specs.LineOutcomes.{FillsAmong}
use Rattle.ga_logs.specs.Counting.{AreInTotal}
use Rattle.ga_tallies.specs.Tallies.{TallySeen}
use Rattle.ga_logs.specs.Following.{MissesAt, ReadsAll, ReadsSome}
use Rattle.ga_logs.specs.Missing.{MissesLogs}
use Rattle.ga_logs.specs.Portions.{counted_lines}
use Rattle.ga_logs.specs.declared.fault.CountFault.{CountFault}
use Rattle.ga_logs.specs.declared.fault.CountFault.TheVariants.{Failed as LogFailed, Short as LogShort, Full, NoMemory as CountNoMemory}
use Rattle.ga_logs.specs.declared.portion.Portion.{Portion}
use Rattle.ga_outcomes.specs.declared.setup.Setup.{Setup}
use Rattle.ga_resume.specs.declared.start.Start.{Start}

-- the logs were read and the entries went with them, and the generator's lines and theirs are counted in this total
pub record CountsLogs (setup : Setup) (start : Start) (generated : Option ℕ) (names : List (List ℕ)) (entries entries' : List Entry)
    (files files' : FilesView) (total : TallySeen) : Type 0 where
  pub portions : List Portion
  pub read : ReadsAll start.follow names entries entries' files files' portions
  pub counts : AreInTotal setup start.totals (counted_lines generated start.follow portions) total

-- some logs were read, and the generator's lines and theirs, up to one of them, fill a counter
pub record FillsLogs (setup : Setup) (start : Start) (generated : Option ℕ) (names : List (List ℕ)) (entries : List Entry)
    (files files' : FilesView) (which : Counter) (total : ℕ) : Type 0 where
  pub portions : List Portion
  pub read : ReadsSome start.follow names entries files files' portions
  pub fills : FillsAmong setup start.totals (counted_lines generated start.follow portions) which total

-- why the logs weren't counted
abbrev pub StopsLogs : Setup → Start → Option ℕ → List (List ℕ) → List Entry → FilesView → FilesView → CountFault → Type 0
StopsLogs setup start generated names entries files files' (LogFailed place) =
    MissesLogs setup start generated names entries files files' place FileFault
StopsLogs setup start generated names entries files files' (LogShort place at) =
    MissesLogs setup start generated names entries files files' place (FileShort at)
StopsLogs setup start generated names entries files files' (Full which total) =
    FillsLogs setup start generated names entries files files' which total
StopsLogs setup start generated names entries files files' CountNoMemory =
    ((place : ℕ) × (portions : List Portion) × MissesAt start.follow names entries place files files' portions NoMemory)
    ⊎ ((portions : List Portion) × ReadsSome start.follow names entries files files' portions)

-- no call failed
abbrev pub NoneFailed : CountFault → Type 0
NoneFailed (LogFailed place) = ⊥
NoneFailed _ = ⊤
