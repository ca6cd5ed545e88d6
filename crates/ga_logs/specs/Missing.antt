-- A log that wasn't read, and the lines of those before it.
use Rattle.std.specs.Prelude.{◌≡◌, ℕ, Option, None, List}
use Rattle.ga_base.specs.declared.counts.Totals.{Totals}
use Rattle.ga_base.specs.declared.entry.Entry.{Entry}
use Rattle.ga_ports.specs.Files.{FilesView}
use Rattle.ga_resume.specs.declared.fault.PlaceFault.{PlaceFault}
use Rattle.ga_outcomes.specs.LineOutcomes.{HaveOutcomes}
use Rattle.ga_outcomes.specs.declared.setup.Setup.{Setup}
use Rattle.ga_summary.specs.Limits.{over}
use Rattle.ga_summary.specs.Outcomes.{Outcome}
use Rattle.ga_logs.specs.Following.{MissesAt}
use Rattle.ga_logs.specs.Portions.{counted_lines}
use Rattle.ga_logs.specs.declared.portion.Portion.{Portion}
use Rattle.ga_resume.specs.declared.start.Start.{Start}

-- these lines fill no counter that began at these totals
pub record LinesFit (setup : Setup) (start : Totals) (all : List (List ℕ)) : Type 0 where
  pub outcomes : List Outcome
  pub have_outcomes : HaveOutcomes setup all outcomes
  pub fits : over start outcomes ≡ None

-- the log at this place wasn't read; those before it were, and the generator's lines and theirs fill no counter
pub record MissesLogs (setup : Setup) (start : Start) (generated : Option ℕ) (names : List (List ℕ)) (entries : List Entry)
    (files files' : FilesView) (place : ℕ) (fault : PlaceFault) : Type 0 where
  pub portions : List Portion
  pub misses : MissesAt start.follow names entries place files files' portions fault
  pub fits : LinesFit setup start.totals (counted_lines generated start.follow portions)
