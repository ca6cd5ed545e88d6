-- How a run that the words say ended, by its status: what was read, found, counted, kept and printed before that.
use Rattle.std.proofs.Common.{inl, inr}
use Rattle.std.specs.Prelude.{◌≡◌, ◌⊎◌, ℕ, ◌+◌, true, List, [], length, Some, None}
use Rattle.ga_agents.specs.RulesFile.{IsBadLine}
use Rattle.ga_agents.specs.declared.row.Rule.{Rule}
use Rattle.ga_base.specs.declared.counts.Counter.{Counter}
use Rattle.ga_base.specs.declared.counts.Counter.TheVariants.{Generations}
use Rattle.ga_base.specs.declared.counts.TheConstants.{LIMIT}
use Rattle.ga_base.specs.declared.entry.Entry.{Entry}
use Rattle.ga_disk.specs.Disk.{DiskView}
use Rattle.ga_disk.specs.Images.{Images, LeavesOnly}
use Rattle.ga_keep.specs.RunDatabase.{AreBase, Finds, IsUntouched, LooksAtMost, differing, lacks_generation, start_of}
use Rattle.ga_keep.specs.Faults.{Misses}
use Rattle.ga_line.specs.declared.setup.LineSetup.{LineSetup}
use Rattle.ga_outcomes.specs.LineOutcomes.{FillsAmong}
use Rattle.ga_logs.specs.Following.{CanServe, MissesLog, ReadsPortion, ReadsSome}
use Rattle.ga_logs.specs.Missing.{MissesLogs}
use Rattle.ga_logs.specs.Portions.{counted_lines}
use Rattle.ga_resume.specs.declared.follow.Follow.TheVariants.{Whole}
use Rattle.ga_logs.specs.declared.portion.Portion.{Portion}
use Rattle.ga_counters.specs.Counts.{Rose}
use Rattle.ga_ports.specs.Files.{FilesView}
use Rattle.ga_ports.specs.declared.outs.To.{To}
use Rattle.ga_resume.specs.declared.fault.PlaceFault.{PlaceFault}
use Rattle.ga_resume.specs.declared.fault.PlaceFault.TheVariants.{FileFault as PlaceFailed, FileShort as PlaceShort}
use Rattle.ga_store.specs.Database.{DbValue}
use Rattle.ga_store.specs.declared.fault.StoreFault.{StoreFault}
use Rattle.ga_store.specs.declared.fault.StoreFault.TheVariants.{Damaged, DiskFault as StoreFailed}
use Rattle.ga_words.specs.declared.settings.Settings.{Settings}
use Rattle.ga_one_run.specs.Course.{ReachesReport, HasRules}
use Rattle.ga_one_run.specs.Inputs.{IsStored, inputs_of}
use Rattle.ga_one_run.specs.Keeping.{FailsSince, KeptSince}
use Rattle.ga_targets.specs.Printing.{OutputCanTake}
use Rattle.ga_one_run.specs.Printing.{FailsWriting, but_errors, delivered, report_file, target_of}
use Rattle.ga_one_run.specs.Reports.{IsTextOf}
use Rattle.ga_one_run.specs.Setups.{setup_of}
use Rattle.ga_one_run.specs.Outside.{Outside}
use Rattle.ga_one_run.specs.declared.status.Input.{Input}
use Rattle.ga_one_run.specs.declared.status.Input.TheVariants.{Conf, Rules, Log}
use Rattle.ga_one_run.specs.declared.status.Status.{Status}
use Rattle.ga_one_run.specs.declared.status.Status.TheVariants.{Done, BadWords, BadConf, BadFormat, BadRules, FileFault, FileShort, DiskFault, DbDamaged, KeepDiffers, OutFault, CounterFull, NoMemory}

-- no target but standard error took a byte, and no file was made
abbrev pub SaysOnly : Outside → Outside → Type 0
SaysOnly old new = new.outs ≡ but_errors new.outs old.outs

-- ---- done

-- the run came to its report, and was kept where it persists
pub record HasReport (line : LineSetup) (s : Settings) (old new : Outside) : Type 0 where
  -- the disk, once the database was found
  pub found : DiskView
  pub come : ReachesReport line s old.files new.files old.disk found
  pub text : List ℕ
  pub report : IsTextOf s come.counted.whole text
  pub kept : KeptSince s come.stored come.counted.whole come.counted.entries' found new.disk old.images new.images

-- the report was taken: by its file, which was made for it, or by standard output
pub record Finishes (line : LineSetup) (s : Settings) (old new : Outside) : Type 0 where
  pub has : HasReport line s old new
  pub printed : new.outs ≡ but_errors new.outs (delivered (report_file s.generate s.output.name) has.text old.outs)

-- its target took the front of it up to a place, and failed there; where it was told that it can take the report, some call of
-- the targets wanted memory
pub record StopsPrinting (line : LineSetup) (s : Settings) (old new : Outside) (to : To) (at : ℕ) : Type 0 where
  pub target_is : to ≡ target_of (report_file s.generate s.output.name)
  pub has : HasReport line s old new
  pub stops : FailsWriting (report_file s.generate s.output.name) has.text at old.outs new.outs
  pub unsure : OutputCanTake to (length has.text) old.outs → Rose old.outs.starved new.outs.starved

-- ---- the inputs

-- a browsers file was read whole, and this is its first line that is no rule
pub record HasBadRule (s : Settings) (old new : Outside) (at : ℕ) : Type 0 where
  pub name : List ℕ
  pub named : s.browsers_file ≡ Some name
  pub text : Portion
  pub read : ReadsPortion Whole [] name old.files new.files text
  pub bad : IsBadLine text.bytes at
  pub disk : IsUntouched old.disk new.disk old.images new.images

-- the rules were read and the database was found, if it is used; it keeps no other number of days
pub record HasBegun (s : Settings) (old : Outside) (mid : FilesView) (disk' : DiskView) (images' : Images) : Type 0 where
  pub rules : List Rule
  pub has_rules : HasRules s.browsers_file old.files mid rules
  pub stored : DbValue
  pub finds : Finds s old.disk disk' old.images images' stored
  pub agrees : differing s stored ≡ None
  pub entries : List Entry
  pub begin : AreBase s stored entries

-- a log wasn't read, for this fault; the files before it were, and the lines that are counted then fill no counter
pub record MissesTheLog (line : LineSetup) (s : Settings) (old new : Outside) (place : ℕ) (fault : PlaceFault) : Type 0 where
  pub mid : FilesView
  pub begun : HasBegun s old mid new.disk new.images
  pub misses : MissesLogs (setup_of line s begun.rules) (start_of s begun.stored) s.generate s.logs begun.entries mid new.files
      place fault

-- a file wasn't read, for this fault
abbrev pub MissesInput : LineSetup → Settings → Outside → Outside → Input → PlaceFault → Type 0
MissesInput line s old new Conf fault = ⊥
MissesInput line s old new Rules fault = (name : List ℕ) × (s.browsers_file ≡ Some name)
    × MissesLog Whole [] name old.files new.files fault × IsUntouched old.disk new.disk old.images new.images
MissesInput line s old new (Log place) fault = MissesTheLog line s old new place fault

-- a call on this file failed, and it wasn't told that none can
pub record FailsInput (line : LineSetup) (s : Settings) (old new : Outside) (file : Input) : Type 0 where
  pub misses : MissesInput line s old new file PlaceFailed
  pub unsure : ¬ CanServe (inputs_of s) old.files

-- ---- counters

-- some of the logs were read, and the lines that are counted then, up to one of them, fill a counter
pub record FillsCounter (line : LineSetup) (s : Settings) (old new : Outside) (which : Counter) (total : ℕ) : Type 0 where
  pub mid : FilesView
  pub begun : HasBegun s old mid new.disk new.images
  pub portions : List Portion
  pub read : ReadsSome (start_of s begun.stored).follow s.logs begun.entries mid new.files portions
  pub fills : FillsAmong (setup_of line s begun.rules) (start_of s begun.stored).totals
      (counted_lines s.generate (start_of s begun.stored).follow portions) which total

-- the run would need a generation above the limit
pub record FillsGenerations (line : LineSetup) (s : Settings) (old new : Outside) (which : Counter) (total : ℕ) : Type 0 where
  pub come : ReachesReport line s old.files new.files old.disk new.disk
  pub moments : LeavesOnly old.images new.images old.images.now
  pub lacks : lacks_generation s come.stored ≡ true
  pub counter : which ≡ Generations
  pub value : total ≡ LIMIT + 1

-- ---- the disk

-- no database was found, for this fault
pub record MissesDatabase (s : Settings) (old new : Outside) (fault : StoreFault) : Type 0 where
  pub rules : List Rule
  pub has_rules : HasRules s.browsers_file old.files new.files rules
  pub misses : Misses s old.disk new.disk old.images new.images fault

-- the database that was found keeps another number of days than the run, which restores it; no log was asked for
pub record FindsOther (s : Settings) (old new : Outside) (number given : ℕ) : Type 0 where
  pub rules : List Rule
  pub has_rules : HasRules s.browsers_file old.files new.files rules
  pub stored : DbValue
  pub finds : Finds s old.disk new.disk old.images new.images stored
  pub differs : differing s stored ≡ Some number
  pub given_is : given ≡ s.keep

-- the disk failed while the run was kept
pub record FailsAtLast (line : LineSetup) (s : Settings) (old new : Outside) : Type 0 where
  pub found : DiskView
  pub come : ReachesReport line s old.files new.files old.disk found
  pub persists : s.persist ≡ true
  pub fails : FailsSince s.keep come.stored come.counted.whole come.counted.entries' found new.disk old.images new.images

-- ---- by status

abbrev pub Ends : LineSetup → Settings → Outside → Outside → Status → Type 0
Ends line s old new Done = Finishes line s old new
Ends line s old new (BadWords fault) = ⊥
Ends line s old new (BadConf at) = ⊥
Ends line s old new (BadFormat which fault) = ⊥
Ends line s old new (BadRules at) = HasBadRule s old new at × SaysOnly old new
Ends line s old new (FileFault file) = FailsInput line s old new file × SaysOnly old new
Ends line s old new (FileShort file at) = MissesInput line s old new file (PlaceShort at) × SaysOnly old new
Ends line s old new DiskFault = (MissesDatabase s old new StoreFailed ⊎ FailsAtLast line s old new) × SaysOnly old new
Ends line s old new (DbDamaged side at) = MissesDatabase s old new (Damaged side at) × SaysOnly old new
Ends line s old new (KeepDiffers number given) = FindsOther s old new number given × SaysOnly old new
Ends line s old new (OutFault to at) = StopsPrinting line s old new to at
Ends line s old new (CounterFull which total) =
    (FillsCounter line s old new which total ⊎ FillsGenerations line s old new which total) × SaysOnly old new
Ends line s old new NoMemory = LooksAtMost s old.disk new.disk old.images new.images × SaysOnly old new

-- ---- the entries by which the logs were followed

-- those that the ending names, of which no log was asked for where it names none; memory may run out after any that the
-- database had
abbrev pub AreFollowed : (line : LineSetup) (s : Settings) (old new : Outside) (status : Status) → Ends line s old new status → List Entry → Type 0
AreFollowed line s old new Done ends entries = entries ≡ ends.has.come.counted.entries
AreFollowed line s old new (BadWords fault) ends entries = ⊥
AreFollowed line s old new (BadConf at) ends entries = ⊥
AreFollowed line s old new (BadFormat which fault) ends entries = ⊥
AreFollowed line s old new (BadRules at) ends entries = ⊥
AreFollowed line s old new (FileFault Conf) ends entries = ⊥
AreFollowed line s old new (FileFault Rules) ends entries = ⊥
AreFollowed line s old new (FileFault (Log place)) ends entries = entries ≡ ends.0.misses.begun.entries
AreFollowed line s old new (FileShort Conf at) ends entries = ⊥
AreFollowed line s old new (FileShort Rules at) ends entries = ⊥
AreFollowed line s old new (FileShort (Log place) at) ends entries = entries ≡ ends.0.begun.entries
AreFollowed line s old new DiskFault (inl h, quiet) entries = ⊥
AreFollowed line s old new DiskFault (inr h, quiet) entries = entries ≡ h.come.counted.entries
AreFollowed line s old new (DbDamaged side at) ends entries = ⊥
AreFollowed line s old new (KeepDiffers number given) ends entries = ⊥
AreFollowed line s old new (OutFault to at) ends entries = entries ≡ ends.has.come.counted.entries
AreFollowed line s old new (CounterFull which total) (inl h, quiet) entries = entries ≡ h.begun.entries
AreFollowed line s old new (CounterFull which total) (inr h, quiet) entries = entries ≡ h.come.counted.entries
AreFollowed line s old new NoMemory ends entries = (stored : DbValue) × IsStored s old.disk stored × AreBase s stored entries
