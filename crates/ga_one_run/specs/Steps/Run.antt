-- How the parts of a run ended, before its fault line is written.
use Rattle.std.specs.Prelude.{◌≡◌, ◌≢◌, ℕ, ◌+◌, ◌⊎◌, true, List, [], length, Some, None, unwrap_or, slice_get, IsTrue}
use Rattle.ga_agents.specs.declared.row.Rule.{Rule}
use Rattle.ga_base.specs.declared.counts.Counter.{Counter}
use Rattle.ga_base.specs.declared.counts.Counter.TheVariants.{Generations}
use Rattle.ga_base.specs.declared.counts.TheConstants.{LIMIT}
use Rattle.ga_base.specs.declared.counts.Totals.{Totals}
use Rattle.ga_base.specs.declared.entry.Entry.{Entry}
use Rattle.ga_disk.specs.Disk.{DiskView}
use Rattle.ga_disk.specs.Images.{Images}
use Rattle.ga_disk.specs.Trace.{DiskTrace}
use Rattle.ga_keep.specs.RunDatabase.{AreBase, ComesAfter, FailsKeeping, Finds, GrowsBy, IsUntouched, IsWhole, KeptIf, LooksAtMost, differing, follow_of, mode_of, start_of, whole_of}
use Rattle.ga_keep.specs.Faults.{Misses}
use Rattle.ga_keep.specs.declared.base.Base.{Base}
use Rattle.ga_line.specs.declared.setup.LineSetup.{LineSetup}
use Rattle.ga_outcomes.specs.LineOutcomes.{CountsLines, FillsAmong}
use Rattle.ga_logs.specs.Counting.{AreInTotal}
use Rattle.ga_logs.specs.Following.{CanServe, ReadsSome}
use Rattle.ga_logs.specs.Logs.{CountsLogs, StopsLogs}
use Rattle.ga_logs.specs.Missing.{MissesLogs}
use Rattle.ga_logs.specs.Portions.{counted_lines}
use Rattle.ga_logs.specs.declared.fault.CountFault.{CountFault}
use Rattle.ga_logs.specs.declared.fault.CountFault.TheVariants.{Failed as LogFailed, Short as LogShort, Full, NoMemory as CountNoMemory}
use Rattle.ga_logs.specs.declared.portion.Portion.{Portion}
use Rattle.ga_outcomes.specs.declared.setup.Setup.{Setup}
use Rattle.ga_panels.specs.declared.setup.PanelSetup.{PanelSetup}
use Rattle.ga_counters.specs.Counts.{Rose}
use Rattle.ga_ports.specs.Files.{FilesView}
use Rattle.ga_ports.specs.Outs.{OutsView}
use Rattle.ga_ports.specs.Trace.{FilesStay, FilesTrace, OutsTrace}
use Rattle.ga_ports.specs.declared.outs.To.{To}
use Rattle.ga_resume.specs.declared.fault.PlaceFault.{PlaceFault}
use Rattle.ga_resume.specs.declared.fault.PlaceFault.TheVariants.{FileFault as PlaceFailed, FileShort as PlaceShort, NoMemory as PlaceNoMemory}
use Rattle.ga_store.specs.Commit.{passes_generations, position_of}
use Rattle.ga_store.specs.Database.{DbValue, empty_db}
use Rattle.ga_resume.specs.declared.start.Start.{Start}
use Rattle.ga_store.specs.declared.fault.StoreFault.{StoreFault}
use Rattle.ga_store.specs.declared.fault.StoreFault.TheVariants.{CounterFull as StoreFull, Damaged, DiskFault as StoreFailed, NoMemory as StoreNoMemory}
use Rattle.ga_workers.specs.declared.workers.Workers.{Workers}
use Rattle.ga_summary.specs.LastDays.{trimmed}
use Rattle.ga_summary.specs.Outcomes.{Outcome}
use Rattle.ga_summary.specs.Sound.{AllCountable, IsSummary}
use Rattle.ga_summary.specs.SummaryRows.{SummaryValue}
use Rattle.ga_summary.specs.Sums.{IsSumOf}
use Rattle.ga_tallies.specs.Tallies.{IsTallyOf, TallySeen}
use Rattle.ga_words.specs.declared.fault.WordFault.{WordFault}
use Rattle.ga_words.specs.declared.fault.WordFault.TheVariants.{NoMemory as WordNoMemory}
use Rattle.ga_words.specs.declared.settings.Settings.{Settings}
use Rattle.ga_one_run.specs.Course.{HasCounted, HasRules}
use Rattle.ga_one_run.specs.Ends.{AreFollowed, Ends}
use Rattle.ga_one_run.specs.Inputs.{IsStored, Walks, WalksInputs, rules_file}
use Rattle.ga_targets.specs.Printing.{OutputCanTake}
use Rattle.ga_one_run.specs.Printing.{FailsWriting, but_errors, delivered, report_file, target_of}
use Rattle.ga_one_run.specs.Reports.{IsTextOf}
use Rattle.ga_one_run.specs.Run.{NothingWasRead, SameFaults, faults_after}
use Rattle.ga_one_run.specs.Setups.{IsLineSetup, IsRefused, panels_of, setup_of}
use Rattle.ga_one_run.specs.Steps.Rules.{StopsNamed}
use Rattle.ga_one_run.specs.Statuses.{target_name}
use Rattle.ga_one_run.specs.Outside.{Outside}
use Rattle.ga_one_run.specs.declared.rules.RulesFault.{RulesFault}
use Rattle.ga_one_run.specs.declared.rules.RulesFault.TheVariants.{Unread, Bad}
use Rattle.ga_one_run.specs.declared.run.RunCounts.{RunCounts}
use Rattle.ga_one_run.specs.declared.status.Input.{Input}
use Rattle.ga_one_run.specs.declared.status.Input.TheVariants.{Conf, Rules, Log}
use Rattle.ga_one_run.specs.declared.status.Status.{Status}
use Rattle.ga_one_run.specs.declared.status.Status.TheVariants.{Done, BadWords, BadFormat, BadRules, FileFault, FileShort, DiskFault, DbDamaged, KeepDiffers, OutFault, CounterFull, NoMemory}

-- ---- the names that a fault line has

abbrev pub input_name : Settings → Input → List ℕ
input_name s Conf = []
input_name s Rules = unwrap_or s.browsers_file []
input_name s (Log place) = unwrap_or (slice_get s.logs place) []

abbrev pub failed_name : Settings → Status → List ℕ
failed_name s (FileFault file) = input_name s file
failed_name s (FileShort file at) = input_name s file
failed_name s (OutFault to at) = target_name (report_file s.generate s.output.name)
failed_name s _ = []

-- ---- who counts

abbrev pub workers_said : Settings → Workers
workers_said s = record { jobs = s.jobs; chunk = s.chunk }

-- ---- statuses of faults

abbrev pub status_of_words : WordFault → Status
status_of_words WordNoMemory = NoMemory
status_of_words fault = BadWords fault

abbrev pub status_of_rules : RulesFault → Status
status_of_rules (Unread PlaceFailed) = FileFault Rules
status_of_rules (Unread (PlaceShort at)) = FileShort Rules at
status_of_rules (Unread PlaceNoMemory) = NoMemory
status_of_rules (Bad line) = BadRules line

abbrev pub status_of_count : CountFault → Status
status_of_count (LogFailed place) = FileFault (Log place)
status_of_count (LogShort place at) = FileShort (Log place) at
status_of_count (Full which total) = CounterFull which total
status_of_count CountNoMemory = NoMemory

abbrev pub status_of_store : StoreFault → Status
status_of_store StoreFailed = DiskFault
status_of_store (Damaged side at) = DbDamaged side at
status_of_store (StoreFull which total) = CounterFull which total
status_of_store StoreNoMemory = NoMemory

-- ---- counting

-- the database was found, which keeps no other number of days, and the entries that the run begins with
pub record HasFound (s : Settings) (disk disk' : DiskView) (images images' : Images) : Type 0 where
  pub stored : DbValue
  pub finds : Finds s disk disk' images images' stored
  pub agrees : differing s stored ≡ None
  pub entries : List Entry
  pub begin : AreBase s stored entries

-- the whole that a run shows, by what it counted
abbrev pub whole_in : Settings → RunCounts → SummaryValue
whole_in s counted = whole_of s counted.base.summary counted.run

-- what was counted, and what the run began with
pub record CountsRun (setup : Setup) (s : Settings) (counted : RunCounts) (files files' : FilesView) (disk disk' : DiskView)
    (images images' : Images) : Type 0 where
  pub stored : DbValue
  pub stands : position_of stored ≡ counted.position
  pub finds : Finds s disk disk' images images' stored
  pub agrees : differing s stored ≡ None
  pub has : HasCounted setup s stored files files'
  -- what is left of the run's own sum has the same whole
  pub is_whole : IsWhole s stored counted.run (whole_in s counted)
  pub whole_is : has.whole ≡ whole_in s counted
  pub entries_are : has.entries' ≡ counted.base.entries

-- the status where what is stored keeps another number of days than the run, which restores it
abbrev pub Differs : Settings → DbValue → Status → Type 0
Differs s stored status = (number : ℕ) × (differing s stored ≡ Some number) × (status ≡ KeepDiffers number s.keep)

-- the database that was found keeps another number of days
pub record StopsAtNumber (s : Settings) (disk disk' : DiskView) (images images' : Images) (number given : ℕ) : Type 0 where
  pub stored : DbValue
  pub finds : Finds s disk disk' images images' stored
  pub differs : differing s stored ≡ Some number
  pub given_is : given ≡ s.keep

-- a log wasn't read, and no counter was full
pub record StopsAtLog (setup : Setup) (s : Settings) (files files' : FilesView) (disk disk' : DiskView) (images images' : Images)
    (place : ℕ) (fault : PlaceFault) : Type 0 where
  pub found : HasFound s disk disk' images images'
  pub misses : MissesLogs setup (start_of s found.stored) s.generate s.logs found.entries files files' place fault

-- a counter is full
pub record StopsFull (setup : Setup) (s : Settings) (files files' : FilesView) (disk disk' : DiskView) (images images' : Images)
    (which : Counter) (total : ℕ) : Type 0 where
  pub found : HasFound s disk disk' images images'
  pub portions : List Portion
  pub read : ReadsSome (start_of s found.stored).follow s.logs found.entries files files' portions
  pub fills : FillsAmong setup (start_of s found.stored).totals (counted_lines s.generate (start_of s found.stored).follow portions) which total

-- some of the logs were asked for
pub record WalksLogs (s : Settings) (disk : DiskView) (files files' : FilesView) : Type 0 where
  pub stored : DbValue
  pub is_stored : IsStored s disk stored
  pub entries : List Entry
  pub begin : AreBase s stored entries
  pub count : ℕ
  pub walks : Walks (follow_of s) s.logs entries files files' count

-- memory ran out
pub record StopsHungry (s : Settings) (files files' : FilesView) (disk disk' : DiskView) (images images' : Images) : Type 0 where
  pub looks : LooksAtMost s disk disk' images images'
  pub asks : (files' ≡ files) ⊎ WalksLogs s disk files files'
  pub faults : SameFaults files.counts files'.counts

abbrev pub StopsCounting : Setup → Settings → FilesView → FilesView → DiskView → DiskView → Images → Images → Status → Type 0
StopsCounting setup s files files' disk disk' images images' (FileFault (Log place)) = StopsAtLog setup s files files' disk disk' images images' place PlaceFailed
StopsCounting setup s files files' disk disk' images images' (FileShort (Log place) at) = StopsAtLog setup s files files' disk disk' images images' place (PlaceShort at)
StopsCounting setup s files files' disk disk' images images' DiskFault = Misses s disk disk' images images' StoreFailed × (files' ≡ files)
StopsCounting setup s files files' disk disk' images images' (DbDamaged side at) = Misses s disk disk' images images' (Damaged side at) × (files' ≡ files)
StopsCounting setup s files files' disk disk' images images' (KeepDiffers number given) = StopsAtNumber s disk disk' images images' number given × (files' ≡ files)
StopsCounting setup s files files' disk disk' images images' (CounterFull which total) = StopsFull setup s files files' disk disk' images images' which total
StopsCounting setup s files files' disk disk' images images' NoMemory = StopsHungry s files files' disk disk' images images'
StopsCounting setup s files files' disk disk' images images' _ = ⊥

-- ---- counting by a base

-- all logs were counted on from what is stored
pub record CountsFrom (setup : Setup) (s : Settings) (stored : DbValue) (files files' : FilesView) (total : TallySeen)
    (entries' : List Entry) : Type 0 where
  pub entries : List Entry
  pub begin : AreBase s stored entries
  pub counts : CountsLogs setup (start_of s stored) s.generate s.logs entries entries' files files' total

-- the logs weren't all counted from this start on
pub record StopsFrom (setup : Setup) (s : Settings) (start : Start) (entries : List Entry) (files files' : FilesView) (status : Status) : Type 0 where
  pub fault : CountFault
  pub status_is : status ≡ status_of_count fault
  pub stops : StopsLogs setup start s.generate s.logs entries files files' fault

-- the total is of lines that fit behind these totals
pub record IsOfLines (totals : Totals) (total : TallySeen) : Type 0 where
  pub setup : Setup
  pub lines : List (List ℕ)
  pub are : AreInTotal setup totals lines total

-- the sum of the lines of a total, by which the summary of a base grew, and what is left of that sum then
pub record AreSums (s : Settings) (base base' : SummaryValue) (total : TallySeen) (left : SummaryValue) : Type 0 where
  pub run : SummaryValue
  pub is_summary : IsSummary run
  pub counts : (setup : Setup) (lines : List (List ℕ)) → AreInTotal setup base.totals lines total → CountsLines setup base.totals lines run
  pub grown : GrowsBy s.restore s.keep base run base' left

-- the logs were counted on from what is stored, and this is what is left of their sum, and what the base grew to
pub record CountsOn (setup : Setup) (s : Settings) (stored : DbValue) (files files' : FilesView) (run : SummaryValue) (base : Base) : Type 0 where
  pub has : HasCounted setup s stored files files'
  pub is_whole : IsWhole s stored run (whole_of s base.summary run)
  pub whole_is : has.whole ≡ whole_of s base.summary run
  pub entries_are : has.entries' ≡ base.entries

-- a log wasn't read, or the lines fill a counter, or memory ran out on the way
pub record StopsLogsAlone (setup : Setup) (s : Settings) (stored : DbValue) (files files' : FilesView) (status : Status) : Type 0 where
  pub entries : List Entry
  pub begin : AreBase s stored entries
  pub fault : CountFault
  pub status_is : status ≡ status_of_count fault
  pub stops : StopsLogs setup (start_of s stored) s.generate s.logs entries files files' fault

-- memory ran out after all logs
pub record HungryAlone (setup : Setup) (s : Settings) (stored : DbValue) (files files' : FilesView) : Type 0 where
  pub total : TallySeen
  pub entries' : List Entry
  pub counted : CountsFrom setup s stored files files' total entries'

-- why there is no sum, or no text of it: the second is lack of memory
abbrev pub StopsAlone : Setup → Settings → DbValue → FilesView → FilesView → Status → Type 0
StopsAlone setup s stored files files' status =
    StopsLogsAlone setup s stored files files' status ⊎ ((status ≡ NoMemory) × HungryAlone setup s stored files files')

-- no call on a file failed
abbrev pub NoFileFailed : Status → Type 0
NoFileFailed (FileFault file) = ⊥
NoFileFailed _ = Unit {0}

-- ---- a run that uses no database

-- its logs were counted, and the text is the report on their sum
pub record IsTextAlone (setup : Setup) (s : Settings) (files files' : FilesView) (text : List ℕ) : Type 0 where
  pub has : HasCounted setup s empty_db files files'
  pub is_text : IsTextOf s has.whole text

-- the text is the report on the last days of the sum of these, as many as the run keeps
pub record IsTextOfLines (s : Settings) (outcomes : List Outcome) (text : List ℕ) : Type 0 where
  pub sum : SummaryValue
  pub is_sum : IsSumOf outcomes sum
  pub is_text : IsTextOf s (trimmed s.keep sum) text

-- the same of those that a total is of
pub record IsTextOfTotal (s : Settings) (total : TallySeen) (text : List ℕ) : Type 0 where
  pub of : (outcomes : List Outcome) → IsTallyOf outcomes total → AllCountable outcomes → IsTextOfLines s outcomes text

-- ---- the report

-- it wasn't delivered
pub record StopsReport (s : Settings) (text : List ℕ) (outs outs' : OutsView) (to : To) (at : ℕ) : Type 0 where
  pub target_is : to ≡ target_of (report_file s.generate s.output.name)
  pub stops : FailsWriting (report_file s.generate s.output.name) text at outs outs'
  pub unsure : OutputCanTake to (length text) outs → Rose outs.starved outs'.starved

abbrev pub EndsReport : Settings → List ℕ → OutsView → OutsView → Status → Type 0
EndsReport s text outs outs' Done = outs' ≡ but_errors outs' (delivered (report_file s.generate s.output.name) text outs)
EndsReport s text outs outs' (OutFault to at) = StopsReport s text outs outs' to at
EndsReport s text outs outs' _ = ⊥

-- ---- keeping and delivering

-- a run that persists can be kept after this database
pub record IsReady (s : Settings) (stored : DbValue) (counted : RunCounts) (disk : DiskView) (images : Images) : Type 0 where
  pub is_open : IsTrue disk.is_open
  pub after : ComesAfter s stored counted.position counted.run (whole_in s counted) disk images

pub record Delivers (s : Settings) (stored : DbValue) (whole : SummaryValue) (entries : List Entry) (disk disk' : DiskView) (images images' : Images)
    (outs outs' : OutsView) (status : Status) : Type 0 where
  pub text : List ℕ
  pub is_text : IsTextOf s whole text
  pub kept : KeptIf s stored whole entries disk disk' images images'
  pub report : EndsReport s text outs outs' status

abbrev pub EndsKeeping : Settings → DbValue → SummaryValue → List Entry → DiskView → DiskView → Images → Images → OutsView → OutsView → Status → Type 0
EndsKeeping s stored whole entries disk disk' images images' outs outs' Done = Delivers s stored whole entries disk disk' images images' outs outs' Done
EndsKeeping s stored whole entries disk disk' images images' outs outs' (OutFault to at) =
    Delivers s stored whole entries disk disk' images images' outs outs' (OutFault to at)
EndsKeeping s stored whole entries disk disk' images images' outs outs' DiskFault =
    (s.persist ≡ true) × FailsKeeping s.keep stored whole entries disk disk' images images' × (outs' ≡ outs)
EndsKeeping s stored whole entries disk disk' images images' outs outs' (CounterFull which total) =
    (s.persist ≡ true) × (which ≡ Generations) × (total ≡ LIMIT + 1) × (passes_generations (mode_of s) stored ≡ true)
    × IsUntouched disk disk' images images' × (outs' ≡ outs)
EndsKeeping s stored whole entries disk disk' images images' outs outs' NoMemory = IsUntouched disk disk' images images' × (outs' ≡ outs)
EndsKeeping s stored whole entries disk disk' images images' outs outs' _ = ⊥

-- how a run ended that counted this, from the counting on
pub record EndsLast (s : Settings) (stored : DbValue) (whole : SummaryValue) (entries : List Entry) (disk disk' : DiskView) (images images' : Images)
    (outs outs' : OutsView) (status : Status) : Type 0 where
  pub ends : EndsKeeping s stored whole entries disk disk' images images' outs outs' status
  pub errors : outs'.stderr ≡ outs.stderr
  pub disk_trace : DiskTrace disk disk'
  pub outs_trace : OutsTrace outs outs'

-- ---- a run that uses no database, after its setup

-- its report was delivered, or not
pub record EndsTold (setup : Setup) (s : Settings) (files files' : FilesView) (outs outs' : OutsView) (status : Status) : Type 0 where
  pub text : List ℕ
  pub is_text : IsTextAlone setup s files files' text
  pub ends : EndsReport s text outs outs' status
  pub errors : outs'.stderr ≡ outs.stderr
  pub outs_trace : OutsTrace outs outs'

-- there is none
pub record EndsUntold (setup : Setup) (s : Settings) (files files' : FilesView) (outs outs' : OutsView) (status : Status) : Type 0 where
  pub stops : StopsAlone setup s empty_db files files' status
  pub sure : CanServe s.logs files → NoFileFailed status
  pub quiet : outs' ≡ outs

pub record EndsAlone (setup : Setup) (s : Settings) (files files' : FilesView) (outs outs' : OutsView) (status : Status) : Type 0 where
  pub ends : EndsTold setup s files files' outs outs' status ⊎ EndsUntold setup s files files' outs outs' status
  pub files_trace : FilesTrace files files'

-- ---- how lines are counted

-- by the rules of the browsers file, which was read
pub record HasPanels (s : Settings) (files files' : FilesView) (panels : PanelSetup) : Type 0 where
  pub rules : List Rule
  pub has_rules : HasRules s.browsers_file files files' rules
  pub is : panels ≡ panels_of s rules

-- it wasn't read
pub record StopsAtRules (s : Settings) (files files' : FilesView) (status : Status) : Type 0 where
  pub fault : RulesFault
  pub status_is : status ≡ status_of_rules fault
  pub stops : StopsNamed s.browsers_file files files' fault
  pub sure : CanServe (rules_file s.browsers_file) files → fault ≢ Unread PlaceFailed

-- or memory ran out after it
abbrev pub StopsPanels : Settings → FilesView → FilesView → Status → Type 0
StopsPanels s files files' status =
    StopsAtRules s files files' status ⊎ ((status ≡ NoMemory) × (rules : List Rule) × HasRules s.browsers_file files files' rules)

-- a run whose files were these at its start is set up so, after its rules were read
pub record IsSetUp (line : LineSetup) (s : Settings) (start files : FilesView) (setup : Setup) : Type 0 where
  pub rules : List Rule
  pub has_rules : HasRules s.browsers_file start files rules
  pub is : setup ≡ setup_of line s rules
  pub files_trace : FilesTrace start files
  pub stay : FilesStay start files

-- ---- the run over its inputs

pub record EndsInputs (line : LineSetup) (s : Settings) (old new : Outside) (status : Status) : Type 0 where
  pub ends : Ends line s old new status
  pub asks : (count : ℕ) × WalksInputs s (AreFollowed line s old new status ends) old.files new.files count
  pub faults : SameFaults (faults_after status old.files.counts) new.files.counts
  pub errors : new.outs.stderr ≡ old.outs.stderr
  pub files_trace : FilesTrace old.files new.files
  pub disk_trace : DiskTrace old.disk new.disk
  pub outs_trace : OutsTrace old.outs new.outs

-- how a run ended that read nothing
abbrev pub EndsEarly : Settings → Status → Type 0
EndsEarly s (BadFormat which fault) = IsRefused s which fault
EndsEarly s NoMemory = Unit {0}
EndsEarly s _ = ⊥

-- how a run ended that the words say: early, or over its inputs
abbrev pub EndsRun : Settings → Outside → Outside → Status → Type 0
EndsRun s old new status =
    (EndsEarly s status × NothingWasRead old new × (new.outs ≡ old.outs))
    ⊎ ((line : LineSetup) × IsLineSetup s line × EndsInputs line s old new status)
