-- What one run of goaccess is by settings: over the words of a configuration file, which may be none, and then those of the
-- command line, plain views of the files, the disk and the targets before and after, and the status. A run by the words of the
-- command line alone, which may name such a file, is `IsRun` of specs/Configured.antt.
use Rattle.std.specs.Prelude.{◌≡◌, ◌≢◌, ℕ, ◌⊎◌, ◌↔◌, ◌≤◌, true, false, List, length, Some, None, Ok, Err, Option, slice_get}
use Rattle.ga_base.specs.declared.counts.Counter.{Counter}
use Rattle.ga_base.specs.declared.formats.FormatFault.{FormatFault}
use Rattle.ga_disk.specs.Disk.{DiskView}
use Rattle.ga_disk.specs.Sides.{Sides}
use Rattle.ga_disk.specs.Trace.{DiskTrace}
use Rattle.ga_keep.specs.RunDatabase.{IsUntouched, uses_database}
use Rattle.ga_line.specs.declared.setup.LineSetup.{LineSetup}
use Rattle.ga_logs.specs.Following.{CanServe}
use Rattle.ga_counters.specs.Counts.{raised, Rose}
use Rattle.ga_ports.specs.Files.{is_absent}
use Rattle.ga_ports.specs.Outs.{OutsView, target}
use Rattle.ga_ports.specs.Trace.{FilesTrace, OutsTrace}
use Rattle.ga_ports.specs.declared.file_counts.FileCounts.{FileCounts}
use Rattle.ga_ports.specs.declared.outs.To.{To}
use Rattle.ga_words.specs.Joined.{JoinedOf}
use Rattle.ga_words.specs.declared.fault.WordFault.{WordFault}
use Rattle.ga_words.specs.declared.settings.Settings.{Settings}
use Rattle.ga_one_run.specs.Ends.{AreFollowed, Ends, HasReport}
use Rattle.ga_one_run.specs.Leaves.{Leaves, LeavesSides}
use Rattle.ga_one_run.specs.Inputs.{WalksInputs, inputs_of, place_of}
use Rattle.ga_targets.specs.Printing.{OutputCanTake, TakesOrStops}
use Rattle.ga_one_run.specs.Printing.{but_errors, report_file, target_of}
use Rattle.ga_one_run.specs.Setups.{IsLineSetup, IsRefused}
use Rattle.ga_one_run.specs.Statuses.{IsFaultLine}
use Rattle.ga_one_run.specs.Told.{Answers, Yield}
use Rattle.ga_one_run.specs.Outside.{Outside}
use Rattle.ga_one_run.specs.declared.status.Status.{Status}
use Rattle.ga_one_run.specs.declared.status.Status.TheVariants.{Done, BadWords, BadFormat, BadRules, FileFault, FileShort, DiskFault, DbDamaged, KeepDiffers, OutFault, CounterFull, NoMemory}
use Rattle.ga_one_run.specs.declared.status.Which.{Which}

-- ---- the words

-- this of the formats that the words say is the first that is refused
abbrev pub HaveRefused : List (List ℕ) → List (List ℕ) → Which → FormatFault → Type 0
HaveRefused conf words which fault = (s : Settings) × JoinedOf conf words (Ok s) × IsRefused s which fault

-- the words are refused, or one of their formats is
abbrev pub AreRefused : List (List ℕ) → List (List ℕ) → Type 0
AreRefused conf words = ((fault : WordFault) × JoinedOf conf words (Err fault)) ⊎ ((which : Which) × (fault : FormatFault) × HaveRefused conf words which fault)

-- the words say settings whose formats are good
abbrev pub HaveSetup : List (List ℕ) → List (List ℕ) → Type 0
HaveSetup conf words = (s : Settings) × JoinedOf conf words (Ok s) × ((line : LineSetup) × IsLineSetup s line)

-- no file was asked for, and the disk wasn't touched
pub record NothingWasRead (old new : Outside) : Type 0 where
  pub files : new.files ≡ old.files
  pub disk : IsUntouched old.disk new.disk old.images new.images

pub record ReadsWords (conf words : List (List ℕ)) (old new : Outside) (status : Status) : Type 0 where
  -- words are refused exactly where they say no settings, with the fault that they have, unless memory runs out
  pub bad_words : (fault : WordFault) → (status ≡ BadWords fault) ↔ (JoinedOf conf words (Err fault) × (status ≢ NoMemory))
  -- a format is refused exactly where it is the first bad one
  pub bad_format : (which : Which) (fault : FormatFault)
      → (status ≡ BadFormat which fault) ↔ (HaveRefused conf words which fault × (status ≢ NoMemory))
  pub untouched : AreRefused conf words → NothingWasRead old new
  -- nor does a run read anything whose words say no setup
  pub unsaid : (HaveSetup conf words → ⊥) → NothingWasRead old new
  -- all other words say a run whose formats are good, unless memory ran out before anything was read
  pub decided : AreRefused conf words ⊎ HaveSetup conf words ⊎ ((status ≡ NoMemory) × NothingWasRead old new)

-- ---- what served

-- the files served: it was told that they can, or no count of their failed or short calls rose
abbrev pub FilesServed : Settings → Outside → Outside → Type 0
FilesServed s old new = CanServe (inputs_of s) old.files
    ⊎ (¬ Rose old.files.counts.faults new.files.counts.faults × ¬ Rose old.files.counts.shorts new.files.counts.shorts)

abbrev pub DiskServed : Outside → Outside → Type 0
DiskServed old new = ¬ Rose old.disk.counts.faults new.disk.counts.faults

-- the report's target served: it was told that it can take the report that the run came to, and no call wanted memory, or
-- no count of its faults rose
abbrev pub OutputServed : LineSetup → Settings → Outside → Outside → Type 0
OutputServed line s old new = let to = target_of (report_file s.generate s.output.name) in
    (((has : HasReport line s old new) → OutputCanTake to (length has.text) old.outs) × ¬ Rose old.outs.starved new.outs.starved)
    ⊎ (¬ Rose (target to old.outs).faults (target to new.outs).faults)

-- the run ended neither for a bad rule, nor for damage, nor since the database keeps another number of days, nor for a full
-- counter
pub record HasGoodInput (status : Status) : Type 0 where
  pub rules : (line : ℕ) → status ≢ BadRules line
  pub database : (side at : ℕ) → status ≢ DbDamaged side at
  pub number : (stored given : ℕ) → status ≢ KeepDiffers stored given
  pub counters : (which : Counter) (total : ℕ) → status ≢ CounterFull which total

-- the run ended for a fault of the outside, or for lack of memory
abbrev pub IsTrouble : Status → Type 0
IsTrouble (FileFault file) = Unit {0}
IsTrouble (FileShort file at) = Unit {0}
IsTrouble DiskFault = Unit {0}
IsTrouble (OutFault to at) = Unit {0}
IsTrouble NoMemory = Unit {0}
IsTrouble _ = ⊥

-- a run that ended so didn't pass the file at this place
abbrev pub EndsBefore : Settings → ℕ → Status → Type 0
EndsBefore s place Done = ⊥
EndsBefore s place (OutFault to at) = ⊥
EndsBefore s place (FileShort file at) = ⊥
EndsBefore s place (FileFault file) = place_of s file ≤ place
EndsBefore s place _ = Unit {0}

-- a disk that the run uses reads so
abbrev pub TellsSides : Settings → DiskView → Sides → Type 0
TellsSides s disk sides = uses_database s ≡ true → disk.seen ≡ Some sides

-- the count of the disk's failed calls after a run with this status
abbrev pub disk_faults_after : Status → ℕ → ℕ
disk_faults_after DiskFault faults = raised faults 1
disk_faults_after _ faults = faults

-- ---- the run over its inputs

pub record RunsOver (line : LineSetup) (s : Settings) (old new : Outside) (status : Status) : Type 0 where
  -- what each status shows
  pub ends : Ends line s old new status
  -- the files are asked for in their order, each once, the logs by the entries that the ending names, and no more of them is
  -- handed out than is read from where these lead
  pub asks : (count : ℕ) × WalksInputs s (AreFollowed line s old new status ends) old.files new.files count
  -- over told files, and told sides where it uses them, it is their answer, or the outside failed, or memory ran out
  pub told : (sides : Sides) → old.files.contents ≢ None → TellsSides s old.disk sides
      → IsTrouble status ⊎ ((yield : Option Yield) × Answers line s old.files sides status yield)
  -- a file that is told to be absent isn't passed
  pub absent : (place : ℕ) (name : List ℕ) → slice_get (inputs_of s) place ≡ Some name
      → is_absent name old.files.contents ≡ true → EndsBefore s place status
  -- where all served and the input is good, the run is done, or memory ran out
  pub complete : FilesServed s old new → DiskServed old new → OutputServed line s old new → HasGoodInput status
      → (status ≡ Done) ⊎ (status ≡ NoMemory)
  -- what is left of the disk, and what a crash may have left since the start
  pub leaves : Leaves line s old new status
  -- without --persist no side is changed, with any status, also of a disk that doesn't tell
  pub unwritten : s.persist ≡ false → LeavesSides old new
  -- and without --restore too the disk isn't touched
  pub alone : uses_database s ≡ false → new.disk ≡ old.disk
  -- a call of the disk failed exactly where the status says so
  pub disk_faults : new.disk.counts.faults ≡ disk_faults_after status old.disk.counts.faults

-- ---- one run by these words

-- the counts of the files' failed and short calls after a run with this status
abbrev pub faults_after : Status → FileCounts → FileCounts
faults_after (FileFault file) counts = record counts { faults = raised counts.faults 1 }
faults_after (FileShort file at) counts = record counts { shorts = raised counts.shorts 1; short_at = at }
faults_after _ counts = counts

-- the same counts of failed and short calls
pub record SameFaults (old new : FileCounts) : Type 0 where
  pub faults : new.faults ≡ old.faults
  pub shorts : new.shorts ≡ old.shorts
  pub short_at : new.short_at ≡ old.short_at

-- what is said of the run
pub record Reports (conf words : List (List ℕ)) (old new : OutsView) (status : Status) : Type 0 where
  -- after a refusal no file was made, and no target but standard error took a byte
  pub refused : status ≢ Done → ((to : To) (at : ℕ) → status ≢ OutFault to at) → new ≡ but_errors new old
  -- the fault line, or a proper front of it where standard error failed
  pub line : (text : List ℕ) × IsFaultLine conf words status text × TakesOrStops text old.stderr new.stderr
  -- nothing is said where the run is done
  pub quiet : status ≡ Done → new.stderr ≡ old.stderr

pub record RunsWords (conf words : List (List ℕ)) (old new : Outside) (status : Status) : Type 0 where
  pub reads : ReadsWords conf words old new status
  -- the run is over what the words name
  pub runs : (s : Settings) (line : LineSetup) → JoinedOf conf words (Ok s) → IsLineSetup s line → RunsOver line s old new status
  pub reports : Reports conf words old.outs new.outs status
  -- the files' faults are counted as the status says
  pub faults : SameFaults (faults_after status old.files.counts) new.files.counts
  -- calls led from the views before to those after, each by its own clauses
  pub files_trace : FilesTrace old.files new.files
  pub disk_trace : DiskTrace old.disk new.disk
  pub outs_trace : OutsTrace old.outs new.outs
