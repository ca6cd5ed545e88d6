-- One run of goaccess by its words. Where they name a configuration file, it is read first, and the run is that of all words,
-- those of the file and then these; where they don't, it is theirs alone.
use Rattle.std.specs.Prelude.{◌≡◌, ◌⊎◌, ℕ, List, [], ◌∷◌, Some, None, Result}
use Rattle.ga_conf.specs.ConfFile.{ConfGives, IsBadLine}
use Rattle.ga_disk.specs.Trace.{DiskTrace}
use Rattle.ga_keep.specs.RunDatabase.{IsUntouched}
use Rattle.ga_logs.specs.Following.{AsksFor, CanServe, MissesLog, ReadsPortion}
use Rattle.ga_logs.specs.declared.portion.Portion.{Portion}
use Rattle.ga_ports.specs.Files.{FilesView, told}
use Rattle.ga_ports.specs.Trace.{FilesTrace, OutsTrace}
use Rattle.ga_resume.specs.declared.fault.PlaceFault.TheVariants.{FileFault as PlaceFailed, FileShort as PlaceShort}
use Rattle.ga_resume.specs.declared.follow.Follow.TheVariants.{Whole}
use Rattle.ga_words.specs.Joined.{JoinedOf, NamesConf}
use Rattle.ga_words.specs.WordsOf.{HasFault}
use Rattle.ga_words.specs.declared.fault.WordFault.{WordFault}
use Rattle.ga_words.specs.declared.settings.Settings.{Settings}
use Rattle.ga_one_run.specs.Ends.{SaysOnly}
use Rattle.ga_one_run.specs.Outside.{Outside}
use Rattle.ga_targets.specs.Printing.{TakesOrStops}
use Rattle.ga_one_run.specs.Run.{RunsWords, SameFaults, faults_after}
use Rattle.ga_one_run.specs.Statuses.{fault_line}
use Rattle.ga_one_run.specs.declared.status.Input.TheVariants.{Conf}
use Rattle.ga_one_run.specs.declared.status.Status.{Status}
use Rattle.ga_one_run.specs.declared.status.Status.TheVariants.{BadConf, FileFault, FileShort, NoMemory}

-- ---- the file

-- the words of a configuration file, which was read whole
abbrev pub HasConf : List ℕ → FilesView → FilesView → List (List ℕ) → Type 0
HasConf name files files' conf = (text : Portion) × ReadsPortion Whole [] name files files' text × ConfGives text.bytes conf

-- why a run ended that came to no words of the file: a call failed on it, which wasn't told that it can't; it was short; it has
-- a bad line, the first one; or memory ran out, before it was asked for or after
abbrev pub StopsAtConf : List ℕ → FilesView → FilesView → Status → Type 0
StopsAtConf name files files' (FileFault Conf) = MissesLog Whole [] name files files' PlaceFailed × ¬ CanServe (name ∷ []) files
StopsAtConf name files files' (FileShort Conf at) = MissesLog Whole [] name files files' (PlaceShort at)
StopsAtConf name files files' (BadConf line) = (text : Portion) × ReadsPortion Whole [] name files files' text × IsBadLine text.bytes line
StopsAtConf name files files' NoMemory = (files' ≡ files) ⊎ AsksFor Whole [] name files files'
StopsAtConf name files files' _ = ⊥

-- what its fault line calls what failed
abbrev pub conf_name : List ℕ → Status → List ℕ
conf_name name (FileFault file) = name
conf_name name (FileShort file at) = name
conf_name name _ = []

-- such a run: the disk wasn't touched, and nothing was printed but the fault line, or a front of it
pub record EndsAtConf (name : List ℕ) (old new : Outside) (status : Status) : Type 0 where
  pub stops : StopsAtConf name old.files new.files status
  pub disk : IsUntouched old.disk new.disk old.images new.images
  pub quiet : SaysOnly old new
  pub line : TakesOrStops (fault_line (conf_name name status) status) old.outs.stderr new.outs.stderr
  pub faults : SameFaults (faults_after status old.files.counts) new.files.counts
  pub files_trace : FilesTrace old.files new.files
  pub disk_trace : DiskTrace old.disk new.disk
  pub outs_trace : OutsTrace old.outs new.outs

-- ---- the run

-- The file was read, and the run is that of its words and then these, which began when the file was read. So it does what a run
-- of all these words does without a file, but that the file was asked for, and handed out, before.
pub record RunsAfterConf (name : List ℕ) (words : List (List ℕ)) (old new : Outside) (status : Status) : Type 0 where
  pub conf : List (List ℕ)
  pub mid : FilesView
  pub has_conf : HasConf name old.files mid conf
  pub runs : RunsWords conf words (record old { files = mid }) new status

-- words that are at fault by themselves, or name no configuration file
abbrev pub NameNoConf : List (List ℕ) → Type 0
NameNoConf words = ((fault : WordFault) × HasFault words fault) ⊎ NamesConf words None

pub record IsRun (words : List (List ℕ)) (old new : Outside) (status : Status) : Type 0 where
  -- these are run alone, and no configuration file is read
  pub alone : NameNoConf words → RunsWords [] words old new status
  -- the last configuration file that others name is read before any setting is made
  pub configured : (name : List ℕ) → NamesConf words (Some name) → RunsAfterConf name words old new status ⊎ EndsAtConf name old new status

-- ---- over told contents

-- the words of the configuration file that words name, by its told content; none where they name none
abbrev pub ConfIsTold : List (List ℕ) → FilesView → List (List ℕ) → Type 0
ConfIsTold words files conf = (NameNoConf words × (conf ≡ []))
    ⊎ ((name : List ℕ) × NamesConf words (Some name) × ((text : List ℕ) × (told name files.contents ≡ Some text) × ConfGives text conf))

-- what words mean, after those of the file
abbrev pub SayOver : List (List ℕ) → FilesView → Result Settings WordFault → Type 0
SayOver words files answer = (conf : List (List ℕ)) × ConfIsTold words files conf × JoinedOf conf words answer

-- the first line of the file that is no setting
pub record HasBadConf (words : List (List ℕ)) (files : FilesView) (line : ℕ) : Type 0 where
  pub name : List ℕ
  pub named : NamesConf words (Some name)
  pub text : List ℕ
  pub is_told : told name files.contents ≡ Some text
  pub bad : IsBadLine text line
