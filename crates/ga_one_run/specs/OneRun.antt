-- When two runs have to end alike.
use Rattle.std.specs.Prelude.{◌≡◌, ◌≢◌, ◌↔◌, ℕ, List, Option, Some, None, Ok}
use Rattle.std.specs.List.{AllByRecursion}
use Rattle.ga_disk.specs.Sides.{Sides}
use Rattle.ga_counters.specs.Counts.{Rose}
use Rattle.ga_ports.specs.Files.{told}
use Rattle.ga_ports.specs.Outs.{OutsView, takes}
use Rattle.ga_store.specs.Database.{DbOf, DbValue, Reading}
use Rattle.ga_store.specs.Database.Reading.{stored as reads_as}
use Rattle.ga_words.specs.Joined.{JoinedOf}
use Rattle.ga_words.specs.declared.settings.Settings.{Settings}
use Rattle.ga_one_run.specs.Inputs.{inputs_of}
use Rattle.ga_one_run.specs.Printing.{but_errors, delivered}
use Rattle.ga_one_run.specs.Run.{RunsWords, TellsSides}
use Rattle.ga_one_run.specs.Outside.{Outside}
use Rattle.ga_one_run.specs.declared.status.Status.{Status}
use Rattle.ga_one_run.specs.declared.status.Status.TheVariants.{NoMemory}

-- a run: what it stood in before and after it, and its status
pub record RunView : Type 1 where
  pub old : Outside
  pub new : Outside
  pub status : Status

abbrev pub run_of : Outside → Outside → Status → RunView
run_of old new status = record { old = old; new = new; status = status }

-- the run was over told files, and over told sides where it uses them; no count of a fault rose, and no memory was wanted
pub record IsUntroubled (conf words : List (List ℕ)) (sides : Sides) (run : RunView) : Type 0 where
  pub is_run : RunsWords conf words run.old run.new run.status
  pub told_all : run.old.files.contents ≢ None
  pub told_sides : (s : Settings) → JoinedOf conf words (Ok s) → TellsSides s run.old.disk sides
  pub faults : ¬ Rose run.old.files.counts.faults run.new.files.counts.faults
  pub shorts : ¬ Rose run.old.files.counts.shorts run.new.files.counts.shorts
  pub disk : ¬ Rose run.old.disk.counts.faults run.new.disk.counts.faults
  pub output : ¬ Rose run.old.outs.stdout.faults run.new.outs.stdout.faults
  pub file : ¬ Rose run.old.outs.file.faults run.new.outs.file.faults
  pub errors : ¬ Rose run.old.outs.stderr.faults run.new.outs.stderr.faults
  pub fed : run.status ≢ NoMemory

-- the files that the words name have the same contents
abbrev pub HaveSameInputs : List (List ℕ) → List (List ℕ) → RunView → RunView → Type 0
HaveSameInputs conf words a b = (s : Settings) → JoinedOf conf words (Ok s)
    → AllByRecursion (λ name. told name a.old.files.contents ≡ told name b.old.files.contents) (inputs_of s)

-- the same settings but for the workers: other jobs, and other lines that a job takes at once
abbrev pub with_workers : ℕ → ℕ → Settings → Settings
with_workers jobs chunk s = record s { jobs = jobs; chunk = chunk }

-- two command lines say the same settings but for the workers
pub record DifferInWorkers (conf words conf' words' : List (List ℕ)) : Type 0 where
  pub settings : Settings
  pub jobs : ℕ
  pub chunk : ℕ
  pub says : JoinedOf conf words (Ok settings)
  pub says' : JoinedOf conf' words' (Ok (with_workers jobs chunk settings))

-- what a run wrote as its report: nothing, or a text to a file of some name or to standard output
abbrev pub Wrote : Option (Option (List ℕ) × List ℕ) → OutsView → OutsView → Type 0
Wrote None old new = new ≡ but_errors new old
Wrote (Some (file, text)) old new = new ≡ but_errors new (delivered file text old)

-- the disk reads as this database
abbrev pub HasDatabase : Outside → DbValue → Type 0
HasDatabase outside db = (sides : Sides) × (outside.disk.seen ≡ Some sides) × DbOf sides (reads_as db)

-- two databases say the same and keep the same number of days, in the same generation with as many records
pub record SayTheSame (a b : DbValue) : Type 0 where
  pub summary : a.summary ≡ b.summary
  pub entries : a.entries ≡ b.entries
  pub number : a.keep ≡ b.keep
  pub generation : a.generation ≡ b.generation
  pub records : a.records ≡ b.records

-- the databases of two worlds do
abbrev pub SameDatabase : Outside → Outside → Type 0
SameDatabase a b = (db db' : DbValue) → HasDatabase a db → HasDatabase b db' → SayTheSame db db'

-- two sides say the same: one database, or one damage
abbrev pub SidesAgree : Sides → Sides → Type 0
SidesAgree sides sides' = (reading : Reading) → DbOf sides reading ↔ DbOf sides' reading

-- one status, the same report in the same place, the same fault line, and over disks that read as these sides the same database
pub record Alike (sides sides' : Sides) (a b : RunView) : Type 0 where
  pub status : a.status ≡ b.status
  pub report : Option (Option (List ℕ) × List ℕ)
  pub line : List ℕ
  pub output : Wrote report a.old.outs a.new.outs
  pub output' : Wrote report b.old.outs b.new.outs
  pub errors : a.new.outs.stderr ≡ takes line a.old.outs.stderr
  pub errors' : b.new.outs.stderr ≡ takes line b.old.outs.stderr
  pub database : a.old.disk.seen ≡ Some sides → b.old.disk.seen ≡ Some sides' → SameDatabase a.new b.new
