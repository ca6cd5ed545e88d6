-- The headline, term by term. For every list of tracked runs over only-appended logs, with a crash at any write of the disk, a
-- run that is done prints exactly the kept days' report of one pass over all lines up to the ends that were read; recovery gives
-- whole runs, every acknowledged one among them; a run fails only by a named fault, a full counter or out of memory.
use Rattle.std.specs.Prelude.{◌≡◌, ◌⊎◌, ℕ, ◌+◌, Bool, true, false, List, [], ◌∷◌, ◌++◌, map, Option, Some, None, Ok, Err, unwrap_or}
use Rattle.std.specs.List.{Contains, flat_map}
use Rattle.ga_agents.specs.declared.row.Rule.{Rule}
use Rattle.ga_base.specs.declared.counts.Counter.{Counter}
use Rattle.ga_base.specs.declared.counts.Counter.TheVariants.{Generations}
use Rattle.ga_base.specs.declared.counts.TheConstants.{LIMIT}
use Rattle.ga_base.specs.declared.entry.Entry.{Entry}
use Rattle.ga_codec.specs.Values.{EntryValue, entry_value}
use Rattle.ga_disk.specs.MemDisk.{AreImages, bytes_of, states}
use Rattle.ga_disk.specs.Sides.{Sides}
use Rattle.ga_keep.specs.RunDatabase.{SidesHave, differing, follow_of, lacks_generation, uses_database}
use Rattle.ga_line.specs.declared.setup.LineSetup.{LineSetup}
use Rattle.ga_logs.specs.Following.{AreTold}
use Rattle.ga_logs.specs.Portions.{counted_lines}
use Rattle.ga_logs.specs.declared.portion.Portion.{Portion}
use Rattle.ga_outcomes.specs.LineOutcomes.{HaveOutcomes}
use Rattle.ga_ports.specs.MemFiles.{FilesState, files_view, only_these}
use Rattle.ga_ports.specs.MemOuts.{outs_view}
use Rattle.ga_ports.specs.Outs.{OutsView, target}
use Rattle.ga_counters.specs.Counts.{Rose}
use Rattle.ga_store.specs.Commit.{IsLater}
use Rattle.ga_store.specs.Database.{DbOf, DbValue}
use Rattle.ga_store.specs.Database.Reading.{stored as reads_as}
use Rattle.ga_summary.specs.LastDays.{trimmed}
use Rattle.ga_summary.specs.Outcomes.{Outcome}
use Rattle.ga_summary.specs.Sound.{IsSummary}
use Rattle.ga_summary.specs.SummaryRows.{SummaryValue}
use Rattle.ga_summary.specs.Sums.{IsSumOf}
use Rattle.ga_words.specs.declared.settings.Settings.{Settings}
use Rattle.ga_one_run.specs.Configured.{ConfIsTold, HasBadConf, SayOver}
use Rattle.ga_one_run.specs.Printing.{but_errors, delivered, report_file}
use Rattle.ga_one_run.specs.Reports.{IsTextOf}
use Rattle.ga_one_run.specs.Run.{HaveRefused}
use Rattle.ga_one_run.specs.Setups.{IsLineSetup, setup_of}
use Rattle.ga_one_run.specs.Told.{HasBadLine, FillsTold, RulesAreTold}
use Rattle.ga_one_run.specs.declared.status.Status.{Status}
use Rattle.ga_one_run.specs.declared.status.Status.TheVariants.{Done, BadWords, BadConf, BadFormat, BadRules, FileFault, FileShort, DiskFault, DbDamaged, KeepDiffers, OutFault, CounterFull, NoMemory}
use Rattle.ga_run.specs.History.{History, IsBlank}
use Rattle.ga_run.specs.History.History.{no_step, step_then}
use Rattle.ga_run.specs.Parts.{ArePartsOf, AreToldApart, EachOnce, Part}
use Rattle.ga_run.specs.declared.history.Step.{Step}
use Rattle.ga_run.specs.declared.history.Step.TheVariants.{Grow, Rename, Run, Crash}
use Rattle.ga_run.specs.declared.history.World.{World}

-- ---- a tracked run: it goes on from what is stored, and is kept

abbrev pub IsTracked : Settings → Type 0
IsTracked s = (s.restore ≡ true) × (s.persist ≡ true)

-- ---- only-appended logs: each stays at its place, under any name, and grows at its end alone; others may come after them

abbrev pub OnlyAppended : List (List ℕ × List ℕ) → List (List ℕ × List ℕ) → Type 0
OnlyAppended [] later = Unit {0}
OnlyAppended (log ∷ logs) [] = ⊥
OnlyAppended (log ∷ logs) (now ∷ later) = ((more : List ℕ) × (now.1 ≡ log.1 ++ more)) × OnlyAppended logs later

-- ---- the kept runs

-- a run: the outcomes of the lines that it counted, the parts of logs that these are, the entries after it, how many days it keeps,
-- and how it ended
pub record RunCount : Type 0 where
  pub outcomes : List Outcome
  pub parts : List Part
  pub entries : List EntryValue
  -- 0 for all days
  pub keep : ℕ
  pub status : Status

-- the runs in the database, and the lists that stood there before each of them was added, the latest first
pub record Kept : Type 0 where
  pub runs : List RunCount
  pub earlier : List (List RunCount)

-- before the first run
abbrev pub none_kept : Kept
none_kept = record { runs = []; earlier = [] }

-- a run that restores is added at the end; one that doesn't is the whole list
abbrev pub with_run : Bool → RunCount → List RunCount → List RunCount
with_run true run runs = runs ++ run ∷ []
with_run false run runs = run ∷ []

-- ---- the lines up to the ends that were read

-- the lines that a run counts, over what the files hold and from where these entries lead, each line read as the run's settings
-- say
pub record IsRunCount (line : LineSetup) (s : Settings) (files : FilesState) (from : List EntryValue) (run : RunCount)
    : Type 0 where
  pub rules : List Rule
  pub has_rules : RulesAreTold s.browsers_file (files_view files) rules
  pub begun : List Entry
  pub begin : map entry_value begun ≡ from
  pub ended : List Entry
  pub portions : List Portion
  pub told : AreTold (follow_of s) (Some (only_these files.contents)) s.logs begun ended portions
  pub parts : ArePartsOf (follow_of s) files.contents s.logs portions run.parts
  pub have : HaveOutcomes (setup_of line s rules) (counted_lines s.generate (follow_of s) portions) run.outcomes
  pub end : run.entries ≡ map entry_value ended
  pub keep_is : run.keep ≡ s.keep

-- the outcomes of all lines that these runs counted
abbrev pub outcomes_of : List RunCount → List Outcome
outcomes_of runs = flat_map (λ run. run.outcomes) runs

-- the entries after these runs, from those before them on
abbrev pub entries_after : List EntryValue → List RunCount → List EntryValue
entries_after entries [] = entries
entries_after entries (run ∷ runs) = entries_after run.entries runs

-- how many days the last of these runs keeps, or the database before them where there are none
abbrev pub number_after : Option ℕ → List RunCount → Option ℕ
number_after number [] = number
number_after number (run ∷ runs) = number_after (Some run.keep) runs

-- what a run finds of them, where it restores
abbrev pub found_outcomes : Bool → List RunCount → List Outcome
found_outcomes true runs = outcomes_of runs
found_outcomes false runs = []

abbrev pub found_entries : Bool → List RunCount → List EntryValue
found_entries true runs = entries_after [] runs
found_entries false runs = []

-- ---- each once: see specs/Parts.antt

-- the parts of all logs that these runs counted
abbrev pub all_parts : List RunCount → List Part
all_parts runs = flat_map (λ run. run.parts) runs

-- ---- kept days: the last days of a sum, see `trimmed` in ga_summary's specs/LastDays.antt

-- ---- prints exactly

-- the report's target took the text that shows the kept days of the sum of these outcomes, and no target took anything else
pub record PrintsExactly (s : Settings) (outcomes : List Outcome) (old new : OutsView) : Type 0 where
  pub sum : SummaryValue
  pub is_sum : IsSumOf outcomes sum
  pub text : List ℕ
  pub shown : IsTextOf s (trimmed s.keep sum) text
  pub printed : new ≡ but_errors new (delivered (report_file s.generate s.output.name) text old)
  pub quiet : new.stderr ≡ old.stderr

-- a run that was done counted these lines of its own, and printed the report on what it found and on them
pub record IsDone (line : LineSetup) (s : Settings) (kept : List RunCount) (old new : World) : Type 0 where
  pub run : RunCount
  pub counts : IsRunCount line s old.files (found_entries s.restore kept) run
  pub prints : PrintsExactly s (found_outcomes s.restore kept ++ run.outcomes) (outs_view old.outs) (outs_view new.outs)

-- ---- recovery gives whole runs

-- the database of kept runs: the last days of the sum of all their outcomes, as many as the last of them keeps, and the entries
-- after that
pub record HasRuns (runs : List RunCount) (db : DbValue) : Type 0 where
  pub sum : SummaryValue
  pub is_sum : IsSumOf (outcomes_of runs) sum
  pub is_summary : IsSummary sum
  pub summary : db.summary ≡ trimmed (unwrap_or (number_after None runs) 0) sum
  pub number : db.keep ≡ number_after None runs
  pub entries : db.entries ≡ entries_after [] runs

-- ---- acknowledged

-- a run that persists is acknowledged where it is done, or its report alone failed
abbrev pub IsAcknowledged : Status → Type 0
IsAcknowledged Done = Unit {0}
IsAcknowledged (OutFault to at) = Unit {0}
IsAcknowledged _ = ⊥

-- an image has the runs that stood before the last one was added, which isn't acknowledged
pub record LacksLast (kept : Kept) (db : DbValue) (image : Sides) : Type 0 where
  pub restores : Bool
  pub run : RunCount
  pub before : List RunCount
  pub earlier : List (List RunCount)
  pub is : kept ≡ record { runs = with_run restores run before; earlier = before ∷ earlier }
  pub unsure : ¬ IsAcknowledged run.status
  pub had : DbValue
  pub has : HasRuns before had
  pub rises : IsLater had db
  pub reads : DbOf image (reads_as had)

-- the disk has the kept runs: as it reads, and in each image that a crash may leave now, unless that lacks the last
pub record Holds (kept : Kept) (db : DbValue) (world : World) : Type 0 where
  pub reads : DbOf (bytes_of (states world.disk)) (reads_as db)
  pub has : HasRuns kept.runs db
  pub images : (image : Sides) → AreImages (states world.disk) image → DbOf image (reads_as db) ⊎ LacksLast kept db image

-- ---- how the kept runs change, told by the generation and the records of the database before and after a step

-- the words of a step that is a run
abbrev pub words_of : Step → Option (List (List ℕ))
words_of (Grow name bytes) = None
words_of (Rename from to) = None
words_of (Run words) = Some words
words_of (Crash words calls pick) = Some words

-- a run with these words and settings persists, and this is how it is kept
pub record IsKeptAs (words : List (List ℕ)) (s : Settings) (files : FilesState) (kept : List RunCount) (run : RunCount)
    : Type 0 where
  pub says : SayOver words (files_view files) (Ok s)
  pub line : LineSetup
  pub means : IsLineSetup s line
  pub persists : s.persist ≡ true
  pub counts : IsRunCount line s files (found_entries s.restore kept) run

pub data Changes (step : Step) (status : Option Status) (old : World) (db db' : DbValue) : Kept → Kept → Type 0 where
  -- a later database has the run of this step
  adds : {kept : Kept} (words : List (List ℕ)) (s : Settings) (run : RunCount) → IsLater db db' → words_of step ≡ Some words
      → status ≡ Some run.status → IsKeptAs words s old.files kept.runs run
      → Changes step status old db db' kept
      (record { runs = with_run s.restore run kept.runs; earlier = kept.runs ∷ kept.earlier })
  -- the same one has the same runs
  stays : {kept : Kept} → db'.generation ≡ db.generation → db'.records ≡ db.records
      → Changes step status old db db' kept kept
  -- an earlier one, which only a crash leaves, has those that stood before the last run was added; that wasn't acknowledged
  falls : (restores : Bool) (run : RunCount) (before : List RunCount) (earlier : List (List RunCount)) → IsLater db' db
      → ¬ IsAcknowledged run.status
      → Changes step status old db db' (record { runs = with_run restores run before; earlier = before ∷ earlier })
      (record { runs = before; earlier = earlier })

-- the run of this step persists and doesn't restore, and took the place of all others
abbrev pub Overwrites : Step → FilesState → List RunCount → Type 0
Overwrites step files runs = (words : List (List ℕ)) × (s : Settings) × (run : RunCount) × (words_of step ≡ Some words)
    × SayOver words (files_view files) (Ok s) × (s.persist ≡ true) × (s.restore ≡ false) × (runs ≡ run ∷ [])

-- an acknowledged run stays among the kept ones, or is overwritten
abbrev pub AcknowledgedStay : Step → FilesState → List RunCount → List RunCount → Type 0
AcknowledgedStay step files runs runs' = (run : RunCount) → Contains runs run → IsAcknowledged run.status
    → Contains runs' run ⊎ Overwrites step files runs'

-- ---- fails only by

-- the lines of a run fill a counter, or it would need a generation above the limit
abbrev pub IsFull : LineSetup → Settings → World → Counter → ℕ → Type 0
IsFull line s old which total = (stored : DbValue) × SidesHave s (bytes_of (states old.disk)) stored
    × (((rules : List Rule) × RulesAreTold s.browsers_file (files_view old.files) rules
    × FillsTold line s rules stored (files_view old.files) which total)
    ⊎ ((lacks_generation s stored ≡ true) × (which ≡ Generations) × (total ≡ LIMIT + 1)))

abbrev pub FailsOnlyBy : List (List ℕ) → World → World → Status → Type 0
FailsOnlyBy words old new Done = Unit {0}
FailsOnlyBy words old new (BadWords fault) = SayOver words (files_view old.files) (Err fault)
FailsOnlyBy words old new (BadConf line) = HasBadConf words (files_view old.files) line
FailsOnlyBy words old new (BadFormat which fault) =
    (conf : List (List ℕ)) × ConfIsTold words (files_view old.files) conf × HaveRefused conf words which fault
FailsOnlyBy words old new (BadRules at) = (s : Settings) × SayOver words (files_view old.files) (Ok s) × HasBadLine s (files_view old.files) at
-- a call of the files failed
FailsOnlyBy words old new (FileFault file) = Rose old.files.counts.faults new.files.counts.faults
-- files whose contents are told never give less than their size
FailsOnlyBy words old new (FileShort file at) = ⊥
-- a call of the disk failed, which the run used
FailsOnlyBy words old new DiskFault =
    ((s : Settings) × SayOver words (files_view old.files) (Ok s) × (uses_database s ≡ true)) × Rose old.disk.counts.faults new.disk.counts.faults
-- a database never breaks
FailsOnlyBy words old new (DbDamaged side at) = ⊥
-- the database keeps another number of days than the run, which restores it
FailsOnlyBy words old new (KeepDiffers number given) = (s : Settings) × SayOver words (files_view old.files) (Ok s) × (given ≡ s.keep)
    × ((stored : DbValue) × SidesHave s (bytes_of (states old.disk)) stored × (differing s stored ≡ Some number))
-- a call of the report's target failed
FailsOnlyBy words old new (OutFault to at) =
    Rose (target to (outs_view old.outs)).faults (target to (outs_view new.outs)).faults
FailsOnlyBy words old new (CounterFull which total) =
    (s : Settings) × (line : LineSetup) × SayOver words (files_view old.files) (Ok s) × IsLineSetup s line × IsFull line s old which total
FailsOnlyBy words old new NoMemory = Unit {0}

-- ---- the promise

-- of a run, from the kept runs before it to those after it
pub record RunKeeps (words : List (List ℕ)) (status : Status) (old new : World) (kept kept' : Kept) : Type 0 where
  -- a run that is done printed the report on what it found and on its own lines
  pub done : (s : Settings) → SayOver words (files_view old.files) (Ok s) → status ≡ Done
      → (line : LineSetup) × IsLineSetup s line × IsDone line s kept.runs old new
  -- a tracked run that is done printed exactly the report on all lines of the kept runs, it being the last of them
  pub tracked : (s : Settings) → SayOver words (files_view old.files) (Ok s) → IsTracked s → status ≡ Done
      → PrintsExactly s (outcomes_of kept'.runs) (outs_view old.outs) (outs_view new.outs)
  -- an acknowledged run is kept
  pub acknowledged : (s : Settings) → SayOver words (files_view old.files) (Ok s) → s.persist ≡ true → IsAcknowledged status
      → (run : RunCount) × (run.status ≡ status) × IsKeptAs words s old.files kept.runs run
      × (kept'.runs ≡ with_run s.restore run kept.runs)
  pub fails : FailsOnlyBy words old new status

abbrev pub IfRun : Step → Option Status → (List (List ℕ) → Status → Type 0) → Type 0
IfRun (Run words) (Some status) P = P words status
IfRun (Crash words calls pick) (Some status) P = P words status
IfRun _ _ P = Unit {0}

-- of one step
pub record StepKeeps (step : Step) (status : Option Status) (old new : World) (kept kept' : Kept) : Type 0 where
  pub appended : OnlyAppended old.files.contents new.files.contents
  pub db : DbValue
  pub held : Holds kept db old
  pub db' : DbValue
  pub holds : Holds kept' db' new
  pub changes : Changes step status old db db' kept kept'
  pub stay : AcknowledgedStay step old.files kept.runs kept'.runs
  -- each byte of the logs was counted once, where digests tell the logs apart
  pub once : AreToldApart new.files.contents (all_parts kept'.runs) → EachOnce new.files.contents (all_parts kept'.runs)
  pub run : IfRun step status (λ words ended. RunKeeps words ended old new kept kept')

-- of each step of a list, from these kept runs on
abbrev pub KeepsAll : {steps : List Step} {statuses : List Status} {old new : World} → History steps statuses old new → Kept
    → Type 0
KeepsAll no_step kept = Unit {0}
KeepsAll (step_then {step = step} {old = old} {mid = mid} status made later) kept =
    (kept' : Kept) × StepKeeps step status old mid kept kept' × KeepsAll later kept'

-- of every list of steps in a world in which nothing stood before
abbrev pub Headline : List Step → List Status → World → World → Type 0
Headline steps statuses old new = IsBlank old → (history : History steps statuses old new) → KeepsAll history none_kept

-- steps were made so, and each of them keeps it
abbrev pub MeetsHeadline : List Step → List Status → World → World → Type 0
MeetsHeadline steps statuses old new = (history : History steps statuses old new) × KeepsAll history none_kept
