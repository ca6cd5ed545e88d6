-- A run fails for the causes of its status alone.
use Rattle.std.proofs.Common.{◌≡◌, ◌≢◌, ◌⊎◌, ◌||◌, ℕ, Bool, true, List, refl, ap, sym, ◌∙◌, subst, inl, inr, arith, Option, Some, None, Ok}
use Rattle.ga_base.specs.declared.counts.Counter.{Counter}
use Rattle.ga_base.specs.declared.entry.Entry.{Entry}
use Rattle.ga_counters.specs.Counts.{Rose, raised}
use Rattle.ga_disk.specs.MemDisk.{bytes_of, states}
use Rattle.ga_keep.specs.RunDatabase.{SidesHave, differing, uses_database}
use Rattle.ga_agents.specs.declared.row.Rule.{Rule}
use Rattle.ga_line.specs.declared.setup.LineSetup.{LineSetup}
use Rattle.ga_logs.specs.Following.{MissesAt}
use Rattle.ga_logs.specs.Following.MissesAt.{misses_first, misses_later}
use Rattle.ga_resume.specs.declared.follow.Follow.{Follow}
use Rattle.ga_logs.specs.declared.portion.Portion.{Portion}
use Rattle.ga_ports.specs.Files.{FilesView, told}
use Rattle.ga_ports.specs.MemFiles.{files_view}
use Rattle.ga_ports.specs.MemOuts.{outs_view}
use Rattle.ga_ports.specs.Outs.{OutsView, target}
use Rattle.ga_ports.specs.declared.outs.To.{To}
use Rattle.ga_resume.specs.declared.fault.PlaceFault.TheVariants.{FileShort as PlaceShort}
use Rattle.ga_store.specs.Database.{DbValue}
use Rattle.ga_store.specs.Database.Reading.{damaged, stored as reads_as}
use Rattle.ga_store.specs.declared.fault.StoreFault.TheVariants.{DiskFault as StoreFailed}
use Rattle.ga_words.specs.Joined.{JoinedOf}
use Rattle.ga_words.specs.declared.fault.WordFault.{WordFault}
use Rattle.ga_words.specs.declared.settings.Settings.{Settings}
use Rattle.ga_base.specs.declared.formats.FormatFault.{FormatFault}
use Rattle.ga_one_run.specs.Ends.{Ends, FailsAtLast, MissesDatabase, MissesInput, StopsPrinting}
use Rattle.ga_one_run.specs.Printing.{FailsWriting, report_file, target_of}
use Rattle.ga_one_run.specs.Run.{AreRefused, HaveSetup, IsTrouble, NothingWasRead, RunsOver, RunsWords, SameFaults, disk_faults_after, faults_after}
use Rattle.ga_one_run.specs.Configured.{ConfIsTold}
use Rattle.ga_one_run.specs.Setups.{IsLineSetup}
use Rattle.ga_one_run.specs.Told.{Answers, FillsTold, HasBadLine, RulesAreTold, Yield}
use Rattle.ga_one_run.specs.Told.Answers.{answers_rules, answers_damage, answers_differs, answers_full, answers_generation}
use Rattle.ga_one_run.specs.declared.status.Input.{Input}
use Rattle.ga_one_run.specs.declared.status.Input.TheVariants.{Conf, Rules, Log}
use Rattle.ga_one_run.specs.declared.status.Status.{Status}
use Rattle.ga_one_run.specs.declared.status.Status.TheVariants.{Done, BadWords, BadConf, BadFormat, BadRules, FileFault, FileShort, DiskFault, DbDamaged, KeepDiffers, OutFault, CounterFull, NoMemory}
use Rattle.ga_one_run.specs.declared.status.Which.{Which}
use Rattle.ga_one_run.proofs.Telling.{kept-rules}
use Rattle.ga_run.specs.Headline.{FailsOnlyBy, Holds, IsFull, Kept}
use Rattle.ga_run.specs.History.{seen_of}
use Rattle.ga_run.specs.declared.history.World.{World}
use Rattle.ga_run.proofs.Effects.{begun-from, files-begun}
use Rattle.ga_run.proofs.Kept.{Laws}

-- a count that was raised rose
pub rose-at : (old new : ℕ) → new ≡ raised old 1 → Rose old new
rose-at old new e = let h : Rose old (raised old 1) = omega arith in subst (λ (n : ℕ). Rose old n) (sym e) h

-- so did that of the target of a report that wasn't delivered
fails-rose : (file : Option (List ℕ)) (text : List ℕ) (at : ℕ) (old new : OutsView) → FailsWriting file text at old new
    → Rose (target (target_of file) old).faults (target (target_of file) new).faults
fails-rose None text at old new (inl (named, none, is)) = absurd (named refl)
fails-rose None text at old new (inr (early, is)) = rose-at old.stdout.faults new.stdout.faults (ap (λ (v : OutsView). v.stdout.faults) is)
fails-rose (Some name) text at old new (inl (named, none, is)) = rose-at old.file.faults new.file.faults (ap (λ (v : OutsView). v.file.faults) is)
fails-rose (Some name) text at old new (inr (early, is)) = rose-at old.file.faults new.file.faults (ap (λ (v : OutsView). v.file.faults) is)

target-rose : (to other : To) (old new : OutsView) → to ≡ other → Rose (target other old).faults (target other new).faults → Rose (target to old).faults (target to new).faults
target-rose to other old new e rose = subst (λ (t : To). Rose (target t old).faults (target t new).faults) (sym e) rose

-- only contents that aren't told fall short
miss-untold : {follow : Follow} {names : List (List ℕ)} {entries : List Entry} {place at : ℕ} {a b : FilesView} {portions : List Portion} → MissesAt follow names entries place a b portions (PlaceShort at) → a.contents ≡ None
miss-untold (misses_first misses) = misses.cause.2
miss-untold (misses_later reads follows rest) = sym (ap (λ (v : FilesView). v.contents) reads.asks.others) ∙ miss-untold rest

-- files with the same contents tell the same rules
rules-over : (file : Option (List ℕ)) (a c : FilesView) (rules : List Rule) → c.contents ≡ a.contents → RulesAreTold file a rules → RulesAreTold file c rules
rules-over None a c rules same h = h
rules-over (Some name) a c rules same (text, is, gives) = (text, ap (told name) same ∙ is, gives)

bad-line : (line : LineSetup) (s : Settings) (old : World) (read : FilesView) (at : ℕ) (yield : Option Yield) → Answers line s (files-begun old read) (bytes_of (states old.disk)) (BadRules at) yield → HasBadLine s (files_view old.files) at
bad-line line s old read at yield (answers_rules h) = record { name = h.name; named = h.named; text = h.text; told = h.told; bad = h.bad }

fills-over : (line : LineSetup) (s : Settings) (rules : List Rule) (stored : DbValue) (old : World) (read : FilesView) (which : Counter) (total : ℕ)
    → FillsTold line s rules stored (files-begun old read) which total → FillsTold line s rules stored (files_view old.files) which total
fills-over line s rules stored old read which total h = record { entries = h.entries; begin = h.begin; portions = h.portions; told = h.told; fills = h.fills }

is-full : (line : LineSetup) (s : Settings) (old : World) (read : FilesView) (which : Counter) (total : ℕ) (yield : Option Yield) → Answers line s (files-begun old read) (bytes_of (states old.disk)) (CounterFull which total) yield
    → IsFull line s old which total
is-full line s old read which total yield (answers_full rules stored told has agrees fills) =
    (stored, has, inl (rules, rules-over s.browsers_file (files-begun old read) (files_view old.files) rules refl told, fills-over line s rules stored old read which total fills))
is-full line s old read which total yield (answers_generation rules stored whole entries told has agrees counts lacks) = (stored, has, inr (lacks, refl, refl))

other-number : (line : LineSetup) (s : Settings) (old : World) (read : FilesView) (number given : ℕ) (yield : Option Yield) → Answers line s (files-begun old read) (bytes_of (states old.disk)) (KeepDiffers number given) yield
    → (given ≡ s.keep) × ((stored : DbValue) × SidesHave s (bytes_of (states old.disk)) stored × (differing s stored ≡ Some number))
other-number line s old read number given yield (answers_differs rules stored told has differs) = (refl, (stored, has, differs))

module _ (laws : Laws) (kept : Kept) (db : DbValue) (old new : World) (held : Holds kept db old) (read : FilesView) (steady : read.counts.faults ≡ old.files.counts.faults) where
  undamaged : (line : LineSetup) (s : Settings) (side at : ℕ) (yield : Option Yield) → Answers line s (files-begun old read) (bytes_of (states old.disk)) (DbDamaged side at) yield → ⊥
  undamaged line s side at yield (answers_damage rules told uses bad) =
      let e = laws.database (bytes_of (states old.disk)) (damaged side at) (reads_as db) bad held.reads in absurd (cc e)

  not-short : (line : LineSetup) (s : Settings) (file : Input) (at : ℕ) → MissesInput line s (begun-from old read) (seen_of new) file (PlaceShort at) → (files_view old.files).contents ≡ None
  not-short line s Conf at h = absurd h
  not-short line s Rules at (name, named, misses, left) = misses.cause.2
  not-short line s (Log place) at h = sym (kept-rules s.browsers_file (files-begun old read) h.mid h.begun.rules h.begun.has_rules) ∙ miss-untold h.misses.misses

  module _ (words conf : List (List ℕ)) (is_told : ConfIsTold words (files_view old.files) conf) (status : Status) (h : RunsWords conf words (begun-from old read) (seen_of new) status) where
    -- what words said, where they weren't refused and memory didn't run out
    record Said : Type 0 where
      s : Settings
      says : JoinedOf conf words (Ok s)
      line : LineSetup
      means : IsLineSetup s line

    said : status ≢ NoMemory → ((fault : WordFault) → status ≢ BadWords fault) → ((which : Which) (fault : FormatFault) → status ≢ BadFormat which fault) → Said
    said fed words-good formats-good = by h.reads.decided
      where
        by : AreRefused conf words ⊎ HaveSetup conf words ⊎ ((status ≡ NoMemory) × NothingWasRead (begun-from old read) (seen_of new)) → Said
        by (inl (inl (fault, bad))) = absurd (words-good fault ((h.reads.bad_words fault).1 (bad, fed)))
        by (inl (inr (which, fault, bad))) = absurd (formats-good which fault ((h.reads.bad_format which fault).1 (bad, fed)))
        by (inr (inl (s, says, (line, means)))) = record { s = s; says = says; line = line; means = means }
        by (inr (inr (e, nothing))) = absurd (fed e)

    module _ (i : Said) where
      over : RunsOver i.line i.s (begun-from old read) (seen_of new) status
      over = h.runs i.s i.line i.says i.means

      answered : IsTrouble status ⊎ ((yield : Option Yield) × Answers i.line i.s (files-begun old read) (bytes_of (states old.disk)) status yield)
      answered = over.told (bytes_of (states old.disk)) (λ e. cc) (λ uses. refl)

      answered-as : (st : Status) → status ≡ st → ¬ IsTrouble st → (yield : Option Yield) × Answers i.line i.s (files-begun old read) (bytes_of (states old.disk)) st yield
      answered-as st e fine = subst (λ (x : Status). (yield : Option Yield) × Answers i.line i.s (files-begun old read) (bytes_of (states old.disk)) x yield) e (go answered)
        where
          go : IsTrouble status ⊎ ((yield : Option Yield) × Answers i.line i.s (files-begun old read) (bytes_of (states old.disk)) status yield)
              → (yield : Option Yield) × Answers i.line i.s (files-begun old read) (bytes_of (states old.disk)) status yield
          go (inl trouble) = absurd (fine (subst (λ (x : Status). IsTrouble x) e trouble))
          go (inr a) = a

      ends-as : (st : Status) → status ≡ st → Ends i.line i.s (begun-from old read) (seen_of new) st
      ends-as st e = subst (λ (x : Status). Ends i.line i.s (begun-from old read) (seen_of new) x) e over.ends

      used : (MissesDatabase i.s (begun-from old read) (seen_of new) StoreFailed ⊎ FailsAtLast i.line i.s (begun-from old read) (seen_of new)) → uses_database i.s ≡ true
      used (inl misses) = misses.misses.uses
      used (inr fails) = ap (λ (b : Bool). b || i.s.restore) fails.persists

    files-by : (st : Status) → status ≡ st → SameFaults (faults_after st read.counts) new.files.counts
    files-by st e = subst (λ (x : Status). SameFaults (faults_after x read.counts) new.files.counts) e h.faults

    fails-by : (st : Status) → status ≡ st → FailsOnlyBy words old new st
    fails-by Done e = tt
    fails-by (BadWords fault) e = (conf, is_told, ((h.reads.bad_words fault).0 e).0)
    fails-by (BadConf line) e =
        let i = said (λ f. cc) (λ fault f. cc) (λ which fault f. cc) in
        absurd (ends-as i (BadConf line) e)
    fails-by (BadFormat which fault) e = (conf, is_told, ((h.reads.bad_format which fault).0 e).0)
    fails-by (BadRules at) e =
        let i = said (λ f. cc) (λ fault f. cc) (λ which fault f. cc) in
        let a = answered-as i (BadRules at) e (λ t. t) in
        (i.s, (conf, is_told, i.says), bad-line i.line i.s old read at a.0 a.1)
    fails-by (FileFault file) e = rose-at old.files.counts.faults new.files.counts.faults ((files-by (FileFault file) e).faults ∙ ap (λ (n : ℕ). raised n 1) steady)
    fails-by (FileShort file at) e =
        let i = said (λ f. cc) (λ fault f. cc) (λ which fault f. cc) in
        let none = not-short i.line i.s file at (ends-as i (FileShort file at) e).0 in
        absurd (cc none)
    fails-by DiskFault e =
        let i = said (λ f. cc) (λ fault f. cc) (λ which fault f. cc) in
        let raised-once = subst (λ (x : Status). new.disk.counts.faults ≡ disk_faults_after x old.disk.counts.faults) e (over i).disk_faults in
        ((i.s, (conf, is_told, i.says), used i (ends-as i DiskFault e).0), rose-at old.disk.counts.faults new.disk.counts.faults raised-once)
    fails-by (DbDamaged side at) e =
        let i = said (λ f. cc) (λ fault f. cc) (λ which fault f. cc) in
        let a = answered-as i (DbDamaged side at) e (λ t. t) in
        undamaged i.line i.s side at a.0 a.1
    fails-by (KeepDiffers number given) e =
        let i = said (λ f. cc) (λ fault f. cc) (λ which fault f. cc) in
        let a = answered-as i (KeepDiffers number given) e (λ t. t) in
        let other = other-number i.line i.s old read number given a.0 a.1 in
        (i.s, (conf, is_told, i.says), other.0, other.1)
    fails-by (OutFault to at) e =
        let i = said (λ f. cc) (λ fault f. cc) (λ which fault f. cc) in
        let ends : StopsPrinting i.line i.s (begun-from old read) (seen_of new) to at = ends-as i (OutFault to at) e in
        target-rose to (target_of (report_file i.s.generate i.s.output.name)) (outs_view old.outs) (outs_view new.outs) ends.target_is
        (fails-rose (report_file i.s.generate i.s.output.name) ends.has.text at (outs_view old.outs) (outs_view new.outs) ends.stops)
    fails-by (CounterFull which total) e =
        let i = said (λ f. cc) (λ fault f. cc) (λ which fault f. cc) in
        let a = answered-as i (CounterFull which total) e (λ t. t) in
        (i.s, i.line, (conf, is_told, i.says), i.means, is-full i.line i.s old read which total a.0 a.1)
    fails-by NoMemory e = tt

    pub fails-of : FailsOnlyBy words old new status
    fails-of = fails-by status refl
