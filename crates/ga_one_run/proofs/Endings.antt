-- What follows from how a run ended, status by status.
use Rattle.std.proofs.Common.{◌≡◌, ◌≢◌, ◌⊎◌, ℕ, zero, suc, ◌+◌, ◌≤◌, List, [], ◌∷◌, ◌++◌, refl, ap, sym, ◌∙◌, subst, inl, inr, arith, true, Option, Some, None, length, Ok}
use Rattle.std.proofs.lemmas.Bool.{false≢true}
use Rattle.std.specs.List.{AllByRecursion}
use Rattle.std.specs.Option.{unwrap_or}
use Rattle.std.specs.Prelude.{slice_get}
use Rattle.ga_agents.specs.declared.row.Rule.{Rule}
use Rattle.ga_base.specs.declared.entry.Entry.{Entry}
use Rattle.ga_disk.specs.Disk.{DiskView}
use Rattle.ga_disk.specs.Images.{Images}
use Rattle.ga_line.specs.declared.setup.LineSetup.{LineSetup}
use Rattle.ga_logs.specs.Following.{CanServe, MissesAt, ReadsAll, ReadsPortion}
use Rattle.ga_logs.specs.Following.MissesAt.{misses_first, misses_later}
use Rattle.ga_logs.specs.Following.ReadsAll.{read_all, read_then}
use Rattle.ga_resume.specs.declared.follow.Follow.{Follow}
use Rattle.ga_logs.specs.declared.portion.Portion.{Portion}
use Rattle.ga_counters.specs.Counts.{Rose, raised}
use Rattle.ga_ports.specs.Files.{FilesView, told, is_absent}
use Rattle.ga_ports.specs.Outs.{OutsView, TargetView, target}
use Rattle.ga_ports.specs.declared.file_counts.FileCounts.{FileCounts}
use Rattle.ga_ports.specs.declared.outs.To.{To}
use Rattle.ga_resume.specs.declared.fault.PlaceFault.{PlaceFault}
use Rattle.ga_resume.specs.declared.fault.PlaceFault.TheVariants.{FileFault as PlaceFailed, FileShort as PlaceShort}
use Rattle.ga_words.specs.Joined.{JoinedOf}
use Rattle.ga_words.specs.declared.settings.Settings.{Settings}
use Rattle.ga_one_run.specs.Course.{ReachesReport, HasRules}
use Rattle.ga_one_run.specs.Ends.{AreFollowed, Ends, HasReport, MissesInput, SaysOnly, StopsPrinting}
use Rattle.ga_one_run.specs.Inputs.{inputs_of, place_of, rules_file}
use Rattle.ga_targets.specs.Printing.{OutputCanTake, Stops, TakesOrStops}
use Rattle.ga_one_run.specs.Printing.{FailsWriting, but_errors, delivered, report_file, stopped, target_of, unmade}
use Rattle.ga_one_run.specs.Run.{DiskServed, EndsBefore, FilesServed, HasGoodInput, OutputServed, SameFaults, faults_after}
use Rattle.ga_one_run.specs.Statuses.{NamesFailed, NamesInput}
use Rattle.ga_one_run.specs.Steps.Run.{EndsEarly, EndsRun, failed_name, input_name}
use Rattle.ga_one_run.specs.Outside.{Outside, outside_of as outside}
use Rattle.ga_one_run.specs.declared.status.Input.{Input}
use Rattle.ga_one_run.specs.declared.status.Input.TheVariants.{Conf, Rules, Log}
use Rattle.ga_one_run.specs.declared.status.Status.{Status}
use Rattle.ga_one_run.specs.declared.status.Status.TheVariants.{Done, BadWords, BadConf, BadFormat, BadRules, FileFault, FileShort, DiskFault, DbDamaged, KeepDiffers, OutFault, CounterFull, NoMemory}
use Rattle.ga_one_run.proofs.DiskFaults.{found-faults}
use Rattle.ga_targets.proofs.Takes.{takes-nil}
use Rattle.ga_one_run.proofs.Telling.{kept-rules}

none-some : {A : Type 0} {a : A} → None ≡ Some a → ⊥
none-some e = cc

some-same : {A : Type 0} {a b : A} → Some a ≡ Some b → a ≡ b
some-same e = cc

-- ---- the fault line

-- what a view was but for standard error, it is after more was written there
pub along : (v mid new : OutsView) → new ≡ but_errors new mid → mid ≡ but_errors mid v → new ≡ but_errors new v
along v mid new changed e = changed ∙ ap (but_errors new) e

rose-after : (a b c : ℕ) → Rose a b → b ≤ c → Rose a c
rose-after a b c h le = omega arith

fails-after : (file : Option (List ℕ)) (text : List ℕ) (at : ℕ) (outs mid outs' : OutsView) → outs' ≡ but_errors outs' mid → FailsWriting file text at outs mid → FailsWriting file text at outs outs'
fails-after file text at outs mid outs' changed (inl (named, none, is)) = inl (named, none, along (unmade outs) mid outs' changed is)
fails-after file text at outs mid outs' changed (inr (early, is)) = inr (early, along (stopped file text at outs) mid outs' changed is)

-- how a run ended stands once the fault line is written
module _ (line : LineSetup) (s : Settings) (old : Outside) (f : FilesView) (d : DiskView) (i : Images) (mid outs : OutsView) (changed : outs ≡ but_errors outs mid) (more : mid.starved ≤ outs.starved) where
  abbrev has-written : HasReport line s old (outside f d i mid) → HasReport line s old (outside f d i outs)
  has-written h = record { found = h.found; come = h.come; text = h.text; report = h.report; kept = h.kept }

  misses-written : (file : Input) (fault : PlaceFault) → MissesInput line s old (outside f d i mid) file fault → MissesInput line s old (outside f d i outs) file fault
  misses-written Conf fault h = absurd h
  misses-written Rules fault h = h
  misses-written (Log place) fault h = record { mid = h.mid; begun = h.begun; misses = h.misses }

  says : SaysOnly old (outside f d i mid) → SaysOnly old (outside f d i outs)
  says h = along old.outs mid outs changed h

  pub written : (status : Status) → Ends line s old (outside f d i mid) status → Ends line s old (outside f d i outs) status
  written Done h = record { has = has-written h.has; printed = along (delivered (report_file s.generate s.output.name) h.has.text old.outs) mid outs changed h.printed }
  written (BadWords fault) h = absurd h
  written (BadConf at) h = absurd h
  written (BadFormat which fault) h = absurd h
  written (BadRules at) (h, quiet) = (record { name = h.name; named = h.named; text = h.text; read = h.read; bad = h.bad; disk = h.disk }, says quiet)
  written (FileFault file) (h, quiet) = (record { misses = misses-written file PlaceFailed h.misses; unsure = h.unsure }, says quiet)
  written (FileShort file at) (h, quiet) = (misses-written file (PlaceShort at) h, says quiet)
  written DiskFault (inl h, quiet) = (inl (record { rules = h.rules; has_rules = h.has_rules; misses = h.misses }), says quiet)
  written DiskFault (inr h, quiet) = (inr (record { found = h.found; come = h.come; persists = h.persists; fails = h.fails }), says quiet)
  written (DbDamaged side at) (h, quiet) = (record { rules = h.rules; has_rules = h.has_rules; misses = h.misses }, says quiet)
  written (KeepDiffers number given) (h, quiet) = (record { rules = h.rules; has_rules = h.has_rules; stored = h.stored; finds = h.finds; differs = h.differs; given_is = h.given_is }, says quiet)
  written (OutFault to at) h = record {
    target_is = h.target_is;
    has = has-written h.has;
    stops = fails-after (report_file s.generate s.output.name) h.has.text at old.outs mid outs changed h.stops;
    unsure = λ can. rose-after old.outs.starved mid.starved outs.starved (h.unsure can) more;
  }
  written (CounterFull which total) (inl h, quiet) = (inl (record { mid = h.mid; begun = h.begun; portions = h.portions; read = h.read; fills = h.fills }), says quiet)
  written (CounterFull which total) (inr h, quiet) = (inr (record { come = h.come; moments = h.moments; lacks = h.lacks; counter = h.counter; value = h.value }), says quiet)
  written NoMemory (looks, quiet) = (looks, says quiet)

  -- the entries are the same
  pub followed-written : (status : Status) (h : Ends line s old (outside f d i mid) status) (entries : List Entry) → AreFollowed line s old (outside f d i mid) status h entries
      → AreFollowed line s old (outside f d i outs) status (written status h) entries
  unfolding written misses-written
  followed-written Done h entries e = e
  followed-written (BadWords fault) h entries e = absurd h
  followed-written (BadConf at) h entries e = absurd h
  followed-written (BadFormat which fault) h entries e = absurd h
  followed-written (BadRules at) h entries e = absurd e
  followed-written (FileFault Conf) h entries e = absurd e
  followed-written (FileFault Rules) h entries e = absurd e
  followed-written (FileFault (Log place)) h entries e = e
  followed-written (FileShort Conf at) h entries e = absurd e
  followed-written (FileShort Rules at) h entries e = absurd e
  followed-written (FileShort (Log place) at) h entries e = e
  followed-written DiskFault (inl h, quiet) entries e = absurd e
  followed-written DiskFault (inr h, quiet) entries e = e
  followed-written (DbDamaged side at) h entries e = absurd e
  followed-written (KeepDiffers number given) h entries e = absurd e
  followed-written (OutFault to at) h entries e = e
  followed-written (CounterFull which total) (inl h, quiet) entries e = e
  followed-written (CounterFull which total) (inr h, quiet) entries e = e
  followed-written NoMemory h entries e = e

-- ---- what served

-- a count that was raised rose
rose-at : (old new : ℕ) → new ≡ raised old 1 → Rose old new
rose-at old new e = let h : Rose old (raised old 1) = omega arith in subst (λ (n : ℕ). Rose old n) (sym e) h

-- a target that stopped counted a fault
pub stops-rose : (at : ℕ) (bytes : List ℕ) (old new : TargetView) → Stops at bytes old new → Rose old.faults new.faults
stops-rose at bytes old new h = rose-at old.faults new.faults (ap (λ (t : TargetView). t.faults) h.front)

-- so did the target of a report that wasn't delivered
fails-rose : (file : Option (List ℕ)) (text : List ℕ) (at : ℕ) (old new : OutsView) → FailsWriting file text at old new
    → Rose (target (target_of file) old).faults (target (target_of file) new).faults
fails-rose None text at old new (inl (named, none, is)) = absurd (named refl)
fails-rose None text at old new (inr (early, is)) = rose-at old.stdout.faults new.stdout.faults (ap (λ (v : OutsView). v.stdout.faults) is)
fails-rose (Some name) text at old new (inl (named, none, is)) = rose-at old.file.faults new.file.faults (ap (λ (v : OutsView). v.file.faults) is)
fails-rose (Some name) text at old new (inr (early, is)) = rose-at old.file.faults new.file.faults (ap (λ (v : OutsView). v.file.faults) is)

-- reading a log changes no content
kept-one : {follow : Follow} {entries : List Entry} {name : List ℕ} {a b : FilesView} {portion : Portion} → ReadsPortion follow entries name a b portion → b.contents ≡ a.contents
kept-one h = ap (λ (v : FilesView). v.contents) h.asks.others

-- only contents that aren't told fall short
miss-untold : {follow : Follow} {names : List (List ℕ)} {entries : List Entry} {place at : ℕ} {a b : FilesView} {portions : List Portion} → MissesAt follow names entries place a b portions (PlaceShort at) → a.contents ≡ None
miss-untold (misses_first misses) = misses.cause.2
miss-untold (misses_later reads follows rest) = sym (kept-one reads) ∙ miss-untold rest

short-untold : (line : LineSetup) (s : Settings) (old new : Outside) (file : Input) (at : ℕ) → MissesInput line s old new file (PlaceShort at) → old.files.contents ≡ None
short-untold line s old new Conf at h = absurd h
short-untold line s old new Rules at (name, named, misses, left) = misses.cause.2
short-untold line s old new (Log place) at h =
    sym (kept-rules s.browsers_file old.files h.mid h.begun.rules h.begun.has_rules) ∙ miss-untold h.misses.misses

-- some log stands where one was missed
miss-name : {follow : Follow} {names : List (List ℕ)} {entries : List Entry} {place : ℕ} {a b : FilesView} {portions : List Portion} {fault : PlaceFault} → MissesAt follow names entries place a b portions fault
    → (name : List ℕ) × (slice_get names place ≡ Some name)
miss-name (misses_first {name} misses) = (name, refl)
miss-name (misses_later reads follows rest) = miss-name rest

behind : (file : Option (List ℕ)) (logs : List (List ℕ)) (place : ℕ) → slice_get (rules_file file ++ logs) (length (rules_file file) + place) ≡ slice_get logs place
behind None logs place = ap (slice_get logs) (let e : 0 + place ≡ place = omega arith in e)
behind (Some name) logs place = ap (slice_get (name ∷ logs)) (let e : 1 + place ≡ suc place = omega arith in e)

some-input : (line : LineSetup) (s : Settings) (old new : Outside) (file : Input) (fault : PlaceFault) → MissesInput line s old new file fault → (name : List ℕ) × (slice_get (inputs_of s) (place_of s file) ≡ Some name)
some-input line s old new Conf fault h = absurd h
some-input line s old new Rules fault (name, named, misses, left) = (name, ap (λ o. slice_get (rules_file o ++ s.logs) 0) named)
some-input line s old new (Log place) fault h = let found = miss-name h.misses.misses in (found.0, behind s.browsers_file s.logs place ∙ found.1)

there : (files : FilesView) (names : List (List ℕ)) (place : ℕ) (name : List ℕ) → AllByRecursion (λ n. told n files.contents ≢ None) names → slice_get names place ≡ Some name
    → told name files.contents ≡ None → ⊥
there files [] place name all stands gone = none-some stands
there files (n ∷ names) zero name all stands gone = all.0 (ap (λ m. told m files.contents) (some-same stands) ∙ gone)
there files (n ∷ names) (suc place) name all stands gone = there files names place name all.1 stands gone

failed-not : (s : Settings) (old new : Outside) → ¬ CanServe (inputs_of s) old.files → new.files.counts.faults ≡ raised old.files.counts.faults 1 → FilesServed s old new → ⊥
failed-not s old new unsure counted (inl can) = unsure can
failed-not s old new unsure counted (inr still) = still.0 (rose-at _ _ counted)

short-not : (line : LineSetup) (s : Settings) (old new : Outside) (file : Input) (at : ℕ) → MissesInput line s old new file (PlaceShort at) → new.files.counts.shorts ≡ raised old.files.counts.shorts 1 → FilesServed s old new → ⊥
short-not line s old new file at misses counted (inl can) =
    let (name, stands) = some-input line s old new file (PlaceShort at) misses in
    there old.files (inputs_of s) (place_of s file) name can.present stands (ap (told name) (short-untold line s old new file at misses))
short-not line s old new file at misses counted (inr still) = still.1 (rose-at _ _ counted)

stopped-not : (line : LineSetup) (s : Settings) (old new : Outside) (to : To) (at : ℕ) → StopsPrinting line s old new to at → OutputServed line s old new → ⊥
stopped-not line s old new to at h (inl (fits, fed)) =
    fed (h.unsure (subst (λ (t : To). OutputCanTake t (length h.has.text) old.outs) (sym h.target_is) (fits h.has)))
stopped-not line s old new to at h (inr still) = still (fails-rose (report_file s.generate s.output.name) h.has.text at old.outs new.outs h.stops)

pub complete-by : (line : LineSetup) (s : Settings) (old new : Outside) (status : Status) → Ends line s old new status → SameFaults (faults_after status old.files.counts) new.files.counts
    → FilesServed s old new → DiskServed old new → OutputServed line s old new → HasGoodInput status → (status ≡ Done) ⊎ (status ≡ NoMemory)
complete-by line s old new Done ends counted served disk took good = inl refl
complete-by line s old new (BadWords fault) ends counted served disk took good = absurd ends
complete-by line s old new (BadConf at) ends counted served disk took good = absurd ends
complete-by line s old new (BadFormat which fault) ends counted served disk took good = absurd ends
complete-by line s old new (BadRules at) ends counted served disk took good = absurd (good.rules at refl)
complete-by line s old new (FileFault file) ends counted served disk took good = absurd (failed-not s old new ends.0.unsure counted.faults served)
complete-by line s old new (FileShort file at) ends counted served disk took good = absurd (short-not line s old new file at ends.0 counted.shorts served)
complete-by line s old new DiskFault (inl h, quiet) counted served disk took good = absurd (disk (rose-at _ _ h.misses.cause))
complete-by line s old new DiskFault (inr h, quiet) counted served disk took good =
    absurd (disk (rose-at _ _ (h.fails.fault ∙ ap (λ (n : ℕ). raised n 1) (found-faults s old.disk h.found h.come.stored h.come.finds))))
complete-by line s old new (DbDamaged side at) ends counted served disk took good = absurd (good.database side at refl)
complete-by line s old new (KeepDiffers number given) ends counted served disk took good = absurd (good.number number given refl)
complete-by line s old new (OutFault to at) ends counted served disk took good = absurd (stopped-not line s old new to at ends took)
complete-by line s old new (CounterFull which total) ends counted served disk took good = absurd (good.counters which total refl)
complete-by line s old new NoMemory ends counted served disk took good = inr refl

-- ---- files that are told to be absent

present-one : {follow : Follow} {entries : List Entry} {own name : List ℕ} {a b : FilesView} {portion : Portion} → ReadsPortion follow entries own a b portion → Some own ≡ Some name
    → is_absent name a.contents ≡ true → ⊥
present-one {a = a} reads stands gone = false≢true (sym reads.present ∙ ap (λ m. is_absent m a.contents) (some-same stands) ∙ gone)

present-all : {follow : Follow} {names : List (List ℕ)} {entries entries' : List Entry} {a b : FilesView} {portions : List Portion} → ReadsAll follow names entries entries' a b portions
    → (place : ℕ) (name : List ℕ) → slice_get names place ≡ Some name → is_absent name a.contents ≡ true → ⊥
present-all read_all place name stands gone = none-some stands
present-all (read_then reads follows rest) zero name stands gone = present-one reads stands gone
present-all (read_then reads follows rest) (suc place) name stands gone = present-all rest place name stands (ap (is_absent name) (kept-one reads) ∙ gone)

-- no log before the one that was missed is absent
miss-place : {follow : Follow} {names : List (List ℕ)} {entries : List Entry} {at : ℕ} {a b : FilesView} {portions : List Portion} {fault : PlaceFault} → MissesAt follow names entries at a b portions fault
    → (place : ℕ) (name : List ℕ) → slice_get names place ≡ Some name → is_absent name a.contents ≡ true → at ≤ place
miss-place (misses_first misses) place name stands gone = omega arith
miss-place (misses_later reads follows rest) zero name stands gone = absurd (present-one reads stands gone)
miss-place (misses_later reads follows rest) (suc place) name stands gone =
    let later = miss-place rest place name stands (ap (is_absent name) (kept-one reads) ∙ gone) in omega (arith, later)

module _ (line : LineSetup) (s : Settings) (old new : Outside) where
  -- neither is the browsers file, where it was read
  past-rules : (file : Option (List ℕ)) (mid : FilesView) (rules : List Rule) → HasRules file old.files mid rules → (place : ℕ) (name : List ℕ) → slice_get (rules_file file ++ s.logs) place ≡ Some name
      → is_absent name old.files.contents ≡ true
      → (later : ℕ) × (place ≡ length (rules_file file) + later) × (slice_get s.logs later ≡ Some name) × (is_absent name mid.contents ≡ true)
  past-rules None mid rules has place name stands gone = (place, omega arith, stands, ap (λ (v : FilesView). is_absent name v.contents) has.0 ∙ gone)
  past-rules (Some own) mid rules (text, reads, gives) zero name stands gone = absurd (present-one reads stands gone)
  past-rules (Some own) mid rules (text, reads, gives) (suc place) name stands gone = (place, omega arith, stands, ap (is_absent name) (kept-one reads) ∙ gone)

  module _ (place : ℕ) (name : List ℕ) (stands : slice_get (inputs_of s) place ≡ Some name) (gone : is_absent name old.files.contents ≡ true) where
    passed-not : (files' : FilesView) (d d' : DiskView) → ReachesReport line s old.files files' d d' → ⊥
    passed-not files' d d' come =
        let found = past-rules s.browsers_file come.mid come.rules come.has_rules place name stands gone in
        present-all come.counted.read found.0 name found.2 found.3

    at-or-before : (file : Input) → MissesInput line s old new file PlaceFailed → place_of s file ≤ place
    at-or-before Conf misses = absurd misses
    at-or-before Rules misses = omega arith
    at-or-before (Log p) h =
        let found = past-rules s.browsers_file h.mid h.begun.rules h.begun.has_rules place name stands gone in
        let within = miss-place h.misses.misses found.0 name found.2 found.3 in
        let is = found.1 in
        omega (arith, within, is)

    pub absent-by : (status : Status) → Ends line s old new status → EndsBefore s place status
    absent-by Done ends = passed-not new.files old.disk ends.has.found ends.has.come
    absent-by (BadWords fault) ends = tt
    absent-by (BadConf at) ends = tt
    absent-by (BadFormat which fault) ends = tt
    absent-by (BadRules at) ends = tt
    absent-by (FileFault file) ends = at-or-before file ends.0.misses
    absent-by (FileShort file at) ends = false≢true (sym (ap (is_absent name) (short-untold line s old new file at ends.0)) ∙ gone)
    absent-by DiskFault ends = tt
    absent-by (DbDamaged side at) ends = tt
    absent-by (KeepDiffers number given) ends = tt
    absent-by (OutFault to at) ends = passed-not new.files old.disk ends.has.found ends.has.come
    absent-by (CounterFull which total) ends = tt
    absent-by NoMemory ends = tt

-- ---- what is said

-- nothing but standard error changed, where nothing did
pub same-but : (old new : OutsView) → new ≡ old → new ≡ but_errors new old
same-but old new e = subst (λ (v : OutsView). v ≡ but_errors v old) (sym e) refl

pub refused-by : (line : LineSetup) (s : Settings) (old new : Outside) (status : Status) → Ends line s old new status → status ≢ Done → ((to : To) (at : ℕ) → status ≢ OutFault to at) → SaysOnly old new
refused-by line s old new Done ends undone none = absurd (undone refl)
refused-by line s old new (BadWords fault) ends undone none = absurd ends
refused-by line s old new (BadConf at) ends undone none = absurd ends
refused-by line s old new (BadFormat which fault) ends undone none = absurd ends
refused-by line s old new (BadRules at) ends undone none = ends.1
refused-by line s old new (FileFault file) ends undone none = ends.1
refused-by line s old new (FileShort file at) ends undone none = ends.1
refused-by line s old new DiskFault ends undone none = ends.1
refused-by line s old new (DbDamaged side at) ends undone none = ends.1
refused-by line s old new (KeepDiffers number given) ends undone none = ends.1
refused-by line s old new (OutFault to at) ends undone none = absurd (none to at refl)
refused-by line s old new (CounterFull which total) ends undone none = ends.1
refused-by line s old new NoMemory ends undone none = ends.1

-- no byte of an empty line stops
pub nothing-taken : (old new : TargetView) → TakesOrStops [] old new → new ≡ old
nothing-taken old new (inl taken) = taken ∙ takes-nil old
nothing-taken old new (inr (at, stops)) = absurd (omega (arith, stops.early))

some-own : (found : Option (List ℕ)) (name : List ℕ) → found ≡ Some name → found ≡ Some (unwrap_or found [])
some-own found name e = e ∙ sym (ap (λ o. Some (unwrap_or o [])) e)

input-named : (conf words : List (List ℕ)) (line : LineSetup) (s : Settings) → JoinedOf conf words (Ok s) → (old new : Outside) (file : Input) (fault : PlaceFault) → MissesInput line s old new file fault
    → NamesInput conf words file (input_name s file)
input-named conf words line s says old new Conf fault h = absurd h
input-named conf words line s says old new Rules fault (name, named, misses, left) = (s, says, some-own s.browsers_file name named)
input-named conf words line s says old new (Log place) fault h = let found = miss-name h.misses.misses in (s, says, some-own (slice_get s.logs place) found.0 found.1)

-- the name in a fault line is one that the words give
pub named : (conf words : List (List ℕ)) (s : Settings) → JoinedOf conf words (Ok s) → (old new : Outside) (status : Status) → EndsRun s old new status → NamesFailed conf words status (failed_name s status)
named conf words s says old new Done ends = refl
named conf words s says old new (BadWords fault) ends = refl
named conf words s says old new (BadConf at) ends = refl
named conf words s says old new (BadFormat which fault) ends = refl
named conf words s says old new (BadRules at) ends = refl
named conf words s says old new (FileFault file) (inl early) = absurd early.0
named conf words s says old new (FileFault file) (inr (line, is, ended)) = input-named conf words line s says old new file PlaceFailed ended.ends.0.misses
named conf words s says old new (FileShort file at) (inl early) = absurd early.0
named conf words s says old new (FileShort file at) (inr (line, is, ended)) = input-named conf words line s says old new file (PlaceShort at) ended.ends.0
named conf words s says old new DiskFault ends = refl
named conf words s says old new (DbDamaged side at) ends = refl
named conf words s says old new (KeepDiffers number given) ends = refl
named conf words s says old new (OutFault to at) (inl early) = absurd early.0
named conf words s says old new (OutFault to at) (inr (line, is, ended)) = (s, says, ended.ends.target_is, refl)
named conf words s says old new (CounterFull which total) ends = refl
named conf words s says old new NoMemory ends = refl

-- no fault is counted where no file was asked for
pub early-faults : (s : Settings) (counts : FileCounts) (status : Status) → EndsEarly s status → SameFaults (faults_after status counts) counts
early-faults s counts Done h = absurd h
early-faults s counts (BadWords fault) h = absurd h
early-faults s counts (BadConf at) h = absurd h
early-faults s counts (BadFormat which fault) h = record { faults = refl; shorts = refl; short_at = refl }
early-faults s counts (BadRules at) h = absurd h
early-faults s counts (FileFault file) h = absurd h
early-faults s counts (FileShort file at) h = absurd h
early-faults s counts DiskFault h = absurd h
early-faults s counts (DbDamaged side at) h = absurd h
early-faults s counts (KeepDiffers number given) h = absurd h
early-faults s counts (OutFault to at) h = absurd h
early-faults s counts (CounterFull which total) h = absurd h
early-faults s counts NoMemory h = record { faults = refl; shorts = refl; short_at = refl }
