-- From how a run ended to what it is, once the fault line is written.
use Rattle.std.proofs.Common.{◌≡◌, ◌≢◌, ◌⊎◌, ℕ, ◌≤◌, List, refl, ap, sym, subst, inl, inr, [], Result, Ok, Err}
use Rattle.ga_base.specs.declared.formats.FormatFault.{FormatFault}
use Rattle.ga_disk.specs.Disk.{DiskView}
use Rattle.ga_disk.specs.Images.{Images}
use Rattle.ga_disk.specs.Trace.{DiskTrace}
use Rattle.ga_disk.specs.Trace.DiskTrace.{no_disk_call}
use Rattle.ga_line.specs.declared.setup.LineSetup.{LineSetup}
use Rattle.ga_ports.specs.Files.{FilesView}
use Rattle.ga_ports.specs.Outs.{OutsView, TargetView}
use Rattle.ga_ports.specs.Trace.{FilesTrace, no_files_call, OutsTrace, outs_then}
use Rattle.ga_ports.specs.declared.outs.To.{To}
use Rattle.ga_ports.specs.declared.outs.To.TheVariants.{Stderr}
use Rattle.ga_words.specs.Joined.{JoinedOf}
use Rattle.ga_words.specs.declared.fault.WordFault.{WordFault}
use Rattle.ga_words.specs.declared.fault.WordFault.TheVariants.{UnknownOption, MissingValue, BadValue, NoFormat, NoInput, Conflict, NoMemory as WordNoMemory}
use Rattle.ga_words.specs.declared.settings.Settings.{Settings}
use Rattle.ga_one_run.specs.Ends.{AreFollowed, Ends, SaysOnly}
use Rattle.ga_one_run.specs.Inputs.{WalksInputs}
use Rattle.ga_one_run.specs.Inputs.WalksInputs.{asks_none}
use Rattle.ga_one_run.specs.Leaves.{Leaves}
use Rattle.ga_targets.specs.Printing.{ChangesOnly, TakesOrStops}
use Rattle.ga_one_run.specs.Printing.{but_errors}
use Rattle.ga_one_run.specs.Run.{AreRefused, HaveRefused, RunsWords, NothingWasRead, ReadsWords, RunsOver, SameFaults, faults_after}
use Rattle.ga_one_run.specs.Setups.{IsLineSetup, IsRefused}
use Rattle.ga_one_run.specs.Statuses.{fault_line, NamesFailed}
use Rattle.ga_one_run.specs.Steps.Run.{EndsEarly, EndsInputs, EndsRun, failed_name, status_of_words}
use Rattle.ga_one_run.specs.Steps.Setups.{GivesLineSetup}
use Rattle.ga_one_run.specs.Outside.{Outside, outside_of as outside}
use Rattle.ga_one_run.specs.declared.setups.SetupFault.{SetupFault}
use Rattle.ga_one_run.specs.declared.setups.SetupFault.TheVariants.{Refused}
use Rattle.ga_one_run.specs.declared.status.Status.{Status}
use Rattle.ga_one_run.specs.declared.status.Status.TheVariants.{Done, BadWords, BadConf, BadFormat, BadRules, FileFault, FileShort, DiskFault, DbDamaged, KeepDiffers, OutFault, CounterFull, NoMemory}
use Rattle.ga_one_run.specs.declared.status.Which.{Which}
use Rattle.ga_one_run.proofs.Asking.{walks-as}
use Rattle.ga_one_run.proofs.DiskFaults.{alone-by, disk-faults-by}
use Rattle.ga_one_run.proofs.Endings.{absent-by, along, complete-by, early-faults, followed-written, named, nothing-taken, refused-by, same-but, written}
use Rattle.ga_one_run.proofs.Leaving.{leaves-by, of-untouched, unwritten-by}
use Rattle.ga_one_run.proofs.Moments.{OnlyNow}
use Rattle.ga_one_run.proofs.Telling.{ReadAsTold, answers}

-- what the laws of words and of formats say
abbrev pub OneWords : Type 0
OneWords = (conf words : List (List ℕ)) (a b : Result Settings WordFault) → JoinedOf conf words a → JoinedOf conf words b → a ≡ b

abbrev pub OneOutcome : Type 0
OneOutcome = (s : Settings) (a b : Result LineSetup SetupFault) → GivesLineSetup s a → GivesLineSetup s b → a ≡ b

-- what a status says of the words, and the run over the inputs
record Decides (conf words : List (List ℕ)) (old new : Outside) (status : Status) : Type 0 where
  reads : ReadsWords conf words old new status
  runs : (s : Settings) (line : LineSetup) → JoinedOf conf words (Ok s) → IsLineSetup s line → RunsOver line s old new status

-- the rest of a run, once its fault line is written
assembled : (conf words : List (List ℕ)) (name : List ℕ) (old : Outside) (f : FilesView) (d : DiskView) (i : Images) (mid outs : OutsView) (status : Status) → Decides conf words old (outside f d i outs) status
    → SameFaults (faults_after status old.files.counts) f.counts → mid.stderr ≡ old.outs.stderr
    → (status ≢ Done → ((to : To) (at : ℕ) → status ≢ OutFault to at) → mid ≡ but_errors mid old.outs)
    → NamesFailed conf words status name → TakesOrStops (fault_line name status) mid.stderr outs.stderr → ChangesOnly Stderr mid outs → FilesTrace old.files f → DiskTrace old.disk d
    → OutsTrace old.outs outs → RunsWords conf words old (outside f d i outs) status
assembled conf words name old f d i mid outs status decides counted errors kept names line changed asked touched wrote =
    let told_line : TakesOrStops (fault_line name status) old.outs.stderr outs.stderr =
    subst (λ (t : TargetView). TakesOrStops (fault_line name status) t outs.stderr) errors line in
    record {
      reads = decides.reads;
      runs = decides.runs;
      reports = record {
        refused = λ undone none. along old.outs mid outs changed (kept undone none);
        line = (fault_line name status, record { name = name; names = names; is = refl }, told_line);
        quiet = λ e. nothing-taken old.outs.stderr outs.stderr (subst (λ (s : Status). TakesOrStops (fault_line name s) old.outs.stderr outs.stderr) e told_line);
      };
      faults = counted;
      files_trace = asked;
      disk_trace = touched;
      outs_trace = wrote;
    }

abbrev WordsAnswer : Type 0
WordsAnswer = Result Settings WordFault

abbrev LineAnswer : Type 0
LineAnswer = Result LineSetup SetupFault

ok-same : {s other : Settings} → ◌≡◌ {A = WordsAnswer} (Ok s) (Ok other) → s ≡ other
ok-same e = cc

err-same : {fault other : WordFault} → ◌≡◌ {A = WordsAnswer} (Err fault) (Err other) → fault ≡ other
err-same e = cc

ok-err : {s : Settings} {fault : WordFault} → ◌≡◌ {A = WordsAnswer} (Ok s) (Err fault) → ⊥
ok-err e = cc

line-same : {a b : LineSetup} → ◌≡◌ {A = LineAnswer} (Ok a) (Ok b) → a ≡ b
line-same e = cc

not-set : {line : LineSetup} {fault : SetupFault} → ◌≡◌ {A = LineAnswer} (Ok line) (Err fault) → ⊥
not-set e = cc

fault-same : {fault other : SetupFault} → ◌≡◌ {A = LineAnswer} (Err fault) (Err other) → fault ≡ other
fault-same e = cc

-- refusals of formats as statuses
refusal-same : (which other : Which) (fault found : FormatFault) → Refused which fault ≡ Refused other found → BadFormat which fault ≡ BadFormat other found
refusal-same which other fault found e =
    let a : which ≡ other = cc in
    let b : fault ≡ found = cc in
    cc

refused-along : (s : Settings) (which other : Which) (fault found : FormatFault) → BadFormat which fault ≡ BadFormat other found → IsRefused s which fault → IsRefused s other found
refused-along s which other fault found e h =
    let a : which ≡ other = cc in
    let b : fault ≡ found = cc in
    subst (λ f. IsRefused s other f) b (subst (λ w. IsRefused s w fault) a h)

-- words say one list of settings, and their formats mean one thing
pub one-settings : OneWords → (conf words : List (List ℕ)) (s other : Settings) → JoinedOf conf words (Ok s) → JoinedOf conf words (Ok other) → s ≡ other
one-settings one conf words s other h k = ok-same (one conf words (Ok s) (Ok other) h k)

pub one-setup : OneWords → OneOutcome → (conf words : List (List ℕ)) (s other : Settings) (a b : LineSetup) → JoinedOf conf words (Ok s) → JoinedOf conf words (Ok other) → IsLineSetup s a
    → IsLineSetup other b → (s ≡ other) × (a ≡ b)
one-setup one outcome conf words s other a b h k is of =
    let same = one-settings one conf words s other h k in
    (same, line-same (outcome other (Ok a) (Ok b) (subst (λ t. IsLineSetup t a) same is) of))

module _ (one : OneWords) (outcome : OneOutcome) (conf words : List (List ℕ)) where
  -- the words are refused with this fault
  module _ (fault : WordFault) (bad : JoinedOf conf words (Err fault)) where
    not-said : (s : Settings) → JoinedOf conf words (Ok s) → ⊥
    not-said s h = ok-err (one conf words (Ok s) (Err fault) h bad)

    decides-words : (old new : Outside) → NothingWasRead old new → Decides conf words old new (BadWords fault)
    decides-words old new still = record {
      reads = record {
        bad_words = λ other. (
          λ e. (let same : fault ≡ other = cc in subst (λ f. JoinedOf conf words (Err f)) same bad, λ f. cc),
          λ p. ap BadWords (err-same (one conf words (Err fault) (Err other) bad p.0)),
        );
        bad_format = λ which other. (λ e. absurd (cc e), λ p. absurd (not-said p.0.0 p.0.1));
        untouched = λ h. still;
        unsaid = λ h. still;
        decided = inl (inl (fault, bad));
      };
      runs = λ s line says is. absurd (not-said s says);
    }

  -- the words say settings
  module _ (s : Settings) (says : JoinedOf conf words (Ok s)) where
    not-bad : (fault : WordFault) → JoinedOf conf words (Err fault) → ⊥
    not-bad fault h = ok-err (one conf words (Ok s) (Err fault) says h)

    refused-is : (which : Which) (fault : FormatFault) → HaveRefused conf words which fault → IsRefused s which fault
    refused-is which fault (other, say, refused) = subst (λ t. IsRefused t which fault) (one-settings one conf words other s say says) refused

    line-is : (other : Settings) (line : LineSetup) → JoinedOf conf words (Ok other) → IsLineSetup other line → IsLineSetup s line
    line-is other line h is = subst (λ t. IsLineSetup t line) (one-settings one conf words other s h says) is

    -- a format of them is refused
    decides-refused : (which : Which) (fault : FormatFault) → IsRefused s which fault → (old new : Outside) → NothingWasRead old new → Decides conf words old new (BadFormat which fault)
    decides-refused which fault h old new still =
        let come : GivesLineSetup s (Err (Refused which fault)) = (h, λ e. cc) in
        record {
          reads = record {
            bad_words = λ other. (λ e. absurd (cc e), λ p. absurd (not-bad other p.0));
            bad_format = λ other found. (
              λ e. ((s, says, refused-along s which other fault found e h), λ f. cc),
              λ p. refusal-same which other fault found (fault-same (outcome s (Err (Refused which fault)) (Err (Refused other found)) come (refused-is other found p.0, λ e. cc))),
            );
            untouched = λ r. still;
            unsaid = λ r. still;
            decided = inl (inr (which, fault, (s, says, h)));
          };
          runs = λ other line say is. absurd (not-set (sym (outcome s (Err (Refused which fault)) (Ok line) come (line-is other line say is))));
        }

    -- the run over the inputs, read so
    module _ (line : LineSetup) (is : IsLineSetup s line) (law : ReadAsTold) (old : Outside) (only : OnlyNow old.images) (f : FilesView) (d : DiskView) (i : Images) (mid outs : OutsView) (status : Status)
        (ended : EndsInputs line s old (outside f d i mid) status) (changed : ChangesOnly Stderr mid outs) (more : mid.starved ≤ outs.starved) where
      abbrev ends-now : Ends line s old (outside f d i outs) status
      ends-now = written line s old f d i mid outs changed more status ended.ends

      at : (st : Status) → status ≡ st → Ends line s old (outside f d i outs) st
      at st e = subst (λ (x : Status). Ends line s old (outside f d i outs) x) e ends-now

      leaves-now : Leaves line s old (outside f d i outs) status
      leaves-now = leaves-by line s old (outside f d i outs) only status ends-now

      runs-over : RunsOver line s old (outside f d i outs) status
      runs-over = record {
        ends = ends-now;
        asks = (ended.asks.0, walks-as (followed-written line s old f d i mid outs changed more status ended.ends) ended.asks.1);
        told = λ sides some tells. answers law line s old (outside f d i outs) sides some tells status ends-now;
        absent = λ place name stands gone. absent-by line s old (outside f d i outs) place name stands gone status ends-now;
        complete = complete-by line s old (outside f d i outs) status ends-now ended.faults;
        leaves = leaves-now;
        unwritten = unwritten-by line s old (outside f d i outs) status leaves-now;
        alone = λ none. alone-by line s old (outside f d i outs) none status ends-now;
        disk_faults = disk-faults-by line s old (outside f d i outs) status ends-now;
      }

      come : GivesLineSetup s (Ok line)
      come = is

      decides-inputs : Decides conf words old (outside f d i outs) status
      decides-inputs = record {
        reads = record {
          bad_words = λ fault. (λ e. absurd (at (BadWords fault) e), λ p. absurd (not-bad fault p.0));
          bad_format = λ which fault. (λ e. absurd (at (BadFormat which fault) e), λ p. absurd (not-set (outcome s (Ok line) (Err (Refused which fault)) come (refused-is which fault p.0, λ e. cc))));
          untouched = λ h. absurd (not-either h);
          unsaid = λ h. absurd (h (s, says, (line, is)));
          decided = inr (inl (s, says, (line, is)));
        };
        runs = λ other line' say of.
            let same : s ≡ other = one-settings one conf words s other says say in
            let lines : line ≡ line' = line-same (outcome s (Ok line) (Ok line') come (line-is other line' say of)) in
            subst (λ (t : Settings). RunsOver line' t old (outside f d i outs) status) same (subst (λ (l : LineSetup). RunsOver l s old (outside f d i outs) status) lines runs-over);
      }
        where
          not-either : AreRefused conf words → ⊥
          not-either (inl h) = not-bad h.0 h.1
          not-either (inr (which, fault, h)) = not-set (outcome s (Ok line) (Err (Refused which fault)) come (refused-is which fault h, λ e. cc))

-- memory ran out before any file was asked for
decides-nothing : (conf words : List (List ℕ)) (old new : Outside) → OnlyNow old.images → SaysOnly old new → NothingWasRead old new → Decides conf words old new NoMemory
decides-nothing conf words old new only quiet still = record {
  reads = record {
    bad_words = λ fault. (λ e. absurd (cc e), λ p. absurd (p.1 refl));
    bad_format = λ which fault. (λ e. absurd (cc e), λ p. absurd (p.1 refl));
    untouched = λ h. still;
    unsaid = λ h. still;
    decided = inr (inr (refl, still));
  };
  runs = λ s line say is. record {
    ends = (inl still.disk, quiet);
    asks = (0, subst (λ (f : FilesView). WalksInputs s (AreFollowed line s old new NoMemory (inl still.disk, quiet)) old.files f 0) (sym still.files) asks_none);
    told = λ sides some tells. inl tt;
    absent = λ place name stands gone. tt;
    complete = λ served disk took good. inr refl;
    leaves = inl (of-untouched line s old new only still.disk);
    unwritten = λ not. of-untouched line s old new only still.disk;
    alone = λ none. still.disk.view;
    disk_faults = ap (λ (d : DiskView). d.counts.faults) still.disk.view;
  };
}

module _ (one : OneWords) (outcome : OneOutcome) (law : ReadAsTold) (conf words : List (List ℕ)) where
  decides-early : (s : Settings) → JoinedOf conf words (Ok s) → (old new : Outside) → OnlyNow old.images → SaysOnly old new → NothingWasRead old new → (status : Status) → EndsEarly s status
      → Decides conf words old new status
  decides-early s says old new only quiet still Done h = absurd h
  decides-early s says old new only quiet still (BadWords fault) h = absurd h
  decides-early s says old new only quiet still (BadConf place) h = absurd h
  decides-early s says old new only quiet still (BadFormat which fault) h = decides-refused one outcome conf words s says which fault h old new still
  decides-early s says old new only quiet still (BadRules place) h = absurd h
  decides-early s says old new only quiet still (FileFault file) h = absurd h
  decides-early s says old new only quiet still (FileShort file place) h = absurd h
  decides-early s says old new only quiet still DiskFault h = absurd h
  decides-early s says old new only quiet still (DbDamaged side place) h = absurd h
  decides-early s says old new only quiet still (KeepDiffers number given) h = absurd h
  decides-early s says old new only quiet still (OutFault to place) h = absurd h
  decides-early s says old new only quiet still (CounterFull which total) h = absurd h
  decides-early s says old new only quiet still NoMemory h = decides-nothing conf words old new only quiet still

  module _ (old : Outside) (only : OnlyNow old.images) where
    -- a run that the words say
    pub run-of : (s : Settings) (f : FilesView) (d : DiskView) (i : Images) (mid outs : OutsView) (status : Status) → JoinedOf conf words (Ok s)
        → EndsRun s old (outside f d i mid) status → TakesOrStops (fault_line (failed_name s status) status) mid.stderr outs.stderr → ChangesOnly Stderr mid outs
        → OutsTrace mid outs → mid.starved ≤ outs.starved → RunsWords conf words old (outside f d i outs) status
    run-of s f d i mid outs status says (inl (early, still, quiet)) line changed wrote more =
        let unsaid : mid ≡ but_errors mid old.outs = same-but old.outs mid quiet in
        assembled conf words (failed_name s status) old f d i mid outs status
        (decides-early s says old (outside f d i outs) only (along old.outs mid outs changed unsaid) (record { files = still.files; disk = still.disk }) status early)
        (subst (λ (v : FilesView). SameFaults (faults_after status old.files.counts) v.counts) (sym still.files) (early-faults s old.files.counts status early))
        (ap (λ (v : OutsView). v.stderr) quiet) (λ undone none. unsaid) (named conf words s says old (outside f d i mid) status (inl (early, still, quiet))) line changed
        (subst (λ (v : FilesView). FilesTrace old.files v) (sym still.files) no_files_call) (subst (λ (v : DiskView). DiskTrace old.disk v) (sym still.disk.view) no_disk_call)
        (subst (λ (v : OutsView). OutsTrace v outs) quiet wrote)
    run-of s f d i mid outs status says (inr (reads, is, ended)) line changed wrote more =
        assembled conf words (failed_name s status) old f d i mid outs status
        (decides-inputs one outcome conf words s says reads is law old only f d i mid outs status ended changed more) ended.faults ended.errors
        (λ undone none. refused-by reads s old (outside f d i mid) status ended.ends undone none) (named conf words s says old (outside f d i mid) status (inr (reads, is, ended))) line changed
        ended.files_trace ended.disk_trace (outs_then ended.outs_trace wrote)

    abbrev after : OutsView → Outside
    after outs = outside old.files old.disk old.images outs

    nothing-read : (outs : OutsView) → NothingWasRead old (after outs)
    nothing-read outs = record { files = refl; disk = record { view = refl; moment = refl; now = λ image h. h; since = λ t image h. h } }

    refused-words : (fault : WordFault) (outs : OutsView) → JoinedOf conf words (Err fault) → TakesOrStops (fault_line [] (BadWords fault)) old.outs.stderr outs.stderr
        → ChangesOnly Stderr old.outs outs → OutsTrace old.outs outs → RunsWords conf words old (after outs) (BadWords fault)
    refused-words fault outs bad line changed wrote =
        assembled conf words [] old old.files old.disk old.images old.outs outs (BadWords fault) (decides-words one outcome conf words fault bad old (after outs) (nothing-read outs))
        (record { faults = refl; shorts = refl; short_at = refl }) refl (λ undone unfailed. same-but old.outs old.outs refl) refl line changed no_files_call no_disk_call wrote

    -- words that say no settings
    pub run-none : (fault : WordFault) (outs : OutsView) → ((fault ≡ WordNoMemory) ⊎ JoinedOf conf words (Err fault))
        → TakesOrStops (fault_line [] (status_of_words fault)) old.outs.stderr outs.stderr → ChangesOnly Stderr old.outs outs → OutsTrace old.outs outs
        → RunsWords conf words old (after outs) (status_of_words fault)
    run-none (UnknownOption at) outs (inl starved) line changed wrote = absurd (cc starved)
    run-none (UnknownOption at) outs (inr bad) line changed wrote = refused-words (UnknownOption at) outs bad line changed wrote
    run-none (MissingValue at) outs (inl starved) line changed wrote = absurd (cc starved)
    run-none (MissingValue at) outs (inr bad) line changed wrote = refused-words (MissingValue at) outs bad line changed wrote
    run-none (BadValue at) outs (inl starved) line changed wrote = absurd (cc starved)
    run-none (BadValue at) outs (inr bad) line changed wrote = refused-words (BadValue at) outs bad line changed wrote
    run-none NoFormat outs (inl starved) line changed wrote = absurd (cc starved)
    run-none NoFormat outs (inr bad) line changed wrote = refused-words NoFormat outs bad line changed wrote
    run-none NoInput outs (inl starved) line changed wrote = absurd (cc starved)
    run-none NoInput outs (inr bad) line changed wrote = refused-words NoInput outs bad line changed wrote
    run-none (Conflict at) outs (inl starved) line changed wrote = absurd (cc starved)
    run-none (Conflict at) outs (inr bad) line changed wrote = refused-words (Conflict at) outs bad line changed wrote
    run-none WordNoMemory outs bad line changed wrote =
        assembled conf words [] old old.files old.disk old.images old.outs outs NoMemory
        (decides-nothing conf words old (after outs) only (along old.outs old.outs outs changed (same-but old.outs old.outs refl)) (nothing-read outs))
        (record { faults = refl; shorts = refl; short_at = refl }) refl (λ undone unfailed. same-but old.outs old.outs refl) refl line changed no_files_call no_disk_call wrote
