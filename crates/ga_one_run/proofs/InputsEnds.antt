-- How a run over its inputs ended, from how its parts did.
use Rattle.std.proofs.Common.{◌≡◌, ◌≢◌, ◌⊎◌, ℕ, ◌≤◌, List, [], ◌∷◌, ◌++◌, refl, ap, sym, ◌∙◌, subst, inl, inr, arith, Bool, ◌&&◌, true, Option, Some, None, IfSome}
use Rattle.std.proofs.lemmas.Bool.{false≢true}
use Rattle.std.specs.List.{AllByRecursion}
use Rattle.ga_agents.specs.declared.row.Rule.{Rule}
use Rattle.ga_base.specs.declared.entry.Entry.{Entry}
use Rattle.ga_disk.specs.Disk.{DiskView}
use Rattle.ga_disk.specs.Images.{Images, LeavesOnly, OnlyImage}
use Rattle.ga_disk.specs.Sides.{Sides}
use Rattle.ga_disk.specs.Trace.{DiskTrace}
use Rattle.ga_disk.specs.Trace.DiskTrace.{no_disk_call, disk_then}
use Rattle.ga_keep.specs.RunDatabase.{AreBase, FailsKeeping, Finds, IsUntouched, Keeps, KeptIf, LooksAtMost, MayKeep, OnlyLooks, Recovered, differing, finding_calls, follow_of, lacks_generation, mode_of, uses_database}
use Rattle.ga_line.specs.declared.setup.LineSetup.{LineSetup}
use Rattle.ga_logs.specs.Following.{CanServe, MissesLog}
use Rattle.ga_resume.specs.declared.follow.Follow.TheVariants.{Whole}
use Rattle.ga_counters.specs.Counts.{NoneDue}
use Rattle.ga_ports.specs.Files.{Contents, FilesView, told}
use Rattle.ga_ports.specs.Outs.{OutsView}
use Rattle.ga_ports.specs.Trace.{FilesStay, FilesTrace, no_outs_call}
use Rattle.ga_resume.specs.declared.fault.PlaceFault.{PlaceFault}
use Rattle.ga_resume.specs.declared.fault.PlaceFault.TheVariants.{FileFault as PlaceFailed, FileShort as PlaceShort, NoMemory as PlaceNoMemory}
use Rattle.ga_store.specs.Commit.{passes_generations}
use Rattle.ga_store.specs.Commits.{AllHave, HasEither, Takes}
use Rattle.ga_store.specs.Database.{DbOf, DbValue}
use Rattle.ga_store.specs.Database.Reading.{stored as reads_as}
use Rattle.ga_store.specs.Holding.{Holds}
use Rattle.ga_summary.specs.SummaryRows.{SummaryValue}
use Rattle.ga_words.specs.declared.settings.Settings.{Settings}
use Rattle.ga_one_run.specs.Course.{HasCounted, HasRules, ReachesReport}
use Rattle.ga_one_run.specs.Ends.{AreFollowed, Ends, HasBegun, HasReport}
use Rattle.ga_one_run.specs.Inputs.{IsStored, Walks, rules_file}
use Rattle.ga_one_run.specs.Inputs.WalksInputs.{asks_rules}
use Rattle.ga_one_run.specs.Keeping.{FailsSince, FindsThere, KeepsSince, KeptSince, MayKeepSince}
use Rattle.ga_one_run.specs.Printing.{but_errors}
use Rattle.ga_one_run.specs.Run.{SameFaults, faults_after}
use Rattle.ga_one_run.specs.Setups.{setup_of}
use Rattle.ga_one_run.specs.Steps.Rules.{StopsNamed}
use Rattle.ga_one_run.specs.Steps.Run.{Delivers, EndsInputs, EndsKeeping, EndsLast, HasFound, NoFileFailed, StopsCounting, WalksLogs, status_of_rules}
use Rattle.ga_one_run.specs.Outside.{outside_of as outside}
use Rattle.ga_one_run.specs.declared.rules.RulesFault.{RulesFault}
use Rattle.ga_one_run.specs.declared.rules.RulesFault.TheVariants.{Unread, Bad}
use Rattle.ga_one_run.specs.declared.status.Input.TheVariants.{Conf, Rules, Log}
use Rattle.ga_one_run.specs.declared.status.Status.{Status}
use Rattle.ga_one_run.specs.declared.status.Status.TheVariants.{Done, BadWords, BadConf, BadFormat, BadRules, FileFault, FileShort, DiskFault, DbDamaged, KeepDiffers, OutFault, CounterFull, NoMemory}
use Rattle.ga_one_run.proofs.Asking.{Asked, miss-counts, miss-rules, same-all, same-files, same-read, same-rules, same-some, same-then, walks-all, walks-behind, walks-miss, walks-rules, walks-some}
use Rattle.ga_one_run.proofs.Moments.{OnlyNow, leaves-still, leaves-then, untouched-leaves}
use Rattle.ga_one_run.proofs.Telling.{found-there, there-in}

-- nothing is said yet
quiet-as : (a b : OutsView) → b ≡ a → b ≡ but_errors b a
quiet-as a b e = subst (λ (v : OutsView). v ≡ but_errors v a) (sym e) refl

pub untouched : {d : DiskView} {i : Images} → IsUntouched d d i i
untouched = record { view = refl; moment = refl; now = λ image h. h; since = λ t image h. h }

untouched-then : {d e f : DiskView} {i j k : Images} → IsUntouched d e i j → IsUntouched e f j k → IsUntouched d f i k
untouched-then h g = record {
  view = g.view ∙ h.view;
  moment = g.moment ∙ h.moment;
  now = λ image n. h.now image (g.now image n);
  since = λ t image n. h.since t image (g.since t image n);
}

-- ---- the database once more, where the disk isn't touched any more

module _ (s : Settings) (d : DiskView) (i : Images) (stored : DbValue) (d' d'' : DiskView) (i' i'' : Images) (u : IsUntouched d' d'' i' i'') where
  looks-still : OnlyLooks d d' i i' → OnlyLooks d d'' i i''
  looks-still h = record {
    view = subst (λ (v : DiskView). v ≡ record d { is_open = v.is_open; path = v.path; counts = v.counts }) (sym u.view) h.view;
    moments = leaves-still d' d'' i.now i i' i'' h.moments u;
  }

  holds-still : Holds d' i' stored → Holds d'' i'' stored
  holds-still h = record {
    sides = h.sides;
    told = subst (λ (v : DiskView). IfSome v.seen (λ seen. seen ≡ h.sides)) (sym u.view) h.told;
    only = subst (λ (v : DiskView). IfSome v.seen (OnlyImage i'')) (sym u.view) (fewer d'.seen h.only);
    size0 = h.size0;
    size1 = h.size1;
    has = h.has;
  }
    where
      fewer : (o : Option Sides) → IfSome o (OnlyImage i') → IfSome o (OnlyImage i'')
      fewer None only = tt
      fewer (Some seen) only = λ image now. only image (u.now image now)

  recovered-still : Recovered s d d' i i' stored → Recovered s d d'' i i'' stored
  recovered-still h = record {
    looks = looks-still h.looks;
    is_open = ap (λ (v : DiskView). v.is_open) u.view ∙ h.is_open;
    holds = holds-still h.holds;
    opened = ap (λ (v : DiskView). v.counts.opened) u.view ∙ h.opened;
    path = subst (λ (v : DiskView). IfSome v.path (λ path. path ≡ Some s.db_path)) (sym u.view) h.path;
    faults = ap (λ (v : DiskView). v.counts.faults) u.view ∙ h.faults;
    calls = subst (λ (v : DiskView). IfSome d.seen (λ seen. Takes (finding_calls seen) d v)) (sym u.view) h.calls;
  }

  pub finds-still : Finds s d d' i i' stored → Finds s d d'' i i'' stored
  finds-still (inl (uses, h)) = inl (uses, recovered-still h)
  finds-still (inr (none, left, empty)) = inr (none, untouched-then left u, empty)

-- a database that was found was looked at
pub looked-at : (s : Settings) (d d' : DiskView) (i i' : Images) (stored : DbValue) → Finds s d d' i i' stored → LooksAtMost s d d' i i'
looked-at s d d' i i' stored (inl (uses, h)) = inr (record { uses = uses; looks = h.looks; opens = record { count = h.opened; path = inl h.path }; faults = h.faults })
looked-at s d d' i i' stored (inr (none, left, empty)) = inl left

-- ---- since the start of the run

if_some-map : {A : Type 0} (P Q : A → Type 0) → (o : Option A) → ((x : A) → P x → Q x) → IfSome o P → IfSome o Q
if_some-map P Q None step p = tt
if_some-map P Q (Some x) step p = step x p

-- the database was found on this disk
module _ (s : Settings) (d d' : DiskView) (i i' : Images) (only : OnlyNow i) (stored : DbValue) (finds : Finds s d d' i i' stored) where
  pub found-leaves : LeavesOnly i i' i.now
  found-leaves = go finds
    where
      go : Finds s d d' i i' stored → LeavesOnly i i' i.now
      go (inl (uses, h)) = h.looks.moments
      go (inr (none, left, empty)) = untouched-leaves d d' i i' only left

  module _ (whole : SummaryValue) (entries : List Entry) (d'' : DiskView) (i'' : Images) where
    keeps-since : (new : DbValue) → Keeps stored new d' d'' i' i'' → KeepsSince stored new d'' i i''
    keeps-since new h = record { later = h.later; moments = leaves-then (HasEither stored new) i i' i'' found-leaves h.moments; all = h.all; reads = h.reads }

    may-since : (new : DbValue) → MayKeep stored new d' d'' i' i'' → MayKeepSince stored new d' d'' i i''
    may-since new h = record {
      later = h.later;
      moments = leaves-then (HasEither stored new) i i' i'' found-leaves h.moments;
      either = h.either;
      reads = h.reads;
      stays = h.stays;
    }

    pub fails-since : FailsKeeping s.keep stored whole entries d' d'' i' i'' → FailsSince s.keep stored whole entries d' d'' i i''
    fails-since h = record { new = h.new; after = h.after; may = if_some-map _ _ d'.seen (λ seen. may-since h.new) h.may; fault = h.fault; frames = h.frames }

    -- no side was changed after it
    all-left : IsUntouched d' d'' i' i'' → uses_database s ≡ true → IfSome d'.seen (λ seen. AllHave i'' stored)
    all-left u uses = go finds
      where
        go : Finds s d d' i i' stored → IfSome d'.seen (λ seen. AllHave i'' stored)
        go (inl (used, h)) = each d'.seen h.holds.told h.holds.only
          where
            each : (o : Option Sides) → IfSome o (λ seen. seen ≡ h.holds.sides) → IfSome o (OnlyImage i') → IfSome o (λ seen. AllHave i'' stored)
            each None reads one = tt
            each (Some seen) reads one = λ image now. subst (λ (x : Sides). DbOf x (reads_as stored)) (sym (one image (u.now image now) ∙ reads)) h.holds.has
        go (inr (none, left, empty)) = absurd (false≢true (sym none ∙ uses))

    pub kept-since : KeptIf s stored whole entries d' d'' i' i'' → KeptSince s stored whole entries d' d'' i i''
    kept-since (inl (persists, h)) =
        inl (persists, record { new = h.new; after = h.after; next = h.next; room = h.room; keeps = if_some-map _ _ d'.seen (λ seen. keeps-since h.new) h.keeps; faults = h.faults; calls = h.calls; frames = h.frames })
    kept-since (inr (not, u)) = inr (not, record { view = u.view; moments = leaves-still d' d'' i.now i i' i'' found-leaves u; all = all-left u })

-- ---- what is told of the files at first is told of some of them, and after calls that served

served-front : (names more : List (List ℕ)) (files : FilesView) → CanServe (names ++ more) files → CanServe names files
served-front names more files h = record { none_due = h.none_due; present = front names h.present }
  where
    front : (names : List (List ℕ)) → AllByRecursion (λ name. told name files.contents ≢ None) (names ++ more) → AllByRecursion (λ name. told name files.contents ≢ None) names
    front [] all = tt
    front (name ∷ names) all = (all.0, front names all.1)

served-back : (names more : List (List ℕ)) (files : FilesView) → CanServe (names ++ more) files → CanServe more files
served-back [] more files h = h
served-back (name ∷ names) more files h = served-back names more files (record { none_due = h.none_due; present = h.present.1 })

none-due-later : (listed : Option (List ℕ)) (calls calls' : ℕ) → calls ≤ calls' → NoneDue listed calls → NoneDue listed calls'
none-due-later None calls calls' later h = h
none-due-later (Some listed) calls calls' later h = λ n within. h n (omega (arith, later, within))

served-later : (names : List (List ℕ)) (a b : FilesView) → FilesStay a b → CanServe names a → CanServe names b
served-later names a b stay h = record {
  none_due = subst (λ (l : Option (List ℕ)). NoneDue l b.counts.calls) (sym stay.listed) (none-due-later a.listed a.counts.calls b.counts.calls stay.calls h.none_due);
  present = subst (λ (c : Option Contents). AllByRecursion (λ name. told name c ≢ None) names) (sym stay.contents) h.present;
}

module _ (line : LineSetup) (s : Settings) (files : FilesView) (d : DiskView) (i : Images) (o : OutsView) where
  -- the run ended before its report
  module _ (files' : FilesView) (d' : DiskView) (i' : Images) (went : FilesTrace files files') (dwent : DiskTrace d d') where
    pub stopped : (status : Status) (ends : Ends line s (outside files d i o) (outside files' d' i' o) status)
        → Asked s (AreFollowed line s (outside files d i o) (outside files' d' i' o) status ends) files files'
        → SameFaults (faults_after status files.counts) files'.counts → EndsInputs line s (outside files d i o) (outside files' d' i' o) status
    stopped status ends asks faults = record { ends = ends; asks = asks; faults = faults; errors = refl; files_trace = went; disk_trace = dwent; outs_trace = no_outs_call }

  -- ---- the browsers file

  module _ (files' : FilesView) (went : FilesTrace files files') where
    rules-stop : (status : Status) (ends : Ends line s (outside files d i o) (outside files' d i o) status)
        → Asked s (AreFollowed line s (outside files d i o) (outside files' d i o) status ends) files files'
        → SameFaults (faults_after status files.counts) files'.counts → EndsInputs line s (outside files d i o) (outside files' d i o) status
    rules-stop = stopped files' d i went no_disk_call

    asked-of : {Followed : List Entry → Type 0} (name : List ℕ) → s.browsers_file ≡ Some name → (fault : PlaceFault) → MissesLog Whole [] name files files' fault → Asked s Followed files files'
    asked-of name named fault misses = (1, asks_rules name named misses.asks)

    pub ends-rules : (file : Option (List ℕ)) → s.browsers_file ≡ file → (fault : RulesFault) → StopsNamed file files files' fault
        → (CanServe (rules_file file) files → fault ≢ Unread PlaceFailed) → EndsInputs line s (outside files d i o) (outside files' d i o) (status_of_rules fault)
    ends-rules None named fault stops sure = absurd stops
    ends-rules (Some name) named (Unread PlaceFailed) (inl misses) sure =
        rules-stop (FileFault Rules) (
          record {
            misses = (name, named, misses, untouched);
            unsure = λ can. sure (served-front (name ∷ []) s.logs files (subst (λ (o : Option (List ℕ)). CanServe (rules_file o ++ s.logs) files) named can)) refl;
          },
          refl,
        ) (asked-of name named PlaceFailed misses) (miss-rules PlaceFailed misses)
    ends-rules (Some name) named (Unread PlaceFailed) (inr (other, read)) sure = absurd (cc other)
    ends-rules (Some name) named (Unread (PlaceShort at)) (inl misses) sure =
        rules-stop (FileShort Rules at) ((name, named, misses, untouched), refl) (asked-of name named (PlaceShort at) misses) (miss-rules (PlaceShort at) misses)
    ends-rules (Some name) named (Unread (PlaceShort at)) (inr (other, read)) sure = absurd (cc other)
    ends-rules (Some name) named (Unread PlaceNoMemory) (inl misses) sure =
        rules-stop NoMemory (inl untouched, refl) (asked-of name named PlaceNoMemory misses) (miss-rules PlaceNoMemory misses)
    ends-rules (Some name) named (Unread PlaceNoMemory) (inr (other, (text, reads))) sure =
        rules-stop NoMemory (inl untouched, refl) (1, asks_rules name named reads.asks) (same-read reads)
    ends-rules (Some name) named (Bad at) (text, reads, bad) sure =
        rules-stop (BadRules at) (record { name = name; named = named; text = text; read = reads; bad = bad; disk = untouched }, refl) (1, asks_rules name named reads.asks) (same-read reads)

    -- no memory for the setup
    pub ends-hungry : (rules : List Rule) → HasRules s.browsers_file files files' rules → EndsInputs line s (outside files d i o) (outside files' d i o) NoMemory
    ends-hungry rules has =
        rules-stop NoMemory (inl untouched, refl) (walks-rules s s.browsers_file refl files files' rules has) (same-rules s.browsers_file files files' rules has)

  -- ---- after it

  module _ (mid files' : FilesView) (rules : List Rule) (has : HasRules s.browsers_file files mid rules) where
    same-before : SameFaults files.counts mid.counts
    same-before = same-rules s.browsers_file files mid rules has

    asks-logs : {Followed : List Entry → Type 0} (entries : List Entry) → Followed entries → ((count : ℕ) × Walks (follow_of s) s.logs entries mid files' count) → Asked s Followed files files'
    asks-logs entries followed walked = walks-behind s s.browsers_file refl files mid files' rules has entries followed walked

    module _ (d' : DiskView) (i' : Images) (went : FilesTrace files files') (dwent : DiskTrace d d') where
      abbrev begun : HasFound s d d' i i' → HasBegun s (outside files d i o) mid d' i'
      begun found = record { rules = rules; has_rules = has; stored = found.stored; finds = found.finds; agrees = found.agrees; entries = found.entries; begin = found.begin }

      none-asked : {Followed : List Entry → Type 0} → files' ≡ mid → Asked s Followed files files'
      none-asked same = walks-rules s s.browsers_file refl files files' rules (subst (λ (v : FilesView). HasRules s.browsers_file files v rules) (sym same) has)

      rules-still : files' ≡ mid → HasRules s.browsers_file files files' rules
      rules-still same = subst (λ (v : FilesView). HasRules s.browsers_file files v rules) (sym same) has

      pub ends-count : FilesStay files mid → (status : Status) → StopsCounting (setup_of line s rules) s mid files' d d' i i' status → (CanServe s.logs mid → NoFileFailed status)
          → EndsInputs line s (outside files d i o) (outside files' d' i' o) status
      ends-count stay Done h sure = absurd h
      ends-count stay (BadWords fault) h sure = absurd h
      ends-count stay (BadConf at) h sure = absurd h
      ends-count stay (BadFormat which fault) h sure = absurd h
      ends-count stay (BadRules at) h sure = absurd h
      ends-count stay (FileFault Conf) h sure = absurd h
      ends-count stay (FileFault Rules) h sure = absurd h
      ends-count stay (FileFault (Log place)) h sure =
          stopped files' d' i' went dwent (FileFault (Log place)) (
            record {
              misses = record { mid = mid; begun = begun h.found; misses = h.misses };
              unsure = λ can. sure (served-later s.logs files mid stay (served-back (rules_file s.browsers_file) s.logs files can));
            },
            refl,
          ) (asks-logs h.found.entries refl (walks-miss h.misses.misses)) (miss-counts files.counts PlaceFailed same-before h.misses.misses)
      ends-count stay (FileShort Conf at) h sure = absurd h
      ends-count stay (FileShort Rules at) h sure = absurd h
      ends-count stay (FileShort (Log place) at) h sure =
          stopped files' d' i' went dwent (FileShort (Log place) at) (record { mid = mid; begun = begun h.found; misses = h.misses }, refl)
          (asks-logs h.found.entries refl (walks-miss h.misses.misses)) (miss-counts files.counts (PlaceShort at) same-before h.misses.misses)
      ends-count stay DiskFault (misses, same) sure =
          stopped files' d' i' went dwent DiskFault (inl (record { rules = rules; has_rules = rules-still same; misses = misses }), refl) (none-asked same) (same-then same-before (same-files same))
      ends-count stay (DbDamaged side at) (misses, same) sure =
          stopped files' d' i' went dwent (DbDamaged side at) (record { rules = rules; has_rules = rules-still same; misses = misses }, refl) (none-asked same) (same-then same-before (same-files same))
      ends-count stay (KeepDiffers number given) (other, same) sure =
          stopped files' d' i' went dwent (KeepDiffers number given) (
            record { rules = rules; has_rules = rules-still same; stored = other.stored; finds = other.finds; differs = other.differs; given_is = other.given_is },
            refl,
          ) (none-asked same) (same-then same-before (same-files same))
      ends-count stay (OutFault to at) h sure = absurd h
      ends-count stay (CounterFull which total) h sure =
          stopped files' d' i' went dwent (CounterFull which total) (inl (record { mid = mid; begun = begun h.found; portions = h.portions; read = h.read; fills = h.fills }), refl)
          (asks-logs h.found.entries refl (walks-some h.read)) (same-then same-before (same-some h.read))
      ends-count stay NoMemory h sure = stopped files' d' i' went dwent NoMemory (h.looks, refl) (asked h.asks) (same-then same-before h.faults)
        where
          asked : (files' ≡ mid) ⊎ WalksLogs s d mid files' → Asked s (λ entries. (stored : DbValue) × IsStored s d stored × AreBase s stored entries) files files'
          asked (inl same) = none-asked same
          asked (inr walked) = asks-logs walked.entries (walked.stored, walked.is_stored, walked.begin) (walked.count, walked.walks)

    -- ---- after the counting

    module _ (stored : DbValue) (d' : DiskView) (i' : Images) (finding : Finds s d d' i i' stored) (agrees : differing s stored ≡ None) (counted : HasCounted (setup_of line s rules) s stored mid files') where
      all-asked : {Followed : List Entry → Type 0} → Followed counted.entries → Asked s Followed files files'
      all-asked followed = asks-logs counted.entries followed (walks-all counted.read)

      all-same : SameFaults files.counts files'.counts
      all-same = same-then same-before (same-all counted.read)

      abbrev come : (d'' : DiskView) → FindsThere s d d'' stored → ReachesReport line s files files' d d''
      come d'' finds = record { rules = rules; mid = mid; has_rules = has; stored = stored; finds = finds; agrees = agrees; counted = counted }

      there : FindsThere s d d' stored
      there = found-there s d d' i i' stored finding

      module _ (only : OnlyNow i) (d'' : DiskView) (i'' : Images) (o' : OutsView) where
        abbrev has-report : {status : Status} → Delivers s stored counted.whole counted.entries' d' d'' i' i'' o o' status → HasReport line s (outside files d i o) (outside files' d'' i'' o')
        has-report h = record {
          found = d';
          come = come d' there;
          text = h.text;
          report = h.is_text;
          kept = kept-since s d d' i i' only stored finding counted.whole counted.entries' d'' i'' h.kept;
        }

        lacks-of : s.persist ≡ true → passes_generations (mode_of s) stored ≡ true → lacks_generation s stored ≡ true
        lacks-of persists passes = ap (λ (b : Bool). b && passes_generations (mode_of s) stored) persists ∙ passes

        ends-as : (status : Status) → EndsKeeping s stored counted.whole counted.entries' d' d'' i' i'' o o' status
            → (ends : Ends line s (outside files d i o) (outside files' d'' i'' o') status) × Asked s (AreFollowed line s (outside files d i o) (outside files' d'' i'' o') status ends) files files'
            × SameFaults (faults_after status files.counts) files'.counts
        ends-as Done h = (record { has = has-report h; printed = h.report }, all-asked refl, all-same)
        ends-as (BadWords fault) h = absurd h
        ends-as (BadConf at) h = absurd h
        ends-as (BadFormat which fault) h = absurd h
        ends-as (BadRules at) h = absurd h
        ends-as (FileFault file) h = absurd h
        ends-as (FileShort file at) h = absurd h
        ends-as DiskFault (persists, fails, quiet) = (
          (
            inr (record {
              found = d';
              come = come d' there;
              persists = persists;
              fails = fails-since s d d' i i' only stored finding counted.whole counted.entries' d'' i'' fails;
            }),
            quiet-as o o' quiet,
          ),
          all-asked refl,
          all-same,
        )
        ends-as (DbDamaged side at) h = absurd h
        ends-as (KeepDiffers number given) h = absurd h
        ends-as (OutFault to at) h = (record { target_is = h.report.target_is; has = has-report h; stops = h.report.stops; unsure = h.report.unsure }, all-asked refl, all-same)
        ends-as (CounterFull which total) (persists, counter, value-is, passes, left, quiet) =
            let finds = finds-still s d i stored d' d'' i' i'' left finding in (
              (
                inr (record {
                  come = come d'' (found-there s d d'' i i'' stored finds);
                  moments = found-leaves s d d'' i i'' only stored finds;
                  lacks = lacks-of persists passes;
                  counter = counter;
                  value = value-is;
                }),
                quiet-as o o' quiet,
              ),
              all-asked refl,
              all-same,
            )
        ends-as NoMemory (left, quiet) = ((looked-at s d d'' i i'' stored (finds-still s d i stored d' d'' i' i'' left finding), quiet-as o o' quiet), all-asked (stored, there-in s d d' stored there, counted.begin), all-same)

        pub ends-last : FilesTrace files files' → DiskTrace d d' → (status : Status) → EndsLast s stored counted.whole counted.entries' d' d'' i' i'' o o' status
            → EndsInputs line s (outside files d i o) (outside files' d'' i'' o') status
        ends-last went dwent status h =
            let all = ends-as status h.ends in
            record {
              ends = all.0;
              asks = all.1;
              faults = all.2;
              errors = h.errors;
              files_trace = went;
              disk_trace = disk_then dwent h.disk_trace;
              outs_trace = h.outs_trace;
            }
