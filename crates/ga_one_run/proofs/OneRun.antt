-- Two runs with the same words over the same told files and sides end alike.
use Rattle.std.proofs.Common.{◌≡◌, ◌≢◌, ◌⊎◌, ◌||◌, ℕ, Bool, List, [], ◌∷◌, ◌++◌, refl, ap, sym, ◌∙◌, subst, inl, inr, Option, Some, None, IfSome, false, true, map, Err, Ok}
use Rattle.std.proofs.lemmas.Bool.{false≢true}
use Rattle.std.specs.List.{AllByRecursion}
use Rattle.ga_base.specs.declared.entry.Entry.{Entry}
use Rattle.ga_codec.specs.Values.{entry_value}
use Rattle.ga_disk.specs.Disk.{DiskView}
use Rattle.ga_disk.specs.Sides.{Sides}
use Rattle.ga_keep.specs.RunDatabase.{IsNext, mode_of}
use Rattle.ga_line.specs.declared.setup.LineSetup.{LineSetup}
use Rattle.ga_logs.specs.Following.{AreSomeTold, AreTold}
use Rattle.ga_logs.specs.Following.AreSomeTold.{told_last, told_none, told_on}
use Rattle.ga_logs.specs.Following.AreTold.{told_all, told_then}
use Rattle.ga_resume.specs.declared.follow.Follow.{Follow}
use Rattle.ga_logs.specs.declared.portion.Portion.{Portion}
use Rattle.ga_counters.specs.Counts.{Rose}
use Rattle.ga_ports.specs.Files.{FilesView, told}
use Rattle.ga_ports.specs.Outs.{TargetView, takes, target}
use Rattle.ga_store.specs.Database.{DbOf, DbValue}
use Rattle.ga_store.specs.Database.Reading.{stored as reads_as}
use Rattle.ga_words.specs.Joined.{JoinedOf}
use Rattle.ga_words.specs.declared.settings.Settings.{Settings}
use Rattle.ga_agents.specs.declared.row.Rule.{Rule}
use Rattle.ga_one_run.specs.Ends.{Ends, HasReport, SaysOnly}
use Rattle.ga_one_run.specs.Inputs.{inputs_of, rules_file}
use Rattle.ga_one_run.specs.Keeping.{FindsThere, IsKeptSince, KeepsSince, KeptSince}
use Rattle.ga_one_run.specs.OneRun.{Alike, DifferInWorkers, HasDatabase, HaveSameInputs, IsUntroubled, RunView, SameDatabase, SidesAgree, Wrote, with_workers}
use Rattle.ga_targets.specs.Printing.{TakesOrStops}
use Rattle.ga_one_run.specs.Printing.{but_errors, delivered, report_file, target_of}
use Rattle.ga_one_run.specs.Run.{AreRefused, HasGoodInput, HaveRefused, HaveSetup, IsTrouble, NothingWasRead, RunsOver}
use Rattle.ga_one_run.specs.Setups.{IsLineSetup, IsRefused}
use Rattle.ga_one_run.specs.Statuses.{fault_line, IsFaultLine, NamesFailed}
use Rattle.ga_one_run.specs.Told.{Answers, CountsTold, HasBadLine, RulesAreTold, Yield}
use Rattle.ga_one_run.specs.Told.Answers.{answers_rules, answers_damage, answers_differs, answers_full, answers_generation, answers_done}
use Rattle.ga_base.specs.declared.formats.FormatFault.{FormatFault}
use Rattle.ga_store.specs.declared.mode.Mode.{Mode}
use Rattle.ga_summary.specs.SummaryRows.{SummaryValue}
use Rattle.ga_one_run.specs.declared.status.Which.{Which}
use Rattle.ga_one_run.specs.declared.status.Which.TheVariants.{Log, Date, Time}
use Rattle.ga_one_run.specs.declared.status.Status.{Status}
use Rattle.ga_one_run.specs.declared.status.Status.TheVariants.{Done, BadWords, BadConf, BadFormat, BadRules, FileFault, FileShort, DiskFault, DbDamaged, KeepDiffers, OutFault, CounterFull, NoMemory}
use Rattle.ga_one_run.proofs.Agreeing.{answers-on}
use Rattle.ga_one_run.proofs.Endings.{stops-rose}
use Rattle.ga_one_run.proofs.OneAnswer.{OneDatabase}
use Rattle.ga_one_run.proofs.WordLaw.{OneWords}
use Rattle.ga_one_run.proofs.Telling.{ReadAsTold, answers, done-answers, found-there, seen-same, yield-of}

-- ---- what is told of files with the same contents

-- these files have the same contents in two views
abbrev Same : FilesView → FilesView → List (List ℕ) → Type 0
Same a b names = AllByRecursion (λ name. told name a.contents ≡ told name b.contents) names

in-front : (a b : FilesView) (front back : List (List ℕ)) → Same a b (front ++ back) → Same a b front
in-front a b [] back h = tt
in-front a b (name ∷ front) back h = (h.0, in-front a b front back h.1)

behind : (a b : FilesView) (front back : List (List ℕ)) → Same a b (front ++ back) → Same a b back
behind a b [] back h = h
behind a b (name ∷ front) back h = behind a b front back h.1

rules-along : (file : Option (List ℕ)) (a b : FilesView) (rules : List Rule) → Same a b (rules_file file) → RulesAreTold file b rules → RulesAreTold file a rules
rules-along None a b rules same h = h
rules-along (Some name) a b rules same (text, is, gives) = (text, same.0 ∙ is, gives)

told-along : (follow : Follow) (a b : FilesView) (names : List (List ℕ)) (old new : List Entry) (portions : List Portion) → Same a b names → AreTold follow b.contents names old new portions
    → AreTold follow a.contents names old new portions
told-along follow a b [] old new portions same told_all = told_all
told-along follow a b (name ∷ names) old new portions same (told_then is portion goes more) = told_then (same.0 ∙ is) portion goes (told-along follow a b names _ new _ same.1 more)

some-along : (follow : Follow) (a b : FilesView) (names : List (List ℕ)) (old : List Entry) (portions : List Portion) → Same a b names → AreSomeTold follow b.contents names old portions
    → AreSomeTold follow a.contents names old portions
some-along follow a b names old portions same told_none = told_none
some-along follow a b (name ∷ names) old portions same (told_last is portion) = told_last (same.0 ∙ is) portion
some-along follow a b (name ∷ names) old portions same (told_on is portion goes more) = told_on (same.0 ∙ is) portion goes (some-along follow a b names _ _ same.1 more)

module _ (line : LineSetup) (s : Settings) (a b : FilesView) (same : Same a b (inputs_of s)) where
  same-rules : Same a b (rules_file s.browsers_file)
  same-rules = in-front a b (rules_file s.browsers_file) s.logs same

  same-logs : Same a b s.logs
  same-logs = behind a b (rules_file s.browsers_file) s.logs same

  told-rules : (rules : List Rule) → RulesAreTold s.browsers_file b rules → RulesAreTold s.browsers_file a rules
  told-rules rules h = rules-along s.browsers_file a b rules same-rules h

  bad-along : (at : ℕ) → HasBadLine s b at → HasBadLine s a at
  bad-along at h = record {
    name = h.name;
    named = h.named;
    text = h.text;
    told = (subst (λ (file : Option (List ℕ)). Same a b (rules_file file)) h.named same-rules).0 ∙ h.told;
    bad = h.bad;
  }

  counts-along : (yield : Yield) {rules : List Rule} {stored : DbValue} → CountsTold line s rules stored b yield.whole yield.entries → CountsTold line s rules stored a yield.whole yield.entries
  counts-along yield h = record {
    entries = h.entries;
    begin = h.begin;
    portions = h.portions;
    told = told-along _ a b s.logs h.entries _ h.portions same-logs h.told;
    run = h.run;
    counts = h.counts;
    is_whole = h.is_whole;
  }

  answers-along : (sides : Sides) (status : Status) (yield : Option Yield) → Answers line s b sides status yield → Answers line s a sides status yield
  answers-along sides status yield (answers_rules h) = answers_rules (bad-along _ h)
  answers-along sides status yield (answers_damage rules told uses h) = answers_damage rules (told-rules rules told) uses h
  answers-along sides status yield (answers_differs rules stored told has h) = answers_differs rules stored (told-rules rules told) has h
  answers-along sides status yield (answers_full rules stored told has agrees h) = answers_full rules stored (told-rules rules told) has agrees (record {
    entries = h.entries;
    begin = h.begin;
    portions = h.portions;
    told = some-along _ a b s.logs h.entries h.portions same-logs h.told;
    fills = h.fills;
  })
  answers-along sides status yield (answers_generation rules stored whole entries told has agrees h lacks) = answers_generation rules stored whole entries (told-rules rules told) has agrees (record {
    entries = h.entries;
    begin = h.begin;
    portions = h.portions;
    told = told-along _ a b s.logs h.entries _ h.portions same-logs h.told;
    run = h.run;
    counts = h.counts;
    is_whole = h.is_whole;
  }) lacks
  answers-along sides status yield (answers_done rules stored {yield = own} told has agrees h room is) = answers_done rules stored (told-rules rules told) has agrees (counts-along own h) room is

-- ---- how an untroubled run ended

-- a fault line that names no file and no target
abbrev Nameless : Status → Type 0
Nameless status = (conf words : List (List ℕ)) (name : List ℕ) → NamesFailed conf words status name → name ≡ []

nameless : (status : Status) → ¬ IsTrouble status → Nameless status
nameless Done h = λ conf words name e. e
nameless (BadWords fault) h = λ conf words name e. e
nameless (BadConf at) h = λ conf words name e. e
nameless (BadFormat which fault) h = λ conf words name e. e
nameless (BadRules at) h = λ conf words name e. e
nameless (FileFault file) h = absurd (h tt)
nameless (FileShort file at) h = absurd (h tt)
nameless DiskFault h = absurd (h tt)
nameless (DbDamaged side at) h = λ conf words name e. e
nameless (KeepDiffers number given) h = λ conf words name e. e
nameless (OutFault to at) h = absurd (h tt)
nameless (CounterFull which total) h = λ conf words name e. e
nameless NoMemory h = absurd (h tt)

one-line : (conf words conf' words' : List (List ℕ)) (status : Status) (line other : List ℕ) → Nameless status → IsFaultLine conf words status line → IsFaultLine conf' words' status other → line ≡ other
one-line conf words conf' words' status line other none h k = h.is ∙ ap (λ (name : List ℕ). fault_line name status) (none conf words h.name h.names ∙ sym (none conf' words' k.name k.names)) ∙ sym k.is

-- a target without a fault took all
taken : (text : List ℕ) (old new : TargetView) → ¬ Rose old.faults new.faults → TakesOrStops text old new → new ≡ takes text old
taken text old new still (inl all) = all
taken text old new still (inr (at, stops)) = absurd (still (stops-rose at text old new stops))

-- no fault of the report's target rose
output-still : (conf words : List (List ℕ)) (sides : Sides) (r : RunView) → IsUntroubled conf words sides r → (file : Option (List ℕ))
    → ¬ Rose (target (target_of file) r.old.outs).faults (target (target_of file) r.new.outs).faults
output-still conf words sides r u None = u.output
output-still conf words sides r u (Some name) = u.file

-- the database that a run left, by what it yields and what these sides had
pub record IsLeftBy (mode : Mode) (keep : ℕ) (sides : Sides) (yield : Yield) (db : DbValue) : Type 0 where
  pub summary : db.summary ≡ yield.whole
  pub entries : db.entries ≡ map entry_value yield.entries
  pub number : db.keep ≡ Some keep
  pub stored : DbValue
  pub had : DbOf sides (reads_as stored)
  pub next : IsNext mode stored db

abbrev LeftBy : Settings → RunView → Yield → Type 0
LeftBy s r yield = (sides : Sides) → r.old.disk.seen ≡ Some sides → (db : DbValue) → HasDatabase r.new db → IsLeftBy (mode_of s) s.keep sides yield db

-- what was found there is what the sides had, where the run persists
found-had : (s : Settings) (d d' : DiskView) (stored : DbValue) → s.persist ≡ true → FindsThere s d d' stored → (sides : Sides) → d.seen ≡ Some sides → DbOf sides (reads_as stored)
found-had s d d' stored persists (inl (uses, found)) sides reads = subst (λ (o : Option Sides). IfSome o (λ x. DbOf x (reads_as stored))) reads found.has
found-had s d d' stored persists (inr (none, left, empty)) sides reads = absurd (false≢true (sym none ∙ ap (λ (b : Bool). b || s.restore) persists))

abbrev Left : Settings → RunView → Yield → Type 0
Left s r yield = ((s.persist ≡ true) × LeftBy s r yield) ⊎ ((s.persist ≡ false) × (r.new.disk.seen ≡ r.old.disk.seen))

-- what a run showed of its answer
abbrev Shows : Settings → RunView → Option Yield → Type 0
Shows s r None = SaysOnly r.old r.new × (r.new.disk.seen ≡ r.old.disk.seen)
Shows s r (Some yield) = (r.new.outs ≡ but_errors r.new.outs (delivered (report_file s.generate s.output.name) yield.text r.old.outs)) × Left s r yield

module _ (law : ReadAsTold) (database : OneDatabase) (conf words : List (List ℕ)) (sides : Sides) (s : Settings) (line : LineSetup) (says : JoinedOf conf words (Ok s)) (is : IsLineSetup s line) where
  module _ (r : RunView) (u : IsUntroubled conf words sides r) where
    over : RunsOver line s r.old r.new r.status
    over = u.is_run.runs s line says is

    ends-as : HasGoodInput r.status → (r.status ≡ Done) ⊎ (r.status ≡ NoMemory)
    ends-as good = over.complete (inr (u.faults, u.shorts)) u.disk (inr (output-still conf words sides r u (report_file s.generate s.output.name))) good

    pub settled : (status : Status) → r.status ≡ status → ¬ IsTrouble status
    settled Done e h = h
    settled (BadWords fault) e h = h
    settled (BadConf at) e h = h
    settled (BadFormat which fault) e h = h
    settled (BadRules at) e h = h
    settled (FileFault file) e h = by (ends-as (record { rules = λ n f. cc; database = λ n m f. cc; number = λ n m f. cc; counters = λ w n f. cc }))
      where
        by : (r.status ≡ Done) ⊎ (r.status ≡ NoMemory) → ⊥
        by (inl f) = absurd (cc e)
        by (inr f) = absurd (cc e)
    settled (FileShort file at) e h = by (ends-as (record { rules = λ n f. cc; database = λ n m f. cc; number = λ n m f. cc; counters = λ w n f. cc }))
      where
        by : (r.status ≡ Done) ⊎ (r.status ≡ NoMemory) → ⊥
        by (inl f) = absurd (cc e)
        by (inr f) = absurd (cc e)
    settled DiskFault e h = by (ends-as (record { rules = λ n f. cc; database = λ n m f. cc; number = λ n m f. cc; counters = λ w n f. cc }))
      where
        by : (r.status ≡ Done) ⊎ (r.status ≡ NoMemory) → ⊥
        by (inl f) = absurd (cc e)
        by (inr f) = absurd (cc e)
    settled (DbDamaged side at) e h = h
    settled (KeepDiffers number given) e h = h
    settled (OutFault to at) e h = by (ends-as (record { rules = λ n f. cc; database = λ n m f. cc; number = λ n m f. cc; counters = λ w n f. cc }))
      where
        by : (r.status ≡ Done) ⊎ (r.status ≡ NoMemory) → ⊥
        by (inl f) = absurd (cc e)
        by (inr f) = absurd (cc e)
    settled (CounterFull which total) e h = h
    settled NoMemory e h = u.fed e

    left-by : (h : HasReport line s r.old r.new) → (yield : Yield) → yield.whole ≡ h.come.counted.whole → yield.entries ≡ h.come.counted.entries' → Left s r yield
    left-by h yield whole entries = by h.kept
      where
        found-seen : h.found.seen ≡ r.old.disk.seen
        found-seen = seen-same s r.old.disk h.found h.come.stored h.come.finds

        kept-by : s.persist ≡ true → IsKeptSince s h.come.stored h.come.counted.whole h.come.counted.entries' h.found r.new.disk r.old.images r.new.images → LeftBy s r yield
        kept-by persists k seen reads db (seen', is', has) =
            let keeps : KeepsSince h.come.stored k.new r.new.disk r.old.images r.new.images =
            subst (λ (o : Option Sides). IfSome o (λ x. KeepsSince h.come.stored k.new r.new.disk r.old.images r.new.images)) (found-seen ∙ reads) k.keeps in
            let now : DbOf seen' (reads_as k.new) = subst (λ (o : Option Sides). IfSome o (λ x. DbOf x (reads_as k.new))) is' keeps.reads in
            let same : db ≡ k.new = let e = database seen' (reads_as db) (reads_as k.new) has now in cc in
            record {
              summary = ap (λ (v : DbValue). v.summary) same ∙ k.after.summary ∙ sym whole;
              entries = ap (λ (v : DbValue). v.entries) same ∙ k.after.entries ∙ ap (map entry_value) (sym entries);
              number = ap (λ (v : DbValue). v.keep) same ∙ k.after.number;
              stored = h.come.stored;
              had = found-had s r.old.disk h.found h.come.stored persists h.come.finds seen reads;
              next = subst (λ (v : DbValue). IsNext (mode_of s) h.come.stored v) (sym same) k.next;
            }

        by : KeptSince s h.come.stored h.come.counted.whole h.come.counted.entries' h.found r.new.disk r.old.images r.new.images → Left s r yield
        by (inl (persists, k)) = inl (persists, kept-by persists k)
        by (inr (not, left)) = inr (not, ap (λ (v : DiskView). v.seen) left.view ∙ found-seen)

    abbrev Ending : Status → Type 0
    Ending status = (yield : Option Yield) × Answers line s r.old.files sides status yield × Shows s r yield

    -- an answer without a yield
    by-refusal : (status : Status) → ((yield : Option Yield) × Answers line s r.old.files sides status yield) → status ≢ Done → SaysOnly r.old r.new → r.new.disk.seen ≡ r.old.disk.seen → Ending status
    by-refusal status (None, h) undone quiet still = (None, h, (quiet, still))
    by-refusal status (Some yield, answers_done rules stored told has agrees h room is') undone quiet still = absurd (undone refl)

    untroubled : (status : Status) → ¬ IsTrouble status → IsTrouble status ⊎ ((yield : Option Yield) × Answers line s r.old.files sides status yield)
        → (yield : Option Yield) × Answers line s r.old.files sides status yield
    untroubled status h (inl trouble) = absurd (h trouble)
    untroubled status h (inr found) = found

    ending : (status : Status) → ¬ IsTrouble status → Ends line s r.old r.new status → Ending status
    ending Done fine h =
        (Some (yield-of law line s r.old r.new sides u.told_all (u.told_sides s says) h), done-answers law line s r.old r.new sides u.told_all (u.told_sides s says) h, (h.printed, left-by h.has (yield-of law line s r.old r.new sides u.told_all (u.told_sides s says) h) refl refl))
    ending (BadWords fault) fine h = absurd h
    ending (BadConf at) fine h = absurd h
    ending (BadFormat which fault) fine h = absurd h
    ending (BadRules at) fine h = by-refusal (BadRules at) (untroubled (BadRules at) fine (answers law line s r.old r.new sides u.told_all (u.told_sides s says) (BadRules at) h)) (λ e. cc) h.1
        (ap (λ (v : DiskView). v.seen) h.0.disk.view)
    ending (FileFault file) fine h = absurd (fine tt)
    ending (FileShort file at) fine h = absurd (fine tt)
    ending DiskFault fine h = absurd (fine tt)
    ending (DbDamaged side at) fine h = by-refusal (DbDamaged side at) (untroubled (DbDamaged side at) fine (answers law line s r.old r.new sides u.told_all (u.told_sides s says) (DbDamaged side at) h)) (λ e. cc)
        h.1 (ap (λ (v : DiskView). v.seen) h.0.misses.looks.view)
    ending (KeepDiffers number given) fine h = by-refusal (KeepDiffers number given) (untroubled (KeepDiffers number given) fine (answers law line s r.old r.new sides u.told_all (u.told_sides s says) (KeepDiffers number given) h)) (λ e. cc)
        h.1 (seen-same s r.old.disk r.new.disk h.0.stored (found-there s r.old.disk r.new.disk r.old.images r.new.images h.0.stored h.0.finds))
    ending (OutFault to at) fine h = absurd (fine tt)
    ending (CounterFull which total) fine (inl h, quiet) =
        by-refusal (CounterFull which total) (untroubled (CounterFull which total) fine (answers law line s r.old r.new sides u.told_all (u.told_sides s says) (CounterFull which total) (inl h, quiet))) (λ e. cc)
        quiet (seen-same s r.old.disk r.new.disk h.begun.stored (found-there s r.old.disk r.new.disk r.old.images r.new.images h.begun.stored h.begun.finds))
    ending (CounterFull which total) fine (inr h, quiet) =
        by-refusal (CounterFull which total) (untroubled (CounterFull which total) fine (answers law line s r.old r.new sides u.told_all (u.told_sides s says) (CounterFull which total) (inr h, quiet))) (λ e. cc)
        quiet (seen-same s r.old.disk r.new.disk h.come.stored h.come.finds)
    ending NoMemory fine h = absurd (fine tt)

    pub ended : Ending r.status
    ended = ending r.status (settled r.status refl) over.ends

-- ---- two of them

-- the same database is left where none was changed
still-same : OneDatabase → (sides sides' : Sides) → SidesAgree sides sides' → (a b : RunView) → a.new.disk.seen ≡ a.old.disk.seen → b.new.disk.seen ≡ b.old.disk.seen → a.old.disk.seen ≡ Some sides
    → b.old.disk.seen ≡ Some sides' → SameDatabase a.new b.new
still-same database sides sides' agree a b h k reads reads' db db' (x, is, has) (y, is', has') =
    let same-x : x ≡ sides = let e = sym is ∙ h ∙ reads in cc in
    let same-y : y ≡ sides' = let e = sym is' ∙ k ∙ reads' in cc in
    let there : DbOf sides (reads_as db') = (agree (reads_as db')).1 (subst (λ (z : Sides). DbOf z (reads_as db')) same-y has') in
    let same : db ≡ db' = let e = database sides (reads_as db) (reads_as db') (subst (λ (z : Sides). DbOf z (reads_as db)) same-x has) there in cc in
    record {
      summary = ap (λ (v : DbValue). v.summary) same;
      entries = ap (λ (v : DbValue). v.entries) same;
      number = ap (λ (v : DbValue). v.keep) same;
      generation = ap (λ (v : DbValue). v.generation) same;
      records = ap (λ (v : DbValue). v.records) same;
    }

-- so is the one that follows from the same stored one
next-same : (s : Settings) (x y db db' : DbValue) → x ≡ y → IsNext (mode_of s) x db → IsNext (mode_of s) y db' → (db.generation ≡ db'.generation) × (db.records ≡ db'.records)
next-same s x y db db' e h k =
    let h' = subst (λ (v : DbValue). IsNext (mode_of s) v db) e h in
    (h'.generation ∙ sym k.generation, h'.records ∙ sym k.records)

module _ (database : OneDatabase) (conf words conf' words' : List (List ℕ)) (sides sides' : Sides) (agree : SidesAgree sides sides') (a b : RunView) (u : IsUntroubled conf words sides a)
    (v : IsUntroubled conf' words' sides' b) where
  -- with one status and one report, all is alike
  alike : (status : Status) → Nameless status → a.status ≡ status → b.status ≡ status → (report : Option (Option (List ℕ) × List ℕ)) → Wrote report a.old.outs a.new.outs → Wrote report b.old.outs b.new.outs
      → (a.old.disk.seen ≡ Some sides → b.old.disk.seen ≡ Some sides' → SameDatabase a.new b.new) → Alike sides sides' a b
  alike status unnamed e f report output output' left =
      let here = u.is_run.reports.line in
      let there = v.is_run.reports.line in
      let lines : there.0 ≡ here.0 =
      one-line conf' words' conf words status there.0 here.0 unnamed (subst (λ (st : Status). IsFaultLine conf' words' st there.0) f there.1) (subst (λ (st : Status). IsFaultLine conf words st here.0) e here.1) in
      record {
        status = e ∙ sym f;
        report = report;
        line = here.0;
        output = output;
        output' = output';
        errors = taken here.0 a.old.outs.stderr a.new.outs.stderr u.errors here.2;
        errors' = taken there.0 b.old.outs.stderr b.new.outs.stderr v.errors there.2 ∙ ap (λ (text : List ℕ). takes text b.old.outs.stderr) lines;
        database = left;
      }

  -- both refuse the words
  refused-alike : (status : Status) → Nameless status → status ≢ Done → ((to : _) (at : ℕ) → status ≢ OutFault to at) → a.status ≡ status → b.status ≡ status → NothingWasRead a.old a.new → NothingWasRead b.old b.new
      → Alike sides sides' a b
  refused-alike status unnamed undone unfailed e f still still' =
      alike status unnamed e f None (u.is_run.reports.refused (λ done. undone (sym e ∙ done)) (λ to at failed. unfailed to at (sym e ∙ failed)))
      (v.is_run.reports.refused (λ done. undone (sym f ∙ done)) (λ to at failed. unfailed to at (sym f ∙ failed)))
      (still-same database sides sides' agree a b (ap (λ (d : DiskView). d.seen) still.disk.view) (ap (λ (d : DiskView). d.seen) still'.disk.view))

-- ---- other workers

module _ (line : LineSetup) (s : Settings) (jobs chunk : ℕ) where
  -- the same settings but for the workers
  abbrev other : Settings
  other = with_workers jobs chunk s

  setup-by : IsLineSetup s line → IsLineSetup other line
  setup-by h = record {
    format = h.format;
    date = h.date;
    time = h.time;
    no_ip_validation = h.no_ip_validation;
    strict_status = h.strict_status;
    double_decode = h.double_decode;
    no_query = h.no_query;
  }

  counts-by : (rules : List Rule) (stored : DbValue) (files : FilesView) (whole : SummaryValue) (entries : List Entry) → CountsTold line other rules stored files whole entries
      → CountsTold line s rules stored files whole entries
  counts-by rules stored files whole entries h = record {
    entries = h.entries;
    begin = h.begin;
    portions = h.portions;
    told = h.told;
    run = h.run;
    counts = h.counts;
    is_whole = h.is_whole;
  }

  answers-by : (files : FilesView) (sides : Sides) (status : Status) (yield : Option Yield) → Answers line other files sides status yield → Answers line s files sides status yield
  answers-by files sides status yield (answers_rules h) = answers_rules (record { name = h.name; named = h.named; text = h.text; told = h.told; bad = h.bad })
  answers-by files sides status yield (answers_damage rules told uses h) = answers_damage rules told uses h
  answers-by files sides status yield (answers_differs rules stored told has h) = answers_differs rules stored told has h
  answers-by files sides status yield (answers_full rules stored told has agrees h) = answers_full rules stored told has agrees (record {
    entries = h.entries;
    begin = h.begin;
    portions = h.portions;
    told = h.told;
    fills = h.fills;
  })
  answers-by files sides status yield (answers_generation rules stored whole entries told has agrees h lacks) =
      answers_generation rules stored whole entries told has agrees (counts-by rules stored files whole entries h) lacks
  answers-by files sides status yield (answers_done rules stored {yield = own} told has agrees h room is) =
      answers_done rules stored told has agrees (counts-by rules stored files own.whole own.entries h) room (record { report = is.report; is_report = is.is_report; written = is.written })

refused-by : (s : Settings) (jobs chunk : ℕ) (which : Which) (fault : FormatFault) → IsRefused s which fault → IsRefused (with_workers jobs chunk s) which fault
refused-by s jobs chunk Log fault h = h
refused-by s jobs chunk Date fault h = h
refused-by s jobs chunk Time fault h = h

-- what the law of answers says of settings
abbrev pub OneAnswer : Type 0
OneAnswer = (s : Settings) (line : LineSetup) → IsLineSetup s line → (files : FilesView) (sides : Sides) (a b : Status) (yielded other : Option Yield) → Answers line s files sides a yielded
    → Answers line s files sides b other → (a ≡ b) × (yielded ≡ other)

module _ (answer : OneAnswer) (law : ReadAsTold) (database : OneDatabase) (conf words conf' words' : List (List ℕ)) (sides sides' : Sides) (agree : SidesAgree sides sides') (a b : RunView)
    (u : IsUntroubled conf words sides a) (v : IsUntroubled conf' words' sides' b) (same : HaveSameInputs conf words a b) where
  -- both ran over their inputs, by the same settings but for the workers
  module _ (s : Settings) (line : LineSetup) (jobs chunk : ℕ) (says : JoinedOf conf words (Ok s)) (is : IsLineSetup s line) (says' : JoinedOf conf' words' (Ok (with_workers jobs chunk s))) where
    is' : IsLineSetup (with_workers jobs chunk s) line
    is' = setup-by line s jobs chunk is

    shown-alike : (yield : Option Yield) → a.status ≡ b.status → Shows s a yield → Shows s b yield → Alike sides sides' a b
    shown-alike None e (quiet, still) (quiet', still') =
        alike database conf words conf' words' sides sides' agree a b u v b.status (nameless b.status (settled law database conf' words' sides' (with_workers jobs chunk s) line says' is' b v b.status refl)) e refl None quiet quiet'
        (still-same database sides sides' agree a b still still')
    shown-alike (Some yield) e (printed, left) (printed', left') =
        alike database conf words conf' words' sides sides' agree a b u v b.status (nameless b.status (settled law database conf' words' sides' (with_workers jobs chunk s) line says' is' b v b.status refl)) e refl
        (Some (report_file s.generate s.output.name, yield.text)) printed printed' (by left left')
      where
        by : Left s a yield → Left s b yield → a.old.disk.seen ≡ Some sides → b.old.disk.seen ≡ Some sides' → SameDatabase a.new b.new
        by (inl (persists, h)) (inl (persists', k)) reads reads' db db' has has' =
            let x = h sides reads db has in
            let y = k sides' reads' db' has' in
            let stored : x.stored ≡ y.stored = let e = database sides (reads_as x.stored) (reads_as y.stored) x.had ((agree (reads_as y.stored)).1 y.had) in cc in
            let next = next-same s x.stored y.stored db db' stored x.next y.next in
            record {
              summary = x.summary ∙ sym y.summary;
              entries = x.entries ∙ sym y.entries;
              number = x.number ∙ sym y.number;
              generation = next.0;
              records = next.1;
            }
        by (inl (persists, h)) (inr (not, k)) reads reads' db db' has has' = absurd (false≢true (sym not ∙ persists))
        by (inr (not, h)) (inl (persists, k)) reads reads' db db' has has' = absurd (false≢true (sym not ∙ persists))
        by (inr (not, h)) (inr (not', k)) reads reads' db db' has has' = still-same database sides sides' agree a b h k reads reads' db db' has has'

    both-alike : Alike sides sides' a b
    both-alike =
        let (yield, answers-a, shows-a) = ended law database conf words sides s line says is a u in
        let (other, answers-b, shows-b) = ended law database conf' words' sides' (with_workers jobs chunk s) line says' is' b v in
        let alike-b = answers-on agree line s b.old.files b.status other (answers-by line s jobs chunk b.old.files sides' b.status other answers-b) in
        let one = answer s line is a.old.files sides a.status b.status yield other answers-a (answers-along line s a.old.files b.old.files (same s says) sides b.status other alike-b) in
        shown-alike yield one.0 shows-a (subst (λ (y : Option Yield). Shows s b y) (sym one.1) shows-b)

-- both have the same words
module _ (answer : OneAnswer) (law : ReadAsTold) (database : OneDatabase) (conf words : List (List ℕ)) (sides sides' : Sides) (agree : SidesAgree sides sides') (a b : RunView)
    (u : IsUntroubled conf words sides a) (v : IsUntroubled conf words sides' b) (same : HaveSameInputs conf words a b) where
  pub one-run : Alike sides sides' a b
  one-run = by u.is_run.reads.decided
    where
      refused : AreRefused conf words → Alike sides sides' a b
      refused (inl (fault, bad)) =
          refused-alike database conf words conf words sides sides' agree a b u v (BadWords fault) (λ front ws name e. e) (λ e. cc) (λ to at e. cc) ((u.is_run.reads.bad_words fault).1 (bad, u.fed)) ((v.is_run.reads.bad_words fault).1 (bad, v.fed))
          (u.is_run.reads.untouched (inl (fault, bad))) (v.is_run.reads.untouched (inl (fault, bad)))
      refused (inr (which, fault, bad)) =
          refused-alike database conf words conf words sides sides' agree a b u v (BadFormat which fault) (λ front ws name e. e) (λ e. cc) (λ to at e. cc) ((u.is_run.reads.bad_format which fault).1 (bad, u.fed))
          ((v.is_run.reads.bad_format which fault).1 (bad, v.fed)) (u.is_run.reads.untouched (inr (which, fault, bad))) (v.is_run.reads.untouched (inr (which, fault, bad)))

      by : AreRefused conf words ⊎ HaveSetup conf words ⊎ ((a.status ≡ NoMemory) × NothingWasRead a.old a.new) → Alike sides sides' a b
      by (inl h) = refused h
      by (inr (inl (s, says, (line, is)))) = both-alike answer law database conf words conf words sides sides' agree a b u v same s line s.jobs s.chunk says is says
      by (inr (inr e)) = absurd (u.fed e.0)

-- their words say the same but for the workers
module _ (reading : OneWords) (answer : OneAnswer) (law : ReadAsTold) (database : OneDatabase) (conf words conf' words' : List (List ℕ)) (sides sides' : Sides) (agree : SidesAgree sides sides') (a b : RunView)
    (u : IsUntroubled conf words sides a) (v : IsUntroubled conf' words' sides' b) (same : HaveSameInputs conf words a b) (say : DifferInWorkers conf words conf' words') where
  one-settings : (s : Settings) → JoinedOf conf words (Ok s) → s ≡ say.settings
  one-settings s says = let e = reading conf words (Ok s) (Ok say.settings) says say.says in cc

  pub one-run-by : Alike sides sides' a b
  one-run-by = by u.is_run.reads.decided
    where
      refused : AreRefused conf words → Alike sides sides' a b
      refused (inl (fault, bad)) = let e = reading conf words (Ok say.settings) (Err fault) say.says bad in absurd (cc e)
      refused (inr (which, fault, (s, says, bad))) =
          let bad' : IsRefused say.settings which fault = subst (λ (s : Settings). IsRefused s which fault) (one-settings s says) bad in
          let here : HaveRefused conf words which fault = (say.settings, say.says, bad') in
          let there : HaveRefused conf' words' which fault = (with_workers say.jobs say.chunk say.settings, say.says', refused-by say.settings say.jobs say.chunk which fault bad') in
          refused-alike database conf words conf' words' sides sides' agree a b u v (BadFormat which fault) (λ front ws name e. e) (λ e. cc) (λ to at e. cc) ((u.is_run.reads.bad_format which fault).1 (here, u.fed))
          ((v.is_run.reads.bad_format which fault).1 (there, v.fed)) (u.is_run.reads.untouched (inr (which, fault, here))) (v.is_run.reads.untouched (inr (which, fault, there)))

      by : AreRefused conf words ⊎ HaveSetup conf words ⊎ ((a.status ≡ NoMemory) × NothingWasRead a.old a.new) → Alike sides sides' a b
      by (inl h) = refused h
      by (inr (inl (s, says, (line, is)))) =
          both-alike answer law database conf words conf' words' sides sides' agree a b u v same say.settings line say.jobs say.chunk say.says (subst (λ (s : Settings). IsLineSetup s line) (one-settings s says) is) say.says'
      by (inr (inr e)) = absurd (u.fed e.0)
