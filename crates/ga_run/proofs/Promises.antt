-- Each step keeps what is promised of it, and so does each list of steps.
use Rattle.std.proofs.Common.{◌≡◌, ◌⊎◌, ℕ, Bool, true, false, List, [], ◌∷◌, ◌++◌, refl, ap, sym, ◌∙◌, subst, inl, inr, Option, Some, None, Ok}
use Rattle.std.proofs.lemmas.Grind.{flat_map-append}
use Rattle.std.proofs.lemmas.List.{append-nil}
use Rattle.std.specs.List.{AllByRecursion}
use Rattle.ga_codec.specs.Values.{EntryValue}
use Rattle.ga_disk.specs.Laws.{reads-as-image}
use Rattle.ga_disk.specs.MemDisk.{AreImages, DiskState, bytes_of, states}
use Rattle.ga_disk.specs.Pick.{crashed}
use Rattle.ga_disk.specs.Sides.{Sides}
use Rattle.ga_ports.specs.MemFiles.{after_growth, after_renaming, files_view}
use Rattle.ga_ports.specs.MemOuts.{outs_view}
use Rattle.ga_store.specs.Database.{DbOf, DbValue, empty_db}
use Rattle.ga_store.specs.Database.DbOf.{nothing}
use Rattle.ga_store.specs.Database.Reading.{stored as reads_as}
use Rattle.ga_summary.specs.Outcomes.{Outcome}
use Rattle.ga_words.specs.declared.settings.Settings.{Settings}
use Rattle.ga_one_run.specs.Configured.{SayOver}
use Rattle.ga_one_run.specs.declared.status.Status.{Status}
use Rattle.ga_one_run.specs.declared.status.Status.TheVariants.{Done, BadWords, BadConf, BadFormat, BadRules, FileFault, FileShort, DiskFault, DbDamaged, KeepDiffers, OutFault, CounterFull, NoMemory}
use Rattle.ga_run.specs.Headline.{Changes, FailsOnlyBy, HasRuns, Headline, Holds, IfRun, IsAcknowledged, IsKeptAs, KeepsAll, Kept, RunCount, LacksLast, OnlyAppended, PrintsExactly, RunKeeps, StepKeeps, all_parts, entries_after, found_entries, found_outcomes, none_kept, outcomes_of, with_run, words_of}
use Rattle.ga_run.specs.Headline.Changes.{adds, falls, stays}
use Rattle.ga_run.specs.History.{History, IsBlank, Runs, Steps, with_bound, with_crash}
use Rattle.ga_run.specs.History.History.{no_step, step_then}
use Rattle.ga_run.specs.declared.history.Step.{Step}
use Rattle.ga_run.specs.declared.history.Step.TheVariants.{Grow, Rename, Run, Crash}
use Rattle.ga_run.specs.declared.history.World.{World}
use Rattle.ga_run.specs.Parts.{AreToldApart, EachOnce, IsToldApart, Part}
use Rattle.ga_run.proofs.Appending.{grown-logs, renamed-logs}
use Rattle.ga_run.proofs.EachOnce.{Tracks, front, no-tracks}
use Rattle.ga_run.proofs.Beginning.{appends-none, done-by, fails-in, made-by}
use Rattle.ga_run.proofs.Effects.{Adds, Made}
use Rattle.ga_run.proofs.Effects.Made.{more, same}
use Rattle.ga_run.proofs.Growing.{apart-before, tracks-grown}
use Rattle.ga_run.proofs.Staying.{stay}
use Rattle.ga_run.proofs.Words.{one-over}
use Rattle.ga_run.proofs.Kept.{Laws, entries-with, no-runs, outcomes-with}

-- where digests tell the logs apart, the entries after these runs track the logs, and so did those after each list that stood
-- before
abbrev Follows : List (List ℕ × List ℕ) → List RunCount → Type 0
Follows logs runs = AreToldApart logs (all_parts runs) → Tracks logs (all_parts runs) (entries_after [] runs)

abbrev FollowsAll : List (List ℕ × List ℕ) → Kept → Type 0
FollowsAll logs kept = AllByRecursion (Follows logs) (kept.runs ∷ kept.earlier)

-- the promise of a step, with the kept runs after it
abbrev Kept-by : Step → Option Status → World → World → Kept → Type 0
Kept-by step status old new kept = (kept' : Kept) × StepKeeps step status old new kept kept' × FollowsAll new.files.contents kept'

follow-grown : (logs later : List (List ℕ × List ℕ)) → OnlyAppended logs later → (runs : List RunCount) → Follows logs runs → Follows later runs
follow-grown logs later grown runs follows apart =
    tracks-grown logs later grown (all_parts runs) apart (entries_after [] runs) (follows (apart-before logs later grown (all_parts runs) apart))

all-grown : (logs later : List (List ℕ × List ℕ)) → OnlyAppended logs later → (lists : List (List RunCount)) → AllByRecursion (Follows logs) lists → AllByRecursion (Follows later) lists
all-grown logs later grown [] h = tt
all-grown logs later grown (runs ∷ lists) h = (follow-grown logs later grown runs h.0, all-grown logs later grown lists h.1)

once-of : (logs : List (List ℕ × List ℕ)) (runs : List RunCount) → Follows logs runs → AreToldApart logs (all_parts runs) → EachOnce logs (all_parts runs)
once-of logs runs follows apart = (follows apart).parts_once

module _ (laws : Laws) (kept : Kept) (db : DbValue) where
  -- ---- a log grew or changed its name

  of-change : (step : Step) (old new : World) → Holds kept db old → FollowsAll old.files.contents kept → new.disk ≡ old.disk → OnlyAppended old.files.contents new.files.contents
      → IfRun step None (λ words ended. RunKeeps words ended old new kept kept) → Kept-by step None old new kept
  of-change step old new held all same-disk appended quiet = (
    kept,
    record {
      appended = appended;
      db = db;
      held = held;
      db' = db;
      holds = record {
        reads = subst (λ (d : DiskState). DbOf (bytes_of (states d)) (reads_as db)) (sym same-disk) held.reads;
        has = held.has;
        images = subst (λ (d : DiskState). (image : Sides) → AreImages (states d) image → DbOf image (reads_as db) ⊎ LacksLast kept db image) (sym same-disk) held.images;
      };
      changes = stays refl refl;
      stay = stay step None old db db kept kept (stays refl refl);
      once = once-of new.files.contents kept.runs (follow-grown old.files.contents new.files.contents appended kept.runs all.0);
      run = quiet;
    },
    all-grown old.files.contents new.files.contents appended (kept.runs ∷ kept.earlier) all,
  )

  -- ---- a run

  module _ (step : Step) (words : List (List ℕ)) (is_run : words_of step ≡ Some words) (status : Status) (old mid : World) (h : Runs words status old mid)
      (held : Holds kept db old) (all : FollowsAll old.files.contents kept) where
    -- the kept runs with this one
    abbrev with-own : Adds words status old kept db mid → Kept
    with-own a = record { runs = with_run a.s.restore a.run kept.runs; earlier = kept.runs ∷ kept.earlier }

    kept-as : (a : Adds words status old kept db mid) → IsKeptAs words a.s old.files kept.runs a.run
    kept-as a = record { says = a.says; line = a.line; means = a.means; persists = a.persists; counts = a.counts }

    as-added : (a : Adds words status old kept db mid) → Changes step (Some status) old db a.after kept (with-own a)
    as-added a = adds words a.s a.run a.rises is_run (ap Some (sym a.ended)) (kept-as a)

    -- what holds of a run that is added
    run-added : (a : Adds words status old kept db mid) → RunKeeps words status old mid kept (with-own a)
    run-added a = record {
      done = done-by laws kept db old mid held words status h;
      tracked = λ s says is done. tracked-by s says done (one-over laws words (files_view old.files) a.s s a.says says);
      acknowledged = λ s says persists ack. acknowledged-by s (one-over laws words (files_view old.files) a.s s a.says says);
      fails = fails-in laws kept db old mid held words status h;
    }
      where
        acknowledged-by : (s : Settings) → s ≡ a.s → (run : RunCount) × (run.status ≡ status) × IsKeptAs words s old.files kept.runs run × (with_run a.s.restore a.run kept.runs ≡ with_run s.restore run kept.runs)
        acknowledged-by s e =
            (a.run, a.ended, subst (λ (x : Settings). IsKeptAs words x old.files kept.runs a.run) (sym e) (kept-as a), ap (λ (x : Settings). with_run x.restore a.run kept.runs) (sym e))

        tracked-by : (s : Settings) → SayOver words (files_view old.files) (Ok s) → status ≡ Done → s ≡ a.s → PrintsExactly s (outcomes_of (with_run a.s.restore a.run kept.runs)) (outs_view old.outs) (outs_view mid.outs)
        tracked-by s says done e =
            subst (λ (all : List Outcome). PrintsExactly s all (outs_view old.outs) (outs_view mid.outs)) (sym (outcomes-with a.s.restore a.run kept.runs))
            (subst (λ (x : Settings). PrintsExactly x (found_outcomes a.s.restore kept.runs ++ a.run.outcomes) (outs_view old.outs) (outs_view mid.outs)) (sym e) (a.prints done))

    -- and of one that isn't
    run-same : (kept' : Kept) → ((s : Settings) → SayOver words (files_view old.files) (Ok s) → s.persist ≡ true → IsAcknowledged status → ⊥) → RunKeeps words status old mid kept kept'
    run-same kept' not = record {
      done = done-by laws kept db old mid held words status h;
      tracked = λ s says is done. absurd (not s says is.1 (subst (λ (x : Status). IsAcknowledged x) (sym done) tt));
      acknowledged = λ s says persists ack. absurd (not s says persists ack);
      fails = fails-in laws kept db old mid held words status h;
    }

    appended : OnlyAppended old.files.contents mid.files.contents
    appended = appends-none laws kept db old mid held words status h

    all-same : FollowsAll mid.files.contents kept
    all-same = all-grown old.files.contents mid.files.contents appended (kept.runs ∷ kept.earlier) all

    follows-added : (a : Adds words status old kept db mid) → Follows old.files.contents (with_run a.s.restore a.run kept.runs)
    follows-added a apart = go a.s.restore a.once apart
      where
        found_parts : Bool → List Part
        found_parts true = all_parts kept.runs
        found_parts false = []

        parts-with : (b : Bool) → all_parts (with_run b a.run kept.runs) ≡ found_parts b ++ a.run.parts
        parts-with true =
            flat_map-append (λ (r : RunCount). r.parts) kept.runs (a.run ∷ []) ∙ ap (λ (last : List Part). all_parts kept.runs ++ last) (append-nil a.run.parts)
        parts-with false = append-nil a.run.parts

        found-tracks : (b : Bool) → AreToldApart old.files.contents (found_parts b ++ a.run.parts) → Tracks old.files.contents (found_parts b) (found_entries b kept.runs)
        found-tracks true told = all.0 (front (IsToldApart old.files.contents) (all_parts kept.runs) a.run.parts told)
        found-tracks false told = no-tracks old.files.contents

        go : (b : Bool) → ((parts : List Part) → AreToldApart old.files.contents (parts ++ a.run.parts) → Tracks old.files.contents parts (found_entries b kept.runs)
            → Tracks old.files.contents (parts ++ a.run.parts) a.run.entries)
            → AreToldApart old.files.contents (all_parts (with_run b a.run kept.runs)) → Tracks old.files.contents (all_parts (with_run b a.run kept.runs)) (entries_after [] (with_run b a.run kept.runs))
        go b grows told =
            let told' : AreToldApart old.files.contents (found_parts b ++ a.run.parts) = subst (λ (ps : List Part). AreToldApart old.files.contents ps) (parts-with b) told in
            subst (λ (es : List EntryValue). Tracks old.files.contents (all_parts (with_run b a.run kept.runs)) es) (sym (entries-with b a.run kept.runs))
            (subst (λ (ps : List Part). Tracks old.files.contents ps a.run.entries) (sym (parts-with b)) (grows (found_parts b) told' (found-tracks b told')))

    all-added : (a : Adds words status old kept db mid) → FollowsAll mid.files.contents (with-own a)
    all-added a = (
      follow-grown old.files.contents mid.files.contents appended (with_run a.s.restore a.run kept.runs) (follows-added a),
      all-same,
    )

    -- the disk has the kept runs and this one, which may lack where it isn't acknowledged
    holds-added : (a : Adds words status old kept db mid) → Holds (with-own a) a.after mid
    holds-added a = record { reads = a.reads; has = a.has; images = λ image now. each image (a.images image now) }
      where
        each : (image : Sides) → DbOf image (reads_as a.after) ⊎ ((¬ IsAcknowledged status) × DbOf image (reads_as db)) → DbOf image (reads_as a.after) ⊎ LacksLast (with-own a) a.after image
        each image (inl has) = inl has
        each image (inr (unsure, reads)) = inr (record {
          restores = a.s.restore;
          run = a.run;
          before = kept.runs;
          earlier = kept.earlier;
          is = refl;
          unsure = λ ack. unsure (subst (λ (x : Status). IsAcknowledged x) a.ended ack);
          had = db;
          has = held.has;
          rises = a.rises;
          reads = reads;
        })

  -- after a crash the disk has these runs alone
  crashed-holds : (pick : List ℕ) (mid : World) (kept' : Kept) (db' : DbValue) → DbOf (crashed pick (states mid.disk)) (reads_as db') → HasRuns kept'.runs db'
      → Holds kept' db' (with_crash pick mid)
  crashed-holds pick mid kept' db' reads has = record {
    reads = reads;
    has = has;
    images = λ image now. inl (subst (λ (x : Sides). DbOf x (reads_as db')) (sym (laws.settled pick mid.disk image now)) reads);
  }

  run-step : (words : List (List ℕ)) (status : Status) (old new : World) → Runs words status old new → Holds kept db old → FollowsAll old.files.contents kept → Kept-by (Run words) (Some status) old new kept
  run-step words status old new h held all = by (made-by laws kept db old new held words status h)
    where
      by : Made words status old kept db new → Kept-by (Run words) (Some status) old new kept
      by (same holds not) = (
        kept,
        record {
          appended = appended (Run words) words refl status old new h held all;
          db = db;
          held = held;
          db' = db;
          holds = holds;
          changes = stays refl refl;
          stay = stay (Run words) (Some status) old db db kept kept (stays refl refl);
          once = once-of new.files.contents kept.runs (all-same (Run words) words refl status old new h held all).0;
          run = run-same (Run words) words refl status old new h held all kept not;
        },
        all-same (Run words) words refl status old new h held all,
      )
      by (more a) = (
        with-own (Run words) words refl status old new h held all a,
        record {
          appended = appended (Run words) words refl status old new h held all;
          db = db;
          held = held;
          db' = a.after;
          holds = holds-added (Run words) words refl status old new h held all a;
          changes = as-added (Run words) words refl status old new h held all a;
          stay = stay (Run words) (Some status) old db a.after kept (with-own (Run words) words refl status old new h held all a) (as-added (Run words) words refl status old new h held all a);
          once = once-of new.files.contents (with-own (Run words) words refl status old new h held all a).runs (all-added (Run words) words refl status old new h held all a).0;
          run = run-added (Run words) words refl status old new h held all a;
        },
        all-added (Run words) words refl status old new h held all a,
      )

  -- ---- a run, and a crash after it

  module _ (words : List (List ℕ)) (calls : ℕ) (pick : List ℕ) (status : Status) (old mid : World) (h : Runs words status (with_bound calls old) mid) (held : Holds kept db old)
      (all : FollowsAll old.files.contents kept) where
    abbrev this : Step
    this = Crash words calls pick

    held-bound : Holds kept db (with_bound calls old)
    held-bound = record { reads = held.reads; has = held.has; images = held.images }

    fails-on : (st : Status) → FailsOnlyBy words (with_bound calls old) mid st → FailsOnlyBy words old (with_crash pick mid) st
    fails-on Done f = f
    fails-on (BadWords fault) f = f
    fails-on (BadConf line) f = f
    fails-on (BadFormat which fault) f = f
    fails-on (BadRules at) f = f
    fails-on (FileFault file) f = f
    fails-on (FileShort file at) f = f
    fails-on DiskFault f = f
    fails-on (DbDamaged side at) f = f
    fails-on (KeepDiffers number given) f = f
    fails-on (OutFault to at) f = f
    fails-on (CounterFull which total) f = f
    fails-on NoMemory f = f

    -- what holds of the run holds of the step
    keeps-on : (kept' : Kept) → RunKeeps words status (with_bound calls old) mid kept kept' → RunKeeps words status old (with_crash pick mid) kept kept'
    keeps-on kept' r = record {
      done = λ s says e. (let d = r.done s says e in (d.0, d.1, record { run = d.2.run; counts = d.2.counts; prints = d.2.prints }));
      tracked = r.tracked;
      acknowledged = r.acknowledged;
      fails = fails-on status r.fails;
    }

    logs-kept : OnlyAppended old.files.contents mid.files.contents
    logs-kept = appended this words refl status (with_bound calls old) mid h held-bound all

    all-left : FollowsAll mid.files.contents kept
    all-left = all-same this words refl status (with_bound calls old) mid h held-bound all

    abbrev left : Sides
    left = crashed pick (states mid.disk)

    is-image : AreImages (states mid.disk) left
    is-image = laws.crash pick mid.disk

    -- the disk has the runs from before
    back-same : ((s : Settings) → SayOver words (files_view old.files) (Ok s) → s.persist ≡ true → IsAcknowledged status → ⊥) → DbOf left (reads_as db) → Kept-by this (Some status) old (with_crash pick mid) kept
    back-same not reads = (
      kept,
      record {
        appended = logs-kept;
        db = db;
        held = held;
        db' = db;
        holds = crashed-holds pick mid kept db reads held.has;
        changes = stays refl refl;
        stay = stay this (Some status) old db db kept kept (stays refl refl);
        once = once-of mid.files.contents kept.runs all-left.0;
        run = keeps-on kept (run-same this words refl status (with_bound calls old) mid h held-bound all kept not);
      },
      all-left,
    )

    -- it lost the last of them
    back-less : ((s : Settings) → SayOver words (files_view old.files) (Ok s) → s.persist ≡ true → IsAcknowledged status → ⊥) → LacksLast kept db left → Kept-by this (Some status) old (with_crash pick mid) kept
    back-less not l =
        let less : Kept = record { runs = l.before; earlier = l.earlier } in
        let less-left : FollowsAll mid.files.contents less = (subst (λ (k : Kept). FollowsAll mid.files.contents k) l.is all-left).1 in
        let lost : Changes this (Some status) old db l.had kept less = subst (λ (k : Kept). Changes this (Some status) old db l.had k less) (sym l.is) (falls l.restores l.run l.before l.earlier l.rises l.unsure) in (
          less,
          record {
            appended = logs-kept;
            db = db;
            held = held;
            db' = l.had;
            holds = crashed-holds pick mid less l.had l.reads l.has;
            changes = lost;
            stay = stay this (Some status) old db l.had kept less lost;
            once = once-of mid.files.contents l.before less-left.0;
            run = keeps-on less (run-same this words refl status (with_bound calls old) mid h held-bound all less not);
          },
          less-left,
        )

    -- it has the run
    back-more : (a : Adds words status (with_bound calls old) kept db mid) → DbOf left (reads_as a.after) → Kept-by this (Some status) old (with_crash pick mid) kept
    back-more a reads =
        let grown : Kept = with-own this words refl status (with_bound calls old) mid h held-bound all a in
        let gained : Changes this (Some status) old db a.after kept grown =
        adds words a.s a.run a.rises refl (ap Some (sym a.ended)) (kept-as this words refl status (with_bound calls old) mid h held-bound all a) in (
          grown,
          record {
            appended = logs-kept;
            db = db;
            held = held;
            db' = a.after;
            holds = crashed-holds pick mid grown a.after reads a.has;
            changes = gained;
            stay = stay this (Some status) old db a.after kept grown gained;
            once = once-of mid.files.contents grown.runs (all-added this words refl status (with_bound calls old) mid h held-bound all a).0;
            run = keeps-on grown (run-added this words refl status (with_bound calls old) mid h held-bound all a);
          },
          all-added this words refl status (with_bound calls old) mid h held-bound all a,
        )

    crash-step : Kept-by this (Some status) old (with_crash pick mid) kept
    crash-step = by (made-by laws kept db (with_bound calls old) mid held-bound words status h)
      where
        by : Made words status (with_bound calls old) kept db mid → Kept-by this (Some status) old (with_crash pick mid) kept
        by (same holds not) = go (holds.images left is-image)
          where
            go : DbOf left (reads_as db) ⊎ LacksLast kept db left → Kept-by this (Some status) old (with_crash pick mid) kept
            go (inl reads) = back-same not reads
            go (inr l) = back-less not l
        by (more a) = go (a.images left is-image)
          where
            go : DbOf left (reads_as a.after) ⊎ ((¬ IsAcknowledged status) × DbOf left (reads_as db)) → Kept-by this (Some status) old (with_crash pick mid) kept
            go (inl reads) = back-more a reads
            go (inr (unsure, reads)) = back-same (λ s says persists ack. unsure ack) reads

  step-keeps : (step : Step) (status : Option Status) (old new : World) → Holds kept db old → FollowsAll old.files.contents kept → Steps step status old new
      → Kept-by step status old new kept
  step-keeps (Grow name bytes) None old new held all h =
      subst (λ (w : World). Kept-by (Grow name bytes) None old w kept) (sym h)
      (of-change (Grow name bytes) old (record old { files = after_growth name bytes old.files }) held all refl (grown-logs name bytes old.files.contents) tt)
  step-keeps (Grow name bytes) (Some status) old new held all h = absurd h
  step-keeps (Rename from to) None old new held all h =
      subst (λ (w : World). Kept-by (Rename from to) None old w kept) (sym h)
      (of-change (Rename from to) old (record old { files = after_renaming from to old.files }) held all refl (renamed-logs from to old.files.contents) tt)
  step-keeps (Rename from to) (Some status) old new held all h = absurd h
  step-keeps (Run words) None old new held all h = absurd h
  step-keeps (Run words) (Some status) old new held all h = run-step words status old new h held all
  step-keeps (Crash words calls pick) None old new held all h = absurd h
  step-keeps (Crash words calls pick) (Some status) old new held all (mid, h, is) =
      subst (λ (w : World). Kept-by (Crash words calls pick) (Some status) old w kept) (sym is) (crash-step words calls pick status old mid h held all)

-- the database of a world in which nothing stands is empty
blank-holds : (w : World) → IsBlank w → Holds none_kept empty_db w
blank-holds w blank = record {
  reads = empty (bytes_of (states w.disk)) (blank.disk (bytes_of (states w.disk)) (reads-as-image w.disk));
  has = no-runs;
  images = λ image now. inl (empty image (blank.disk image now));
}
  where
    empty : (image : Sides) → image ≡ record { side0 = []; side1 = [] } → DbOf image (reads_as empty_db)
    empty image e = subst (λ (x : Sides). DbOf x (reads_as empty_db)) (sym e) (nothing refl refl)

all-keep : (laws : Laws) {steps : List Step} {statuses : List Status} {old new : World} (history : History steps statuses old new) (kept : Kept) (db : DbValue) → Holds kept db old
    → FollowsAll old.files.contents kept → KeepsAll history kept
all-keep laws no_step kept db held all = tt
all-keep laws (step_then {step = step} {old = old} {mid = mid} status made later) kept db held all =
    let first : Kept-by step status old mid kept = step-keeps laws kept db step status old mid held all made in
    (first.0, first.1, all-keep laws later first.0 first.1.db' first.1.holds first.2)

pub headline : Laws → (steps : List Step) (statuses : List Status) (old new : World) → Headline steps statuses old new
headline laws steps statuses old new blank history = all-keep laws history none_kept empty_db (blank-holds old blank) ((λ apart. no-tracks old.files.contents), tt)
