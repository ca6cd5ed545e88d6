-- From how a task ended, and what was said of it, to a run of the tool.
use Rattle.std.proofs.Common.{◌≡◌, ◌⊎◌, ◌++◌, ◌+◌, ◌<◌, ◌≤◌, ℕ, List, [], length, take, drop, inl, inr, refl, sym, ap, ◌∙◌, subst, arith, append_assoc, ⊎_elim, true, false}
use Rattle.std.specs.Prelude.{codes}
use Rattle.std.specs.Str.{bytes_eq}
use Rattle.std.proofs.lemmas.Bool.{cases_lt}
use Rattle.std.proofs.lemmas.List.{take-append-drop, take-take}
use Rattle.ga_counters.specs.Counts.{raised, Rose}
use Rattle.ga_disk.specs.Disk.{DiskView}
use Rattle.ga_disk.specs.Images.{LeavesOnly}
use Rattle.ga_disk.specs.Sides.{Sides}
use Rattle.ga_disk.specs.Trace.{DiskTrace}
use Rattle.ga_ports.specs.Outs.{OutsView, TargetView, fails_once, takes}
use Rattle.ga_ports.specs.Trace.{OutsTrace}
use Rattle.ga_ports.specs.declared.outs.To.TheVariants.{Stderr}
use Rattle.ga_store.specs.declared.fault.StoreFault.{StoreFault}
use Rattle.ga_store.specs.declared.fault.StoreFault.TheVariants.{Damaged, DiskFault as StoreFailed}
use Rattle.ga_targets.proofs.Takes.{takes-nil}
use Rattle.ga_targets.specs.Printing.{ChangesOnly, TakesOrStops}
use Rattle.ga_dbtool.specs.DbRun.{DiskServed, HasGoodDatabases, IsDbRun, OutputServed}
use Rattle.ga_dbtool.specs.Ends.{Ends, EndsBy, EndsMerging, FailsAtCommit, LooksAtMost, MissesEither, Prints, but_errors}
use Rattle.ga_dbtool.specs.Opening.{IsUntouched, Misses, OnlyLooks}
use Rattle.ga_dbtool.specs.Outside.{DiskSeen, Disks, Outside}
use Rattle.ga_dbtool.specs.Statuses.{fault_line}
use Rattle.ga_dbtool.specs.Words.{AreBadAt, Begin, Say, StopAt, Task}
use Rattle.ga_dbtool.specs.Words.Task.{checking, dumping, merging}
use Rattle.ga_dbtool.specs.declared.status.DbStatus.{DbStatus}
use Rattle.ga_dbtool.specs.declared.status.DbStatus.TheVariants.{Done, BadWords, DiskFault, OutFault, CounterFull, DbDamaged, NoMemory, KeepDiffers, SharedEntry}

-- ---- words mean one thing

apart : (x y : List ℕ) → bytes_eq x x ≡ true → bytes_eq x y ≡ false → x ≡ y → ⊥
apart x y same other e = absurd (cc (sym same, ap (λ (w : List ℕ). bytes_eq x w) e, other))

pub one-task : (words : List (List ℕ)) (s t : Task) → Say words s → Say words t → s ≡ t
one-task words (checking d) (checking e) h g = let same : d ≡ e = cc (h.0, g.0) in ap checking same
one-task words (checking d) (dumping e) h g = let same : codes "check" ≡ codes "dump" = cc (h.0, g.0) in absurd (apart (codes "check") (codes "dump") refl refl same)
one-task words (checking d) (merging e o) h g = absurd (cc (h.0, g.0))
one-task words (dumping d) (checking e) h g = let same : codes "dump" ≡ codes "check" = cc (h.0, g.0) in absurd (apart (codes "dump") (codes "check") refl refl same)
one-task words (dumping d) (dumping e) h g = let same : d ≡ e = cc (h.0, g.0) in ap dumping same
one-task words (dumping d) (merging e o) h g = absurd (cc (h.0, g.0))
one-task words (merging d o) (checking e) h g = absurd (cc (h.0, g.0))
one-task words (merging d o) (dumping e) h g = absurd (cc (h.0, g.0))
one-task words (merging d o) (merging e p) h g =
    let first : d ≡ e = cc (h.0, g.0) in
    let second : o ≡ p = cc (h.0, g.0) in λ i. merging (first i) (second i)

-- words that are a form are no bad ones
pub not-both : (words : List (List ℕ)) (task : Task) (at : ℕ) → Say words task → AreBadAt words at → ⊥
not-both words task at say bad = by bad.stop
  where
    by : StopAt words at → ⊥
    by (inl (within, stops)) = stops (drop (at + 1) words, task, subst (λ (ws : List (List ℕ)). Say ws task) (sym (take-append-drop (at + 1) words)) say)
    by (inr (ends, none)) = none task say

-- words stop at one place: where they begin a form up to a later place, they begin one up to each before
begins-before : (words : List (List ℕ)) (i j : ℕ) → i ≤ j → j ≤ length words → Begin (take j words) → Begin (take i words)
begins-before words i j le within (more, task, say) =
    let front : take i words ≡ take i (take j words) = sym (take-take i j words le) in
    let all : take i words ++ (drop i (take j words) ++ more) ≡ take j words ++ more =
    ap (λ (ws : List (List ℕ)). ws ++ (drop i (take j words) ++ more)) front ∙ sym (append_assoc (take i (take j words)) (drop i (take j words)) more)
    ∙ ap (λ (ws : List (List ℕ)). ws ++ more) (take-append-drop i (take j words)) in
    (drop i (take j words) ++ more, task, subst (λ (ws : List (List ℕ)). Say ws task) (sym all) say)

within-words : (words : List (List ℕ)) (at : ℕ) → AreBadAt words at → at ≤ length words
within-words words at h = by h.stop
  where
    by : StopAt words at → at ≤ length words
    by (inl (lt, stops)) = omega (arith, lt)
    by (inr (is, none)) = omega (arith, is)

not-later : (words : List (List ℕ)) (i j : ℕ) → AreBadAt words i → AreBadAt words j → i < j → ⊥
not-later words i j h g lt = by h.stop
  where
    by : StopAt words i → ⊥
    by (inl (within, stops)) = stops (begins-before words (i + 1) j (omega (arith, lt)) (within-words words j g) g.before)
    by (inr (is, none)) = omega (arith, is, lt, within-words words j g)

pub one-stop : (words : List (List ℕ)) (i j : ℕ) → AreBadAt words i → AreBadAt words j → i ≡ j
one-stop words i j h g = ⊎_elim (λ lt. absurd (not-later words i j h g lt)) (λ le. ⊎_elim (λ lt. absurd (not-later words j i g h lt)) (λ ge. omega (arith, le, ge)) (cases_lt j i)) (cases_lt i j)

-- ---- standard error

said : (x mid new : OutsView) → mid ≡ but_errors mid x → ChangesOnly Stderr mid new → new ≡ but_errors new x
said x mid new e h = h ∙ ap (λ (v : OutsView). but_errors new v) e

pub prints-said : (status : DbStatus) (text : List ℕ) (old mid new : OutsView) → Prints status text old mid → ChangesOnly Stderr mid new → Prints status text old new
prints-said Done text old mid new e h = said (record old { stdout = takes text old.stdout }) mid new e h
prints-said (OutFault to at) text old mid new (is, early, e) h = (is, early, said (record old { stdout = fails_once (takes (take at text) old.stdout) }) mid new e h)
prints-said (BadWords at) text old mid new e h = said old mid new e h
prints-said (DiskFault db) text old mid new e h = said old mid new e h
prints-said (CounterFull which total) text old mid new e h = said old mid new e h
prints-said (DbDamaged db side at) text old mid new e h = said old mid new e h
prints-said NoMemory text old mid new e h = said old mid new e h
prints-said (KeepDiffers stored given) text old mid new e h = said old mid new e h
prints-said (SharedEntry left right) text old mid new e h = said old mid new e h

-- no byte of an empty line stops
nothing-taken : (old new : TargetView) → TakesOrStops [] old new → new ≡ old
nothing-taken old new (inl taken) = taken ∙ takes-nil old
nothing-taken old new (inr (at, stops)) = absurd (omega (arith, stops.early))

-- ---- the second disk

-- what a crash may leave now is all that the present moment has
abbrev pub OnlyNow : DiskSeen → Type 0
OnlyNow disk = (image : Sides) → disk.images.since disk.images.moment image → disk.images.now image

-- no side was changed, and at each moment each image is one that the disk had at the start
record IsLeft (old new : DiskSeen) : Type 0 where
  seen : new.view.seen ≡ old.view.seen
  moments : LeavesOnly old.images new.images old.images.now

untouched-left : (old new : DiskSeen) → OnlyNow old → IsUntouched old new → IsLeft old new
untouched-left old new only h = record {
  seen = ap (λ (d : DiskView). d.seen) h.view;
  moments = record {
    later = omega (arith, h.moment);
    each = λ image since. only image (h.since old.images.moment image since);
    before = λ t image within since. inl (h.since t image since);
  };
}

looked-left : (old new : DiskSeen) → OnlyLooks old new → IsLeft old new
looked-left old new h = record { seen = ap (λ (d : DiskView). d.seen) h.view; moments = h.moments }

at-most-left : (dir : List ℕ) (old new : DiskSeen) → OnlyNow old → LooksAtMost dir old new → IsLeft old new
at-most-left dir old new only (inl h) = untouched-left old new only h
at-most-left dir old new only (inr (h, opens, faults)) = looked-left old new h

misses-left : (dir other : List ℕ) (old new : Disks) (fault : StoreFault) (db : ℕ) → OnlyNow old.second → MissesEither dir other old new fault db → IsLeft old.second new.second
misses-left dir other old new fault db only (inl (is, h, still)) = untouched-left old.second new.second only still
misses-left dir other old new fault db only (inr (is, left, h)) = looked-left old.second new.second h.looks

merging-left : (dir other text : List ℕ) (old new : Disks) (status : DbStatus) → OnlyNow old.second → EndsMerging dir other text old new status → IsLeft old.second new.second
merging-left dir other text old new Done only h = looked-left old.second new.second h.comes.second.looks
merging-left dir other text old new (OutFault to at) only h = looked-left old.second new.second h.comes.second.looks
merging-left dir other text old new (DiskFault db) only (inl h) = misses-left dir other old new StoreFailed db only h
merging-left dir other text old new (DiskFault db) only (inr (is, h)) = looked-left old.second new.second h.comes.second.looks
merging-left dir other text old new (DbDamaged db side at) only h = misses-left dir other old new (Damaged side at) db only h
merging-left dir other text old new (KeepDiffers stored given) only h = looked-left old.second new.second h.opened.second.looks
merging-left dir other text old new (SharedEntry left right) only h = looked-left old.second new.second h.opened.second.looks
merging-left dir other text old new (CounterFull which total) only h = looked-left old.second new.second h.opened.second.looks
merging-left dir other text old new NoMemory only (first, second) = at-most-left other old.second new.second only second
merging-left dir other text old new (BadWords at) only h = absurd h

second-left : (task : Task) (text : List ℕ) (old new : Disks) (status : DbStatus) → OnlyNow old.second → EndsBy task text old new status → IsLeft old.second new.second
second-left (checking dir) text old new status only (h, still) = untouched-left old.second new.second only still
second-left (dumping dir) text old new status only (h, still) = untouched-left old.second new.second only still
second-left (merging dir other) text old new status only h = merging-left dir other text old new status only h

-- ---- completeness

rises : (a b : ℕ) → b ≡ raised a 1 → Rose a b
rises a b e = omega (arith, e)

module _ (old new : Outside) (first : DiskServed old.disks.first new.disks.first) (second : DiskServed old.disks.second new.disks.second)
    (output : OutputServed old.outs new.outs) where
  out-fails : (text : List ℕ) (at : ℕ) (x : TargetView) → new.outs ≡ but_errors new.outs (record old.outs { stdout = x }) → x.faults ≡ raised old.outs.stdout.faults 1 → ⊥
  out-fails text at x e faults = output (rises _ _ (ap (λ (v : OutsView). v.stdout.faults) e ∙ faults))

  misses-first : (dir : List ℕ) → Misses dir old.disks.first new.disks.first StoreFailed → ⊥
  misses-first dir h = first (rises _ _ h.cause)

  misses-either : (dir other : List ℕ) (db : ℕ) → MissesEither dir other old.disks new.disks StoreFailed db → ⊥
  misses-either dir other db (inl (is, h, still)) = misses-first dir h
  misses-either dir other db (inr (is, left, h)) = second (rises _ _ h.cause)

  at-commit : (dir other : List ℕ) → FailsAtCommit dir other old.disks new.disks → ⊥
  at-commit dir other h = first (rises _ _ (h.fault ∙ ap (λ (n : ℕ). raised n 1) h.comes.first.faults))

  disk-fails : (task : Task) (text : List ℕ) (db : ℕ) → EndsBy task text old.disks new.disks (DiskFault db) → ⊥
  disk-fails (checking dir) text db ((is, h), still) = misses-first dir h
  disk-fails (dumping dir) text db ((is, h), still) = misses-first dir h
  disk-fails (merging dir other) text db (inl h) = misses-either dir other db h
  disk-fails (merging dir other) text db (inr (is, h)) = at-commit dir other h

  bad-words : (task : Task) (text : List ℕ) (at : ℕ) → EndsBy task text old.disks new.disks (BadWords at) → ⊥
  bad-words (checking dir) text at (h, still) = h
  bad-words (dumping dir) text at (h, still) = h
  bad-words (merging dir other) text at h = h

  complete-by : (task : Task) (status : DbStatus) (text : List ℕ) → EndsBy task text old.disks new.disks status → Prints status text old.outs new.outs → HasGoodDatabases status
      → (status ≡ Done) ⊎ (status ≡ NoMemory)
  complete-by task Done text h p good = inl refl
  complete-by task NoMemory text h p good = inr refl
  complete-by task (OutFault to at) text h (is, early, e) good = absurd (out-fails text at (fails_once (takes (take at text) old.outs.stdout)) e refl)
  complete-by task (DiskFault db) text h p good = absurd (disk-fails task text db h)
  complete-by task (BadWords at) text h p good = absurd (bad-words task text at h)
  complete-by task (DbDamaged db side at) text h p good = absurd (good.whole db side at refl)
  complete-by task (KeepDiffers stored given) text h p good = absurd (good.agree stored given refl)
  complete-by task (SharedEntry left right) text h p good = absurd (good.apart left right refl)
  complete-by task (CounterFull which total) text h p good = absurd (good.counters which total refl)

no-bad-words : (task : Task) (text : List ℕ) (old new : Disks) (at : ℕ) → EndsBy task text old new (BadWords at) → ⊥
no-bad-words (checking dir) text old new at (h, still) = h
no-bad-words (dumping dir) text old new at (h, still) = h
no-bad-words (merging dir other) text old new at h = h

-- ---- the run

abbrev after : Disks → OutsView → Outside
after disks outs = record { disks = disks; outs = outs }

module _ (words : List (List ℕ)) (old : Outside) (disks : Disks) (mid new : OutsView) (status : DbStatus) (only1 : OnlyNow old.disks.second)
    (errors : mid.stderr ≡ old.outs.stderr) (line : TakesOrStops (fault_line status) mid.stderr new.stderr) (others : ChangesOnly Stderr mid new)
    (trace0 : DiskTrace old.disks.first.view disks.first.view) (trace1 : DiskTrace old.disks.second.view disks.second.view) (trace : OutsTrace old.outs new) where
  line-since : TakesOrStops (fault_line status) old.outs.stderr new.stderr
  line-since = subst (λ (t : TargetView). TakesOrStops (fault_line status) t new.stderr) errors line

  pub run-of : (task : Task) → Say words task → Ends task old (after disks mid) status → IsDbRun words old (after disks new) status
  run-of task say h = record {
    bad_words = λ at. (
      λ e. absurd (no-bad-words task h.text old.disks disks at (subst (λ (s : DbStatus). EndsBy task h.text old.disks disks s) e h.ends)),
      λ bad. absurd (not-both words task at say bad),
    );
    refused = λ at bad. absurd (not-both words task at say bad);
    decided = inr (task, say);
    ends = λ t says. subst (λ (one : Task). Ends one old (after disks new) status) (one-task words task t say says) since;
    unwritten = left.seen;
    unchanged = left.moments;
    complete = λ t says first second output good. complete-by old (after disks new) first second output task status h.text since.ends since.prints good;
    line = line-since;
    quiet = λ e. nothing-taken old.outs.stderr new.stderr (subst (λ (s : DbStatus). TakesOrStops (fault_line s) old.outs.stderr new.stderr) e line-since);
    first_trace = trace0;
    second_trace = trace1;
    outs_trace = trace;
  }
    where
      since : Ends task old (after disks new) status
      since = record { text = h.text; ends = h.ends; prints = prints-said status h.text old.outs mid new h.prints others }

      left : IsLeft old.disks.second disks.second
      left = second-left task h.text old.disks disks status only1 h.ends

-- words that are no form
module _ (words : List (List ℕ)) (old : Outside) (new : OutsView) (at : ℕ) (only1 : OnlyNow old.disks.second) (bad : AreBadAt words at)
    (line : TakesOrStops (fault_line (BadWords at)) old.outs.stderr new.stderr) (others : ChangesOnly Stderr old.outs new) (trace0 : DiskTrace old.disks.first.view old.disks.first.view)
    (trace1 : DiskTrace old.disks.second.view old.disks.second.view) (trace : OutsTrace old.outs new) where
  still : (disk : DiskSeen) → IsUntouched disk disk
  still disk = record { view = refl; moment = refl; now = λ image h. h; since = λ t image h. h }

  one-place : (other : ℕ) → AreBadAt words other → other ≡ at
  one-place other h = one-stop words other at h bad

  pub run-bad : IsDbRun words old (after old.disks new) (BadWords at)
  run-bad = record {
    bad_words = λ other. (λ e. let same : at ≡ other = cc in subst (AreBadAt words) same bad, λ h. ap BadWords (sym (one-place other h)));
    refused = λ other h. record { first = still old.disks.first; second = still old.disks.second; outs = others };
    decided = inl (at, bad);
    ends = λ task say. absurd (not-both words task at say bad);
    unwritten = refl;
    unchanged = (untouched-left old.disks.second old.disks.second only1 (still old.disks.second)).moments;
    complete = λ task say first second output good. absurd (not-both words task at say bad);
    line = line;
    quiet = λ e. absurd (cc e);
    first_trace = trace0;
    second_trace = trace1;
    outs_trace = trace;
  }
