-- What a run leaves of its disk, from how it ended.
use Rattle.std.proofs.Common.{◌≡◌, ℕ, ◌||◌, Bool, ap, sym, ◌∙◌, subst, inl, inr, true, false, Option, Some, None, IfSome}
use Rattle.std.proofs.lemmas.Bool.{false≢true}
use Rattle.ga_base.specs.declared.counts.Counter.{Counter}
use Rattle.ga_disk.specs.Disk.{DiskView}
use Rattle.ga_disk.specs.Sides.{Sides}
use Rattle.ga_keep.specs.RunDatabase.{Finds, IsUntouched, LooksAtMost, OnlyLooks, uses_database}
use Rattle.ga_line.specs.declared.setup.LineSetup.{LineSetup}
use Rattle.ga_resume.specs.declared.fault.PlaceFault.{PlaceFault}
use Rattle.ga_resume.specs.declared.fault.PlaceFault.TheVariants.{FileFault as PlaceFailed, FileShort as PlaceShort}
use Rattle.ga_store.specs.Commits.{HasEither}
use Rattle.ga_store.specs.Database.{DbOf, DbValue}
use Rattle.ga_store.specs.Database.Reading.{stored as reads_as}
use Rattle.ga_words.specs.declared.settings.Settings.{Settings}
use Rattle.ga_one_run.specs.Ends.{Ends, FailsAtLast, FillsGenerations, HasReport, MissesInput}
use Rattle.ga_one_run.specs.Keeping.{FindsThere, KeepsSince, KeptSince, MayKeepSince}
use Rattle.ga_one_run.specs.Leaves.{AllRead, Leaves, LeavesEither, LeavesSides, SettlesBy}
use Rattle.ga_one_run.specs.Outside.{Outside}
use Rattle.ga_one_run.specs.declared.status.Input.{Input}
use Rattle.ga_one_run.specs.declared.status.Input.TheVariants.{Conf, Rules, Log}
use Rattle.ga_one_run.specs.declared.status.Status.{Status}
use Rattle.ga_one_run.specs.declared.status.Status.TheVariants.{Done, BadWords, BadConf, BadFormat, BadRules, FileFault, FileShort, DiskFault, DbDamaged, KeepDiffers, OutFault, CounterFull, NoMemory}
use Rattle.ga_one_run.proofs.InputsEnds.{looked-at}
use Rattle.ga_one_run.proofs.Moments.{OnlyNow, untouched-leaves}
use Rattle.ga_one_run.proofs.Telling.{seen-same}

-- a run that persists uses the database
persists-uses : (s : Settings) → s.persist ≡ true → uses_database s ≡ true
persists-uses s persists = ap (λ (b : Bool). b || s.restore) persists

-- what holds of two facts on a value that is told
both-told : {A : Type 0} (P Q R : A → Type 0) (o : Option A) → ((x : A) → P x → Q x → R x) → IfSome o P → IfSome o Q → IfSome o R
both-told P Q R None step p q = tt
both-told P Q R (Some x) step p q = step x p q

-- a disk that was opened and looked at is as steady as before
steady-same : (s : Settings) (d d' : DiskView) (stored : DbValue) → FindsThere s d d' stored → d'.steady ≡ d.steady
steady-same s d d' stored (inl (uses, h)) = ap (λ (v : DiskView). v.steady) h.view
steady-same s d d' stored (inr (none, left, empty)) = ap (λ (v : DiskView). v.steady) left

-- a run that persists found this in the sides
had : (s : Settings) (d d' : DiskView) (stored : DbValue) → s.persist ≡ true → FindsThere s d d' stored → IfSome d.seen (λ sides. DbOf sides (reads_as stored))
had s d d' stored persists (inl (uses, h)) = h.has
had s d d' stored persists (inr (none, left, empty)) = absurd (false≢true (sym none ∙ persists-uses s persists))

module _ (line : LineSetup) (s : Settings) (old new : Outside) (only : OnlyNow old.images) where
  -- ---- no side was changed

  of-looks : OnlyLooks old.disk new.disk old.images new.images → LeavesSides old new
  of-looks h = record { seen = ap (λ (d : DiskView). d.seen) h.view; moments = h.moments }

  pub of-untouched : IsUntouched old.disk new.disk old.images new.images → LeavesSides old new
  of-untouched h = record { seen = ap (λ (d : DiskView). d.seen) h.view; moments = untouched-leaves old.disk new.disk old.images new.images only h }

  of-looked : LooksAtMost s old.disk new.disk old.images new.images → LeavesSides old new
  of-looked (inl left) = of-untouched left
  of-looked (inr looked) = of-looks looked.looks

  of-finds : (stored : DbValue) → Finds s old.disk new.disk old.images new.images stored → LeavesSides old new
  of-finds stored finds = of-looked (looked-at s old.disk new.disk old.images new.images stored finds)

  of-input : (file : Input) (fault : PlaceFault) → MissesInput line s old new file fault → LeavesSides old new
  of-input Conf fault h = absurd h
  of-input Rules fault (name, named, misses, left) = of-untouched left
  of-input (Log place) fault h = of-finds h.begun.stored h.begun.finds

  of-full : (which : Counter) (total : ℕ) → FillsGenerations line s old new which total → LeavesSides old new
  of-full which total h = record { seen = seen-same s old.disk new.disk h.come.stored h.come.finds; moments = h.moments }

  -- ---- the run was kept, or the disk failed while it was

  module _ (status : Status) (stored after : DbValue) where
    kept-so : (AllRead after new → SettlesBy status stored after old new) → (sides : Sides) → KeepsSince stored after new.disk old.images new.images → DbOf sides (reads_as stored)
        → LeavesEither sides stored after old new status
    kept-so settles sides k has = record {
      had = has;
      rises = k.later;
      moments = k.moments;
      either = λ image now. inr (k.all image now);
      reads = told new.disk.seen k.reads;
      settles = settles (record { all = k.all; reads = k.reads });
    }
      where
        told : (o : Option Sides) → IfSome o (λ seen. DbOf seen (reads_as after)) → IfSome o (HasEither stored after)
        told None h = tt
        told (Some seen) h = inr h

  failed-so : (stored after : DbValue) (found : DiskView) → found.steady ≡ old.disk.steady → (sides : Sides) → MayKeepSince stored after found new.disk old.images new.images → DbOf sides (reads_as stored)
      → LeavesEither sides stored after old new DiskFault
  failed-so stored after found steady sides k has = record {
    had = has;
    rises = k.later;
    moments = k.moments;
    either = k.either;
    reads = k.reads;
    settles = λ e. k.stays (steady ∙ e);
  }

  of-report : (status : Status) → ((stored after : DbValue) → AllRead after new → SettlesBy status stored after old new) → HasReport line s old new → Leaves line s old new status
  of-report status settles h = go h.kept
    where
      go : KeptSince s h.come.stored h.come.counted.whole h.come.counted.entries' h.found new.disk old.images new.images → Leaves line s old new status
      go (inl (persists, k)) = inr (record {
        persists = persists;
        found = h.found;
        come = h.come;
        after = k.new;
        is_after = k.after;
        leaves = both-told (λ seen. KeepsSince h.come.stored k.new new.disk old.images new.images) (λ sides. DbOf sides (reads_as h.come.stored)) (λ sides. LeavesEither sides h.come.stored k.new old new status) old.disk.seen
            (kept-so status h.come.stored k.new (settles h.come.stored k.new))
            (subst (λ (o : Option Sides). IfSome o (λ seen. KeepsSince h.come.stored k.new new.disk old.images new.images)) (seen-same s old.disk h.found h.come.stored h.come.finds) k.keeps)
            (had s old.disk h.found h.come.stored persists h.come.finds);
      })
      go (inr (not, left)) = inl (record { seen = ap (λ (d : DiskView). d.seen) left.view ∙ seen-same s old.disk h.found h.come.stored h.come.finds; moments = left.moments })

  of-fault : FailsAtLast line s old new → Leaves line s old new DiskFault
  of-fault h = inr (record {
    persists = h.persists;
    found = h.found;
    come = h.come;
    after = h.fails.new;
    is_after = h.fails.after;
    leaves = both-told (λ seen. MayKeepSince h.come.stored h.fails.new h.found new.disk old.images new.images) (λ sides. DbOf sides (reads_as h.come.stored))
        (λ sides. LeavesEither sides h.come.stored h.fails.new old new DiskFault) old.disk.seen (failed-so h.come.stored h.fails.new h.found (steady-same s old.disk h.found h.come.stored h.come.finds))
        (subst (λ (o : Option Sides). IfSome o (λ seen. MayKeepSince h.come.stored h.fails.new h.found new.disk old.images new.images)) (seen-same s old.disk h.found h.come.stored h.come.finds) h.fails.may)
        (had s old.disk h.found h.come.stored h.persists h.come.finds);
  })

  pub leaves-by : (status : Status) → Ends line s old new status → Leaves line s old new status
  leaves-by Done ends = of-report Done (λ stored after h. h) ends.has
  leaves-by (BadWords fault) ends = absurd ends
  leaves-by (BadConf at) ends = absurd ends
  leaves-by (BadFormat which fault) ends = absurd ends
  leaves-by (BadRules at) ends = inl (of-untouched ends.0.disk)
  leaves-by (FileFault file) ends = inl (of-input file PlaceFailed ends.0.misses)
  leaves-by (FileShort file at) ends = inl (of-input file (PlaceShort at) ends.0)
  leaves-by DiskFault (inl h, quiet) = inl (of-looks h.misses.looks)
  leaves-by DiskFault (inr h, quiet) = of-fault h
  leaves-by (DbDamaged side at) ends = inl (of-looks ends.0.misses.looks)
  leaves-by (KeepDiffers number given) ends = inl (of-finds ends.0.stored ends.0.finds)
  leaves-by (OutFault to at) ends = of-report (OutFault to at) (λ stored after h. h) ends.has
  leaves-by (CounterFull which total) (inl h, quiet) = inl (of-finds h.begun.stored h.begun.finds)
  leaves-by (CounterFull which total) (inr h, quiet) = inl (of-full which total h)
  leaves-by NoMemory (looks, quiet) = inl (of-looked looks)

-- without --persist no side is changed
pub unwritten-by : (line : LineSetup) (s : Settings) (old new : Outside) (status : Status) → Leaves line s old new status → s.persist ≡ false → LeavesSides old new
unwritten-by line s old new status (inl h) not = h
unwritten-by line s old new status (inr h) not = absurd (false≢true (sym not ∙ h.persists))
