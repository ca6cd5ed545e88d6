-- What follows for the disk from how a run ended: which of its faults were counted, and that a run without a database leaves it.
use Rattle.std.proofs.Common.{◌≡◌, ℕ, ◌||◌, Bool, true, false, ap, sym, ◌∙◌, inl, inr}
use Rattle.std.proofs.lemmas.Bool.{false≢true}
use Rattle.ga_disk.specs.Disk.{DiskView}
use Rattle.ga_keep.specs.RunDatabase.{Finds, LooksAtMost, uses_database}
use Rattle.ga_line.specs.declared.setup.LineSetup.{LineSetup}
use Rattle.ga_counters.specs.Counts.{raised}
use Rattle.ga_resume.specs.declared.fault.PlaceFault.{PlaceFault}
use Rattle.ga_resume.specs.declared.fault.PlaceFault.TheVariants.{FileFault as PlaceFailed, FileShort as PlaceShort}
use Rattle.ga_store.specs.Database.{DbValue}
use Rattle.ga_words.specs.declared.settings.Settings.{Settings}
use Rattle.ga_one_run.specs.Ends.{Ends, HasReport, MissesInput}
use Rattle.ga_one_run.specs.Keeping.{FindsThere, KeptSince}
use Rattle.ga_one_run.specs.Run.{disk_faults_after}
use Rattle.ga_one_run.specs.Outside.{Outside}
use Rattle.ga_one_run.specs.declared.status.Input.{Input}
use Rattle.ga_one_run.specs.declared.status.Input.TheVariants.{Conf, Rules, Log}
use Rattle.ga_one_run.specs.declared.status.Status.{Status}
use Rattle.ga_one_run.specs.declared.status.Status.TheVariants.{Done, BadWords, BadConf, BadFormat, BadRules, FileFault, FileShort, DiskFault, DbDamaged, KeepDiffers, OutFault, CounterFull, NoMemory}

-- ---- faults

faults-of : {a b : DiskView} → a ≡ b → a.counts.faults ≡ b.counts.faults
faults-of e = ap (λ (v : DiskView). v.counts.faults) e

-- a database that was found counted no fault
pub found-faults : (s : Settings) (d d' : DiskView) (stored : DbValue) → FindsThere s d d' stored → d'.counts.faults ≡ d.counts.faults
found-faults s d d' stored (inl (uses, h)) = h.faults
found-faults s d d' stored (inr (none, left, empty)) = faults-of left

module _ (line : LineSetup) (s : Settings) (old new : Outside) where
  abbrev Same : Type 0
  Same = new.disk.counts.faults ≡ old.disk.counts.faults

  of-looked : LooksAtMost s old.disk new.disk old.images new.images → Same
  of-looked (inl left) = faults-of left.view
  of-looked (inr looked) = looked.faults

  of-finds : (stored : DbValue) → Finds s old.disk new.disk old.images new.images stored → Same
  of-finds stored (inl (uses, h)) = h.faults
  of-finds stored (inr (none, left, empty)) = faults-of left.view

  of-report : HasReport line s old new → Same
  of-report h = go h.kept ∙ found-faults s old.disk h.found h.come.stored h.come.finds
    where
      go : KeptSince s h.come.stored h.come.counted.whole h.come.counted.entries' h.found new.disk old.images new.images
          → new.disk.counts.faults ≡ h.found.counts.faults
      go (inl (persists, k)) = k.faults
      go (inr (none, left)) = faults-of left.view

  of-input : (file : Input) (fault : PlaceFault) → MissesInput line s old new file fault → Same
  of-input Conf fault h = absurd h
  of-input Rules fault (name, named, misses, left) = faults-of left.view
  of-input (Log place) fault h = of-finds h.begun.stored h.begun.finds

  pub disk-faults-by : (status : Status) → Ends line s old new status → new.disk.counts.faults ≡ disk_faults_after status old.disk.counts.faults
  disk-faults-by Done ends = of-report ends.has
  disk-faults-by (BadWords fault) ends = absurd ends
  disk-faults-by (BadConf at) ends = absurd ends
  disk-faults-by (BadFormat which fault) ends = absurd ends
  disk-faults-by (BadRules at) ends = faults-of ends.0.disk.view
  disk-faults-by (FileFault file) ends = of-input file PlaceFailed ends.0.misses
  disk-faults-by (FileShort file at) ends = of-input file (PlaceShort at) ends.0
  disk-faults-by DiskFault (inl h, quiet) = h.misses.cause
  disk-faults-by DiskFault (inr h, quiet) =
      h.fails.fault ∙ ap (λ (n : ℕ). raised n 1) (found-faults s old.disk h.found h.come.stored h.come.finds)
  disk-faults-by (DbDamaged side at) ends = ends.0.misses.cause.faults
  disk-faults-by (KeepDiffers number given) ends = of-finds ends.0.stored ends.0.finds
  disk-faults-by (OutFault to at) ends = of-report ends.has
  disk-faults-by (CounterFull which total) (inl h, quiet) = of-finds h.begun.stored h.begun.finds
  disk-faults-by (CounterFull which total) (inr h, quiet) = found-faults s old.disk new.disk h.come.stored h.come.finds
  disk-faults-by NoMemory (looks, quiet) = of-looked looks

  -- ---- a run without a database

  module _ (none : uses_database s ≡ false) where
    not-used : {A : Type 0} → uses_database s ≡ true → A
    not-used uses = absurd (false≢true (sym none ∙ uses))

    not-both : {A : Type 0} (a b : Bool) → (a || b) ≡ false → a ≡ true → A
    not-both true b e f = absurd (false≢true (sym e))
    not-both false b e f = absurd (false≢true f)

    not-kept : {A : Type 0} → s.persist ≡ true → A
    not-kept persists = not-both s.persist s.restore none persists

    alone-looked : LooksAtMost s old.disk new.disk old.images new.images → new.disk ≡ old.disk
    alone-looked (inl left) = left.view
    alone-looked (inr looked) = not-used looked.uses

    alone-finds : (stored : DbValue) → Finds s old.disk new.disk old.images new.images stored → new.disk ≡ old.disk
    alone-finds stored (inl (uses, h)) = not-used uses
    alone-finds stored (inr (not, left, empty)) = left.view

    alone-there : (d' : DiskView) (stored : DbValue) → FindsThere s old.disk d' stored → d' ≡ old.disk
    alone-there d' stored (inl (uses, h)) = not-used uses
    alone-there d' stored (inr (not, left, empty)) = left

    alone-report : HasReport line s old new → new.disk ≡ old.disk
    alone-report h = go h.kept
      where
        go : KeptSince s h.come.stored h.come.counted.whole h.come.counted.entries' h.found new.disk old.images new.images → new.disk ≡ old.disk
        go (inl (persists, k)) = not-kept persists
        go (inr (not, left)) = left.view ∙ alone-there h.found h.come.stored h.come.finds

    alone-input : (file : Input) (fault : PlaceFault) → MissesInput line s old new file fault → new.disk ≡ old.disk
    alone-input Conf fault h = absurd h
    alone-input Rules fault (name, named, misses, left) = left.view
    alone-input (Log place) fault h = alone-finds h.begun.stored h.begun.finds

    pub alone-by : (status : Status) → Ends line s old new status → new.disk ≡ old.disk
    alone-by Done ends = alone-report ends.has
    alone-by (BadWords fault) ends = absurd ends
    alone-by (BadConf at) ends = absurd ends
    alone-by (BadFormat which fault) ends = absurd ends
    alone-by (BadRules at) ends = ends.0.disk.view
    alone-by (FileFault file) ends = alone-input file PlaceFailed ends.0.misses
    alone-by (FileShort file at) ends = alone-input file (PlaceShort at) ends.0
    alone-by DiskFault (inl h, quiet) = not-used h.misses.uses
    alone-by DiskFault (inr h, quiet) = not-kept h.persists
    alone-by (DbDamaged side at) ends = not-used ends.0.misses.uses
    alone-by (KeepDiffers number given) ends = alone-finds ends.0.stored ends.0.finds
    alone-by (OutFault to at) ends = alone-report ends.has
    alone-by (CounterFull which total) (inl h, quiet) = alone-finds h.begun.stored h.begun.finds
    alone-by (CounterFull which total) (inr h, quiet) = alone-there new.disk h.come.stored h.come.finds
    alone-by NoMemory (looks, quiet) = alone-looked looks
