-- From the calls of a task to how it ended.
use Rattle.std.proofs.Common.{◌≡◌, ℕ, List, [], inl, inr, refl, sym, subst}
use Rattle.ga_ports.specs.Outs.{OutsView}
use Rattle.ga_store.specs.Database.{DbValue}
use Rattle.ga_store.specs.declared.fault.StoreFault.{StoreFault}
use Rattle.ga_store.specs.declared.fault.StoreFault.TheVariants.{CounterFull as StoreFull, Damaged, DiskFault as StoreFailed, NoMemory as StoreNoMemory}
use Rattle.ga_print.specs.Keys.{keys_text}
use Rattle.ga_dbtool.specs.Ends.{Ends, FailsAtCommit, LooksAtMost, Merges}
use Rattle.ga_dbtool.specs.Opening.{IsUntouched, Misses, Opens, OpensOnce}
use Rattle.ga_dbtool.specs.Outside.{DiskSeen, Disks, outside_of}
use Rattle.ga_dbtool.specs.Steps.Parts.{EndsOn, OpensBoth, Shows, StopsMerging, StopsOpening, StopsPreparing, status_of_store}
use Rattle.ga_dbtool.specs.Steps.Parts.Shows.{all, front}
use Rattle.ga_dbtool.specs.Steps.Parts.StopsOpening.{differ, first_missed, second_missed, share}
use Rattle.ga_dbtool.specs.Texts.{check_text}
use Rattle.ga_dbtool.specs.Words.Task.{checking, dumping, merging}
use Rattle.ga_dbtool.specs.declared.status.DbStatus.{DbStatus}
use Rattle.ga_dbtool.specs.declared.status.DbStatus.TheVariants.{Done, BadWords, DiskFault, OutFault, CounterFull, DbDamaged, NoMemory, KeepDiffers, SharedEntry}

-- ---- a disk that was opened

pub still : (disk : DiskSeen) → IsUntouched disk disk
still disk = record { view = refl; moment = refl; now = λ image h. h; since = λ t image h. h }

opened-once : (dir : List ℕ) (old new : DiskSeen) (db : DbValue) → Opens dir old new db → OpensOnce dir old new
opened-once dir old new db h = record { count = h.opened; path = inl h.path }

-- memory ran out once the database was found
pub opened-misses : (dir : List ℕ) (old new : DiskSeen) (db : DbValue) → Opens dir old new db → Misses dir old new StoreNoMemory
opened-misses dir old new db h = record { looks = h.looks; opens = opened-once dir old new db h; cause = h.faults }

opened-at-most : (dir : List ℕ) (old new : DiskSeen) (db : DbValue) → Opens dir old new db → LooksAtMost dir old new
opened-at-most dir old new db h = inr (h.looks, opened-once dir old new db h, h.faults)

missed-at-most : (dir : List ℕ) (old new : DiskSeen) → Misses dir old new StoreNoMemory → LooksAtMost dir old new
missed-at-most dir old new h = inr (h.looks, h.opens, h.cause)

-- ---- a task on one database

pub shown : (dir : List ℕ) (say : DbValue → List ℕ) (old new : DiskSeen) (outs outs' : OutsView) (text : List ℕ) (status : DbStatus)
    → (db : DbValue) × Opens dir old new db × (text ≡ say db) → Shows text outs outs' status → EndsOn dir say old new outs outs' status
shown dir say old new outs outs' text status found (all p) = record { text = text; ends = found; prints = p }
shown dir say old new outs outs' text status found (front p) = record { text = text; ends = found; prints = p }

pub missed : (dir : List ℕ) (say : DbValue → List ℕ) (old new : DiskSeen) (outs : OutsView) (fault : StoreFault) → Misses dir old new fault
    → EndsOn dir say old new outs outs (status_of_store 0 fault)
missed dir say old new outs StoreFailed h = record { text = []; ends = (refl, h); prints = refl }
missed dir say old new outs (Damaged side at) h = record { text = []; ends = (refl, h); prints = refl }
missed dir say old new outs (StoreFull which total) h = absurd h.cause
missed dir say old new outs StoreNoMemory h = record { text = []; ends = missed-at-most dir old new h; prints = refl }

module _ (dir : List ℕ) (old new second : DiskSeen) (outs outs' : OutsView) (status : DbStatus) where
  pub checked : EndsOn dir check_text old new outs outs' status → Ends (checking dir) (outside_of old second outs) (outside_of new second outs') status
  checked h = record { text = h.text; ends = (h.ends, still second); prints = h.prints }

  pub dumped : EndsOn dir (λ db. keys_text db.summary) old new outs outs' status → Ends (dumping dir) (outside_of old second outs) (outside_of new second outs') status
  dumped h = record { text = h.text; ends = (h.ends, still second); prints = h.prints }

-- ---- two databases

module _ (dir other : List ℕ) (old new : Disks) where
  first-stops : (fault : StoreFault) → Misses dir old.first new.first fault → IsUntouched old.second new.second → StopsMerging dir other old new (status_of_store 0 fault)
  first-stops StoreFailed h quiet = inl (inl (refl, h, quiet))
  first-stops (Damaged side at) h quiet = inl (refl, h, quiet)
  first-stops (StoreFull which total) h quiet = absurd h.cause
  first-stops StoreNoMemory h quiet = (missed-at-most dir old.first new.first h, inl quiet)

  second-stops : (fault : StoreFault) (left : DbValue) → Opens dir old.first new.first left → Misses other old.second new.second fault → StopsMerging dir other old new (status_of_store 1 fault)
  second-stops StoreFailed left one h = inl (inr (refl, (left, one), h))
  second-stops (Damaged side at) left one h = inr (refl, (left, one), h)
  second-stops (StoreFull which total) left one h = absurd h.cause
  second-stops StoreNoMemory left one h = (opened-at-most dir old.first new.first left one, missed-at-most other old.second new.second h)

  pub opening-stops : (status : DbStatus) → StopsOpening dir other old new status → StopsMerging dir other old new status
  opening-stops status (first_missed (fault, is, h) quiet) = subst (StopsMerging dir other old new) (sym is) (first-stops fault h quiet)
  opening-stops status (second_missed left one (fault, is, h)) = subst (StopsMerging dir other old new) (sym is) (second-stops fault left one h)
  opening-stops status (differ stored given is left right both h) =
      subst (StopsMerging dir other old new) (sym is) (record { left = left; right = right; opened = both; differ = h })
  opening-stops status (share place place' is left right both agree h) =
      subst (StopsMerging dir other old new) (sym is) (record { left = left; right = right; opened = both; agree = agree; share = h })

  hungry : (left right : DbValue) → OpensBoth dir other old new left right → StopsMerging dir other old new NoMemory
  hungry left right h = (opened-at-most dir old.first new.first left h.opened.first, opened-at-most other old.second new.second right h.opened.second)

  pub preparing-stops : (left right : DbValue) (status : DbStatus) → OpensBoth dir other old new left right → StopsPreparing left right status → StopsMerging dir other old new status
  preparing-stops left right status h (inl is) = subst (StopsMerging dir other old new) (sym is) (hungry left right h)
  preparing-stops left right status h (inr (which, total, is, full)) =
      subst (StopsMerging dir other old new) (sym is) (record { left = left; right = right; opened = h.opened; can = h.can; overflow = full })

  pub commit-stops : FailsAtCommit dir other old new → StopsMerging dir other old new (DiskFault 0)
  commit-stops h = inr (refl, h)

-- ---- `merge`, and what it prints

module _ (dir other : List ℕ) (old new : Disks) (outs outs' : OutsView) where
  pub merged-shown : (text : List ℕ) (status : DbStatus) → Merges dir other text old new → Shows text outs outs' status
      → Ends (merging dir other) (record { disks = old; outs = outs }) (record { disks = new; outs = outs' }) status
  merged-shown text status h (all p) = record { text = text; ends = h; prints = p }
  merged-shown text status h (front p) = record { text = text; ends = h; prints = p }

  pub stopped-quiet : (status : DbStatus) → StopsMerging dir other old new status
      → Ends (merging dir other) (record { disks = old; outs = outs }) (record { disks = new; outs = outs }) status
  stopped-quiet Done h = absurd h
  stopped-quiet (OutFault to at) h = absurd h
  stopped-quiet (BadWords at) h = absurd h
  stopped-quiet (DiskFault db) h = record { text = []; ends = h; prints = refl }
  stopped-quiet (DbDamaged db side at) h = record { text = []; ends = h; prints = refl }
  stopped-quiet (CounterFull which total) h = record { text = []; ends = h; prints = refl }
  stopped-quiet NoMemory h = record { text = []; ends = h; prints = refl }
  stopped-quiet (KeepDiffers stored given) h = record { text = []; ends = h; prints = refl }
  stopped-quiet (SharedEntry left right) h = record { text = []; ends = h; prints = refl }
