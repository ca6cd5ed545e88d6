-- What opening a disk and recovering it say of finding a database.
use Rattle.std.proofs.Common.{◌≡◌, ℕ, ◌+◌, ◌≤◌, Bool, true, List, Option, Some, None, IfSome, option_map, Result, Ok, Err, IfOk, IfErr, inl, refl, sym, ◌∙◌, ap, subst, arith}
use Rattle.ga_counters.specs.Counts.{raised}
use Rattle.ga_disk.specs.Disk.{DiskView, asks, calls_once}
use Rattle.ga_disk.specs.Images.{Images, LeavesSame}
use Rattle.ga_disk.specs.Sides.{Sides}
use Rattle.ga_disk.specs.declared.disk_counts.DiskCounts.{DiskCounts}
use Rattle.ga_disk.proofs.Only.{only-same, same-then}
use Rattle.ga_store.specs.Commits.{Takes}
use Rattle.ga_store.specs.Store.{Looks, ReadsOnce, Recovers, db_value, recovery_calls}
use Rattle.ga_store.specs.declared.db.Db.{Db}
use Rattle.ga_store.specs.declared.fault.StoreFault.{StoreFault}
use Rattle.ga_store.specs.declared.fault.StoreFault.TheVariants.{CounterFull, Damaged, DiskFault, NoMemory}
use Rattle.ga_dbtool.specs.Opening.{HasPath, Misses, OnlyLooks, Opens, OpensOnce, opening_calls}
use Rattle.ga_dbtool.specs.Outside.{DiskSeen, disk_of}

one-more : (a b c n : ℕ) → b ≡ raised a 1 → c ≡ raised b n → c ≡ raised a (1 + n)
one-more a b c n e f = omega arith

-- a disk that is opened and then looked at is the same but for that and its counts
view-of : (old opened found : DiskView) (path : Option (Option (List ℕ))) (counts : DiskCounts) → opened ≡ record old { is_open = true; path = path; counts = counts }
    → found ≡ record opened { counts = found.counts } → found ≡ record old { is_open = found.is_open; path = found.path; counts = found.counts }
view-of old opened found path counts first second =
    let e = second ∙ ap (λ (d : DiskView). record d { counts = found.counts }) first in
    e ∙ (λ i. record old { is_open = sym (ap (λ (d : DiskView). d.is_open) e) i; path = sym (ap (λ (d : DiskView). d.path) e) i; counts = found.counts })

path-told : (path : List ℕ) (o : Option (Option (List ℕ))) → IfSome (option_map (λ _. Some path) o) (λ p. p ≡ Some path)
path-told path None = tt
path-told path (Some p) = refl

module _ {D : Type 0} (view_of : D → DiskView) (images_of : D → Images) (dir : List ℕ) (disk opened found : D)
    (counts_now : (t : ℕ) (image : Sides) → t ≤ (images_of disk).moment → (images_of disk).now image → (images_of disk).since t image)
    (only_now : (image : Sides) → (images_of disk).since (images_of disk).moment image → (images_of disk).now image)
    (opens : view_of opened ≡ record (view_of disk) { is_open = true; path = option_map (λ _. Some dir) (view_of disk).path; counts = asks (calls_once (view_of disk).counts) })
    (leaves : LeavesSame (images_of disk) (images_of opened)) where
  abbrev at : D → DiskSeen
  at d = disk_of (view_of d) (images_of d)

  looked : {failed : Bool} → Looks failed (view_of opened) (view_of found) (images_of opened) (images_of found) → OnlyLooks (at disk) (at found)
  looked looks = record {
    view = view-of (view_of disk) (view_of opened) (view_of found) _ _ opens looks.view;
    moments = only-same only_now (same-then counts_now leaves looks.leaves);
  }

  path-found : {failed : Bool} → Looks failed (view_of opened) (view_of found) (images_of opened) (images_of found) → HasPath dir (at found)
  path-found looks =
      let same = ap (λ (d : DiskView). d.path) looks.view ∙ ap (λ (d : DiskView). d.path) opens in
      subst (λ (o : Option (Option (List ℕ))). IfSome o (λ p. p ≡ Some dir)) (sym same) (path-told dir (view_of disk).path)

  opened-once : {failed : Bool} → Looks failed (view_of opened) (view_of found) (images_of opened) (images_of found)
      → (view_of found).counts.opened ≡ raised (view_of disk).counts.opened 1
  opened-once looks = looks.opened ∙ ap (λ (d : DiskView). d.counts.opened) opens

  opens-once : {failed : Bool} → Looks failed (view_of opened) (view_of found) (images_of opened) (images_of found) → OpensOnce dir (at disk) (at found)
  opens-once looks = record { count = opened-once looks; path = inl (path-found looks) }

  same-faults : (view_of opened).counts.faults ≡ (view_of disk).counts.faults
  same-faults = ap (λ (d : DiskView). d.counts.faults) opens

  -- the calls of recovery come after that which opens the disk
  calls-found : {failed : Bool} → Looks failed (view_of opened) (view_of found) (images_of opened) (images_of found) → ReadsOnce view_of images_of opened found
      → IfSome (view_of disk).seen (λ seen. Takes (opening_calls seen) (view_of disk) (view_of found))
  calls-found looks reads = counted (view_of disk).seen (subst (λ (o : Option Sides). IfSome o (λ seen. seen ≡ reads.sides)) same reads.told)
    where
      same : (view_of found).seen ≡ (view_of disk).seen
      same = ap (λ (d : DiskView). d.seen) looks.view ∙ ap (λ (d : DiskView). d.seen) opens

      all : Takes (opening_calls reads.sides) (view_of disk) (view_of found)
      all = one-more _ _ _ (recovery_calls reads.sides) (ap (λ (d : DiskView). d.counts.calls) opens) reads.calls

      counted : (o : Option Sides) → IfSome o (λ seen. seen ≡ reads.sides) → IfSome o (λ seen. Takes (opening_calls seen) (view_of disk) (view_of found))
      counted None told = tt
      counted (Some seen) told = subst (λ (x : Sides). Takes (opening_calls x) (view_of disk) (view_of found)) (sym told) all

  pub finds : (result : Result Db StoreFault) → Recovers view_of images_of opened found result → IfOk result (λ db. Opens dir (at disk) (at found) (db_value db))
  finds (Err fault) recovers = tt
  finds (Ok db) recovers =
      let looks = recovers.looks in
      record {
        looks = looked looks;
        is_open = ap (λ (d : DiskView). d.is_open) looks.view ∙ ap (λ (d : DiskView). d.is_open) opens;
        holds = recovers.database;
        opened = opened-once looks;
        path = path-found looks;
        faults = looks.no_fault refl ∙ same-faults;
        calls = calls-found looks recovers.calls;
      }

  pub misses : (result : Result Db StoreFault) → Recovers view_of images_of opened found result → IfErr result (Misses dir (at disk) (at found))
  misses (Ok db) recovers = tt
  misses (Err DiskFault) recovers =
      let looks = recovers.looks in
      record { looks = looked looks; opens = opens-once looks; cause = looks.fault refl ∙ ap (λ (n : ℕ). raised n 1) same-faults }
  misses (Err NoMemory) recovers =
      let looks = recovers.looks in
      record { looks = looked looks; opens = opens-once looks; cause = looks.no_fault refl ∙ same-faults }
  misses (Err (CounterFull which total)) recovers = absurd (recovers.counters which total refl)
  misses (Err (Damaged side at)) recovers =
      let looks = recovers.looks in
      record {
        looks = looked looks;
        opens = opens-once looks;
        cause = record {
          damaged = recovers.damage side at refl;
          path = path-found looks;
          faults = looks.no_fault refl ∙ same-faults;
          calls = calls-found looks (recovers.calls_to_damage side at refl);
        };
      }
