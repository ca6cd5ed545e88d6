-- Calls of a disk that change no side, one after the other, and what recovery says of them.
use Rattle.std.proofs.Common.{◌≡◌, ℕ, ◌≤◌, ◌<◌, Bool, true, false, List, ◌+◌, ◌-◌, ◌*◌, Option, Some, None, Result, Ok, Err, IfSome, inl, refl, sym, ap, ◌∙◌, subst, arith}
use Rattle.std.specs.Prelude.{◌/◌}
use Rattle.std.proofs.lemmas.Nat.{div-mul-add}
use Rattle.ga_counters.specs.Counts.{raised}
use Rattle.ga_disk.specs.Disk.{DiskView, calls_once, fails_once}
use Rattle.ga_disk.specs.Images.{AddsNone, Images, LeavesSame, LeavesSynced, OnlyImage}
use Rattle.ga_disk.specs.Sides.{Sides}
use Rattle.ga_disk.specs.Trace.{DiskCall}
use Rattle.ga_disk.specs.Trace.DiskTrace.{disk_then, no_disk_call, one_disk_call}
use Rattle.ga_disk.specs.declared.disk_counts.DiskCounts.{DiskCounts}
use Rattle.ga_disk.proofs.Only.{only-same, same-then}
use Rattle.ga_store.specs.Database.{DbOf}
use Rattle.ga_store.specs.Database.Reading.{damaged}
use Rattle.ga_store.specs.Steps.Recovery.{Answers, InPieces, IsOutside, IsSide}
use Rattle.ga_store.specs.Store.{Looks, ReadsOnce, Recovers, is_disk_fault, most_read, reads_of}
use Rattle.ga_store.specs.declared.db.Db.{Db}
use Rattle.ga_store.specs.declared.fault.StoreFault.{StoreFault}
use Rattle.ga_store.specs.declared.fault.StoreFault.TheVariants.{CounterFull, Damaged, DiskFault, NoMemory}

-- this moment counts for earlier ones
abbrev pub CountsNow : Images → Type 0
CountsNow images = (t : ℕ) (image : Sides) → t ≤ images.moment → images.now image → images.since t image

-- only the counts are others
counts-alone : (old new : DiskView) (counts : DiskCounts) → new ≡ record old { counts = counts } → new ≡ record old { counts = new.counts }
counts-alone old new counts is = is ∙ ap (λ (c : DiskCounts). record old { counts = c }) (sym (ap (λ (d : DiskView). d.counts) is))

pub looks-ok : {old new : DiskView} {images images' : Images} → new ≡ record old { counts = calls_once old.counts } → DiskCall old new → LeavesSame images images'
    → Looks false old new images images'
looks-ok {old} {new} is call leaves = record {
  view = counts-alone old new _ is;
  opened = ap (λ (d : DiskView). d.counts.opened) is;
  fault = λ e. cc;
  no_fault = λ e. ap (λ (d : DiskView). d.counts.faults) is;
  calls = one_disk_call call;
  leaves = leaves;
}

pub looks-failed : {old new : DiskView} {images images' : Images} (starved : ℕ) → new ≡ record old { counts = fails_once starved old.counts } → DiskCall old new
    → LeavesSame images images' → Looks true old new images images'
looks-failed {old} {new} starved is call leaves = record {
  view = counts-alone old new _ is;
  opened = ap (λ (d : DiskView). d.counts.opened) is;
  fault = λ e. ap (λ (d : DiskView). d.counts.faults) is;
  no_fault = λ e. cc;
  calls = one_disk_call call;
  leaves = leaves;
}

same-still : {images : Images} → LeavesSame images images
same-still = record {
  none_added = λ image now. now;
  time = record { later = omega arith; nothing_else = λ t image le since. inl since; keeps = λ t image le since. since };
}

-- no call
pub looks-none : (view : DiskView) (images : Images) → Looks false view view images images
looks-none view images = record {
  view = refl;
  opened = refl;
  fault = λ e. cc;
  no_fault = λ e. refl;
  calls = no_disk_call;
  leaves = same-still;
}

-- calls that succeeded, and then others
pub looks-then : {failed : Bool} {old mid new : DiskView} {images images' images'' : Images} → CountsNow images → Looks false old mid images images'
    → Looks failed mid new images' images'' → Looks failed old new images images''
looks-then {failed} {old} {mid} {new} law first second =
    let same = first.no_fault refl in
    record {
      view = second.view ∙ ap (λ (d : DiskView). record d { counts = new.counts }) first.view;
      opened = second.opened ∙ first.opened;
      fault = λ e. second.fault e ∙ ap (λ (n : ℕ). raised n 1) same;
      no_fault = λ e. second.no_fault e ∙ same;
      calls = disk_then first.calls second.calls;
      leaves = same-then law first.leaves second.leaves;
    }

pub seen-same : {failed : Bool} {old new : DiskView} {images images' : Images} → Looks failed old new images images' → new.seen ≡ old.seen
seen-same looks = ap (λ (d : DiskView). d.seen) looks.view

pub open-same : {failed : Bool} {old new : DiskView} {images images' : Images} → Looks failed old new images images' → new.is_open ≡ old.is_open
open-same looks = ap (λ (d : DiskView). d.is_open) looks.view

-- ---- both sides were synced

same-sides : (a b : Sides) → a.side0 ≡ b.side0 → a.side1 ≡ b.side1 → a ≡ b
same-sides a b e f = λ i. record { side0 = e i; side1 = f i }

pub only-fewer : (seen : Option Sides) (images images' : Images) → AddsNone images images' → IfSome seen (OnlyImage images) → IfSome seen (OnlyImage images')
only-fewer None images images' none only = tt
only-fewer (Some seen) images images' none only = λ image now. only image (none image now)

-- ---- a side is read piece by piece

-- ---- what recovery answers

-- both sides were read
pub record BothRead (disk : DiskView) (images : Images) (side0 side1 : List ℕ) : Type 0 where
  pub only : IfSome disk.seen (OnlyImage images)
  pub first : IsSide 0 disk side0
  pub second : IsSide 1 disk side1

pub both-told : (seen : Option Sides) (side0 side1 : List ℕ) → IfSome seen (λ seen. side0 ≡ seen.side0) → IfSome seen (λ seen. side1 ≡ seen.side1)
    → IfSome seen (λ seen. seen ≡ record { side0 = side0; side1 = side1 })
both-told None side0 side1 first second = tt
both-told (Some seen) side0 side1 first second = same-sides seen _ (sym first) (sym second)

-- this many calls read this many bytes
pub reads-exact : (bytes reads : ℕ) → InPieces bytes reads → reads ≡ reads_of bytes
reads-exact bytes reads pieces =
    let enough = pieces.enough in
    let none_over = pieces.none_over in
    let left : bytes + (most_read - 1) - reads * most_read < most_read = omega (arith, enough, none_over) in
    let sum : bytes + (most_read - 1) ≡ reads * most_read + (bytes + (most_read - 1) - reads * most_read) = omega (arith, enough, none_over) in
    sym (ap (λ (n : ℕ). n / most_read) sum ∙ div-mul-add reads most_read (bytes + (most_read - 1) - reads * most_read) left)

module _ {D : Type 0} (view_of : D → DiskView) (images_of : D → Images) where
  module _ {X : Type 0} (disk disk' : D) (result : Result X StoreFault)
      (law : (image : Sides) → (images_of disk).since (images_of disk).moment image → (images_of disk).now image) where
    pub recovers-not : (fault : StoreFault) → result ≡ Err fault → IsOutside fault
        → Looks (is_disk_fault result) (view_of disk) (view_of disk') (images_of disk) (images_of disk') → Recovers view_of images_of disk disk' (Err fault)
    recovers-not DiskFault is outside looks = record {
      database = tt;
      damage = λ side at e. cc;
      counters = λ which total e. cc;
      looks = subst (λ (r : Result X StoreFault). Looks (is_disk_fault r) (view_of disk) (view_of disk') (images_of disk) (images_of disk')) is looks;
      calls = tt;
      calls_to_damage = λ side at e. absurd cc;
      moments = only-same law looks.leaves;
    }
    recovers-not NoMemory is outside looks = record {
      database = tt;
      damage = λ side at e. cc;
      counters = λ which total e. cc;
      looks = subst (λ (r : Result X StoreFault). Looks (is_disk_fault r) (view_of disk) (view_of disk') (images_of disk) (images_of disk')) is looks;
      calls = tt;
      calls_to_damage = λ side at e. absurd cc;
      moments = only-same law looks.leaves;
    }
    recovers-not (Damaged side at) is outside looks = absurd outside
    recovers-not (CounterFull which total) is outside looks = absurd outside

  pub recovers : (disk disk' : D) (result : Result Db StoreFault) (side0 side1 : List ℕ)
      → ((image : Sides) → (images_of disk).since (images_of disk).moment image → (images_of disk).now image)
      → Looks false (view_of disk) (view_of disk') (images_of disk) (images_of disk') → BothRead (view_of disk') (images_of disk') side0 side1
      → ReadsOnce view_of images_of disk disk' → Answers (DbOf (record { side0 = side0; side1 = side1 })) result
      → Recovers view_of images_of disk disk' result
  recovers disk disk' (Ok db) side0 side1 law looks read once says = record {
    database = record {
      sides = record { side0 = side0; side1 = side1 };
      told = both-told (view_of disk').seen side0 side1 read.first.told read.second.told;
      only = read.only;
      size0 = read.first.size;
      size1 = read.second.size;
      has = says;
    };
    damage = λ side at e. cc;
    counters = λ which total e. cc;
    looks = looks;
    calls = once;
    calls_to_damage = λ side at e. once;
    moments = only-same law looks.leaves;
  }
  recovers disk disk' (Err (Damaged side at)) side0 side1 law looks read once says = record {
    database = tt;
    damage = λ other place e. let same = ap fault_side e in let place_same = ap fault_at e in record {
      sides = record { side0 = side0; side1 = side1 };
      told = both-told (view_of disk').seen side0 side1 read.first.told read.second.told;
      only = read.only;
      has = subst (λ (p : ℕ × ℕ). DbOf (record { side0 = side0; side1 = side1 }) (damaged p.0 p.1)) (λ i. (same i, place_same i)) says;
    };
    counters = λ which total e. cc;
    looks = looks;
    calls = tt;
    calls_to_damage = λ other place e. once;
    moments = only-same law looks.leaves;
  }
    where
      fault_side : Result Db StoreFault → ℕ
      fault_side (Err (Damaged s p)) = s
      fault_side r = 0

      fault_at : Result Db StoreFault → ℕ
      fault_at (Err (Damaged s p)) = p
      fault_at r = 0
  recovers disk disk' (Err NoMemory) side0 side1 law looks read once says = recovers-not {X = Db} disk disk' (Err NoMemory) law NoMemory refl tt looks
  recovers disk disk' (Err DiskFault) side0 side1 law looks read once says = absurd says
  recovers disk disk' (Err (CounterFull which total)) side0 side1 law looks read once says = absurd says

-- a sync changes no side
pub synced-same : {E : Type 0} {side : ℕ} {seen : Option Sides} {images images' : Images} {result : Result (Unit {0}) E}
    → LeavesSynced side seen images images' result → LeavesSame images images'
synced-same leaves = record { none_added = leaves.none_added; time = leaves.time }
