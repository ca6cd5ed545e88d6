-- The tail of a commit, from the calls that wrote it.
use Rattle.std.proofs.Common.{◌≡◌, ℕ, ◌+◌, ◌<◌, ◌≤◌, Bool, true, false, List, [], ◌++◌, length, take, drop, Option, Some, None, IfSome, Result, Ok, Err, option_map, refl, sym, ◌∙◌, ap, subst, inl, arith, length-append, length-take}
use Rattle.std.specs.Prelude.{if◌then◌else◌}
use Rattle.std.proofs.lemmas.List.{append-nil, take_at}
use Rattle.ga_counters.specs.declared.failed.Failed.{Failed}
use Rattle.ga_disk.specs.Disk.{CutAt, Cuts, DiskView, Steps, Syncs, TornAt, Writes, written}
use Rattle.ga_disk.specs.Images.{HasSide, Images, LeavesSteps, LeavesSynced, OnlyImage}
use Rattle.ga_disk.specs.Sides.{Sides, of_side, with_side}
use Rattle.ga_disk.specs.Trace.{DiskTrace}
use Rattle.ga_disk.specs.Trace.DiskCall.{cut_call, sync_call, write_call}
use Rattle.ga_disk.specs.Trace.DiskTrace.{disk_then, no_disk_call, one_disk_call}
use Rattle.ga_store.specs.Commit.{Work, tail_calls}
use Rattle.ga_store.specs.Commits.{Takes}
use Rattle.ga_store.specs.Steps.Committing.{Ends, Fills, Keeps, SameFront, Settles, after_tail}
use Rattle.ga_store.specs.declared.fault.StoreFault.{StoreFault}
use Rattle.ga_store.specs.declared.fault.StoreFault.TheVariants.{DiskFault}
use Rattle.ga_store.proofs.CommitBytes.{then-front}
use Rattle.ga_store.proofs.CommitDisk.{Clean, clean-by, clean-self, clean-then, frames-by, takes-none, takes-then, keeps-first, keeps-less, keeps-step, of-with, only-synced, with-of, with-with}
use Rattle.ga_store.proofs.CommitEnds.{clean-of, works-then}
use Rattle.ga_store.proofs.CommitSteps.{Law, calls-of-sync, calls-of-write, clean-sync, clean-write, seen-of-sync, works-ok, works-sync-err, works-write-err}
use Rattle.ga_store.proofs.Torn.{cut-front, torn-front}

-- ---- the end of the side

cut-self : (len : ℕ) (bytes : List ℕ) → CutAt len bytes bytes
cut-self len bytes = record { before = λ i first within. (within, refl); no_shorter = omega arith; no_longer = omega arith }

pub ends-none : {side len : ℕ} {cuts : Bool} {v : DiskView} {i : Images} → cuts ≡ false → Ends side len cuts v v i i (Ok tt)
ends-none {side} {len} {cuts} {v} {i} not = record {
  works = works-ok no_disk_call (clean-self v);
  follows = λ image now. (image, now, record { one = cut-self len (of_side side image); other = with-of side image });
  time = record { later = omega arith; nothing_else = λ t image le since. inl since; keeps = λ t image le since. since };
  counted = subst (λ (b : Bool). Takes (if b then 1 else 0) v v) (sym not) (takes-none v);
  ok = subst (λ (b : Bool). v.seen ≡ (if b then option_map (λ (x : Sides). with_side side (take len (of_side side x)) x) v.seen else v.seen)) (sym not) refl;
}

pub ends-err : {side len : ℕ} {cuts : Bool} {v0 v1 : DiskView} {i0 i1 : Images} {e : Failed} → Cuts side len v0 v1 (Err e)
    → LeavesSteps {E = Failed} side (CutAt len) v0.steady i0 i1 (Err e) → Ends side len cuts v0 v1 i0 i1 (Err DiskFault)
ends-err {v0 = v0} {v1 = v1} cut leaves = record {
  works = record {
    no_fault = tt;
    fault = ap (λ (v : DiskView). v.counts.faults) cut.failed.others;
    cause = refl;
    frames = frames-by v0 v1 _ _ cut.failed.others refl;
    calls = one_disk_call (cut_call cut);
  };
  follows = leaves.follows;
  time = leaves.time;
  counted = tt;
  ok = tt;
}

pub ends-ok : {side len : ℕ} {cuts : Bool} {v0 v1 : DiskView} {i0 i1 : Images} → cuts ≡ true → Cuts {E = Failed} side len v0 v1 (Ok tt)
    → LeavesSteps {E = Failed} side (CutAt len) v0.steady i0 i1 (Ok tt) → Ends side len cuts v0 v1 i0 i1 (Ok tt)
ends-ok {side} {len} {cuts} {v0} {v1} is cut leaves = record {
  works = works-ok (one_disk_call (cut_call cut)) (clean-by v0 v1 _ cut.ok);
  follows = leaves.follows;
  time = leaves.time;
  counted = subst (λ (b : Bool). Takes (if b then 1 else 0) v0 v1) (sym is) (ap (λ (v : DiskView). v.counts.calls) cut.ok);
  ok = subst (λ (b : Bool). v1.seen ≡ (if b then option_map (λ (x : Sides). with_side side (take len (of_side side x)) x) v0.seen else v0.seen)) (sym is)
      (ap (λ (v : DiskView). v.seen) cut.ok);
}

-- ---- the tail

three : (new : Bool) (v0 v1 v2 v3 : DiskView) → Takes 1 v0 v1 → Takes (if new then 1 else 0) v1 v2 → Takes 1 v2 v3 → Takes (tail_calls new) v0 v3
three true v0 v1 v2 v3 a b c = takes-then v0 v2 v3 2 1 (takes-then v0 v1 v2 1 1 a b) c
three false v0 v1 v2 v3 a b c = takes-then v0 v2 v3 1 1 (takes-then v0 v1 v2 1 0 a b) c

cut-written : (at : ℕ) (tail side : List ℕ) → at ≤ length side → take (at + length tail) (written at tail side) ≡ take at side ++ tail ++ []
cut-written at tail side le =
    let long : length (take at side ++ tail) ≡ at + length tail = omega (arith, length-append (take at side) tail, length-take at side) in
    take_at (take at side ++ tail) (drop (at + length tail) side) (at + length tail) long ∙ sym (append-nil (take at side ++ tail))

-- the sides with the tail, where it is a new generation or not
abbrev tailed : Work → Bool → Sides → Sides
tailed w new sides = with_side w.side (take (w.gate + 1) (of_side w.side sides) ++ w.tail
    ++ (if new then [] else drop (w.gate + 1 + length w.tail) (of_side w.side sides))) sides

abbrev cut_off : ℕ → ℕ → Sides → Sides
cut_off side len sides = with_side side (take len (of_side side sides)) sides

abbrev wrote : Work → Sides → Sides
wrote w sides = with_side w.side (written (w.gate + 1) w.tail (of_side w.side sides)) sides

after-end : (w : Work) (new : Bool) (seen0 seen1 seen2 : Option Sides) → IfSome seen0 (λ s. w.gate + 1 ≤ length (of_side w.side s))
    → seen1 ≡ option_map (wrote w) seen0 → seen2 ≡ (if new then option_map (cut_off w.side (w.gate + 1 + length w.tail)) seen1 else seen1)
    → seen2 ≡ option_map (tailed w new) seen0
after-end w false seen0 seen1 seen2 reaches first second = second ∙ first
after-end w true None seen1 seen2 reaches first second =
    second ∙ ap (λ (o : Option Sides). option_map (cut_off w.side (w.gate + 1 + length w.tail)) o) first
after-end w true (Some sides) seen1 seen2 reaches first second =
    second ∙ ap (λ (o : Option Sides). option_map (cut_off w.side (w.gate + 1 + length w.tail)) o) first
    ∙ ap (λ (b : List ℕ). Some (with_side w.side (take (w.gate + 1 + length w.tail) b) (wrote w sides))) (of-with w.side _ sides)
    ∙ ap (λ (x : Sides). Some x) (with-with w.side _ _ sides)
    ∙ ap (λ (b : List ℕ). Some (with_side w.side b sides)) (cut-written (w.gate + 1) w.tail (of_side w.side sides) reaches)

kept-write : (w : Work) {steady : Bool} {i0 i1 : Images} {r : Result (Unit {0}) Failed} → Law i0 → (sides : Sides) → OnlyImage i0 sides
    → w.gate < length (of_side w.side sides) → LeavesSteps w.side (TornAt (w.gate + 1) (length w.tail)) steady i0 i1 r
    → Keeps (Steps w.side (SameFront (w.gate + 1)) sides) i0 i1
kept-write w law sides only within leaves =
    let le : w.gate + 1 ≤ length (of_side w.side sides) = omega arith in
    keeps-first w.side (TornAt (w.gate + 1) (length w.tail)) sides law only
    (record { one = record { reaches = le; same = refl }; other = with-of w.side sides }) leaves.follows leaves.time
    (λ y step. record { one = torn-front (w.gate + 1) (length w.tail) (of_side w.side sides) (of_side w.side y) le step.one; other = step.other })

module _ (w : Work) {v0 v1 : DiskView} {i0 i1 : Images} (law : Law i0) where
  pub fills-write-err : {e : Failed} → Writes w.side (w.gate + 1) w.tail v0 v1 (Err e)
      → LeavesSteps {E = Failed} w.side (TornAt (w.gate + 1) (length w.tail)) v0.steady i0 i1 (Err e) → Fills w v0 v1 i0 i1 (Err DiskFault)
  fills-write-err writes leaves = record {
    works = works-write-err writes;
    reads = tt;
    counted = tt;
    told = λ sides settled within. record { along = kept-write w law sides settled.only within leaves; ok = tt };
  }

  module _ {v2 : DiskView} {i2 : Images} (writes : Writes {E = Failed} w.side (w.gate + 1) w.tail v0 v1 (Ok tt))
      (leaves : LeavesSteps {E = Failed} w.side (TornAt (w.gate + 1) (length w.tail)) v0.steady i0 i1 (Ok tt)) where
    kept-end : {r : Result (Unit {0}) StoreFault} (sides : Sides) → Settles sides v0 i0 → w.gate < length (of_side w.side sides)
        → Ends w.side (w.gate + 1 + length w.tail) w.is_new v1 v2 i1 i2 r → Keeps (Steps w.side (SameFront (w.gate + 1)) sides) i0 i2
    kept-end sides settled within ends =
        keeps-step w.side (CutAt (w.gate + 1 + length w.tail)) (kept-write w law sides settled.only within leaves) ends.follows ends.time (λ x y has step. record {
          one =
              let reaches = has.one.reaches in
              then-front (w.gate + 1) (of_side w.side sides) (of_side w.side x) (of_side w.side y) has.one
              (cut-front (w.gate + 1) (w.gate + 1 + length w.tail) (of_side w.side x) (of_side w.side y) (omega arith) reaches step.one);
          other = step.other ∙ ap (λ (s : Sides). with_side w.side (of_side w.side y) s) has.other ∙ with-with w.side (of_side w.side x) (of_side w.side y) sides;
        })

    pub fills-end-err : {e : StoreFault} → Ends w.side (w.gate + 1 + length w.tail) w.is_new v1 v2 i1 i2 (Err e) → Fills w v0 v2 i0 i2 (Err e)
    fills-end-err ends = record {
      works = works-then (one_disk_call (write_call writes)) (clean-write writes) ends.works;
      reads = tt;
      counted = tt;
      told = λ sides settled within. record { along = kept-end sides settled within ends; ok = tt };
    }

    module _ (ends : Ends w.side (w.gate + 1 + length w.tail) w.is_new v1 v2 i1 i2 (Ok tt))
        (reaches : IfSome v0.seen (λ s. w.gate + 1 ≤ length (of_side w.side s))) where
      went : DiskTrace v0 v2
      went = disk_then (one_disk_call (write_call writes)) ends.works.calls

      clean : Clean v0 v2
      clean = clean-then (clean-write writes) (clean-of ends.works)

      seen-tail : v2.seen ≡ option_map (tailed w w.is_new) v0.seen
      seen-tail = after-end w w.is_new v0.seen v1.seen v2.seen reaches (ap (λ (v : DiskView). v.seen) writes.ok.1) ends.ok

      pub fills-sync-err : {v3 : DiskView} {i3 : Images} {e : Failed} → Syncs v2 v3 (Err e) → LeavesSynced {E = Failed} w.side v2.seen i2 i3 (Err e) → Fills w v0 v3 i0 i3 (Err DiskFault)
      fills-sync-err syncs synced = record {
        works = works-then went clean (works-sync-err syncs);
        reads = tt;
        counted = tt;
        told = λ sides settled within. record { along = keeps-less (kept-end sides settled within ends) synced.none_added synced.time; ok = tt };
      }

      pub fills-ok : {v3 : DiskView} {i3 : Images} → Syncs {E = Failed} v2 v3 (Ok tt) → LeavesSynced {E = Failed} w.side v2.seen i2 i3 (Ok tt) → Fills w v0 v3 i0 i3 (Ok tt)
      fills-ok {v3} {i3} syncs synced = record {
        works = works-ok (disk_then went (one_disk_call (sync_call syncs))) (clean-then clean (clean-sync syncs));
        reads = seen-of-sync syncs ∙ seen-tail;
        counted = three w.is_new v0 v1 v2 v3 (calls-of-write writes) ends.counted (calls-of-sync syncs);
        told = λ sides settled within.
            let seen : v2.seen ≡ Some (after_tail w sides) = seen-tail ∙ ap (λ (o : Option Sides). option_map (tailed w w.is_new) o) settled.seen in
            let kept = keeps-less (kept-end sides settled within ends) synced.none_added synced.time in
            let P : Option Sides → Type 0 = λ s. IfSome s (HasSide w.side i3) in
            record {
              along = kept;
              ok = record {
                seen = seen-of-sync syncs ∙ seen;
                only = only-synced w.side _ sides (SameFront (w.gate + 1)) i3 kept.last (subst P seen synced.durable);
              };
            };
      }
