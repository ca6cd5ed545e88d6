-- The steps of a commit, each from the calls that it made.
use Rattle.std.proofs.Common.{◌≡◌, ℕ, ◌+◌, ◌<◌, ◌≤◌, ◌||◌, ◌==◌, Bool, true, false, List, [], ◌∷◌, length, take, drop, get_or, nat_le, Option, Some, None, IfSome, Result, Ok, Err, OnOk, option_map, refl, sym, ◌∙◌, ap, subst, inl, inr, arith}
use Rattle.std.specs.Prelude.{if◌then◌else◌}
use Rattle.std.proofs.lemmas.Bool.Decides.{nat_tests}
use Rattle.std.proofs.lemmas.List.{get_or-drop, get_or-take}
use Rattle.ga_counters.specs.declared.failed.Failed.{Failed}
use Rattle.ga_disk.specs.Disk.{DiskView, Reads, Sizes, Steps, Syncs, TornAt, Writes, written}
use Rattle.ga_disk.specs.Images.{HasSide, Images, LeavesSame, LeavesSteps, LeavesSynced, OnlyImage}
use Rattle.ga_disk.specs.Sides.{Sides, of_side, with_side}
use Rattle.ga_disk.specs.Trace.{DiskTrace}
use Rattle.ga_disk.specs.Trace.DiskCall.{read_call, size_call, sync_call, write_call}
use Rattle.ga_disk.specs.Trace.DiskTrace.{disk_then, one_disk_call}
use Rattle.ga_disk.proofs.Only.{same-then}
use Rattle.ga_store.specs.Commit.{closing_calls, look_calls, must_close}
use Rattle.ga_store.specs.Commits.{Takes}
use Rattle.ga_store.specs.Steps.Committing.{Closes, IsClosing, Keeps, LooksAt, Sets, Settles, Works, after_byte, after_closing}
use Rattle.ga_store.specs.SideParts.{closed_gate, open_gate}
use Rattle.ga_store.specs.declared.fault.StoreFault.{StoreFault}
use Rattle.ga_store.specs.declared.fault.StoreFault.TheVariants.{DiskFault}
use Rattle.ga_store.proofs.CommitDisk.{Clean, at-seen, clean-by, clean-then, frames-by, takes-then, keeps-first, keeps-less, keeps-start, keeps-then, keeps-wider, only-synced, steps-self}
use Rattle.ga_store.proofs.CommitEnds.{clean-of, works-then}

abbrev pub Law : Images → Type 0
Law images = (image : Sides) → images.since images.moment image → images.now image

-- ---- a write and a sync

pub works-write-err : {side at : ℕ} {piece : List ℕ} {v0 v1 : DiskView} {e : Failed} → Writes side at piece v0 v1 (Err e) → Works {A = Unit {0}} v0 v1 (Err DiskFault)
works-write-err {v0 = v0} {v1 = v1} writes = record {
  no_fault = tt;
  fault = ap (λ (v : DiskView). v.counts.faults) writes.failed.others;
  cause = refl;
  frames = frames-by v0 v1 _ _ writes.failed.others refl;
  calls = one_disk_call (write_call writes);
}

pub works-sync-err : {v0 v1 : DiskView} {e : Failed} → Syncs v0 v1 (Err e) → Works {A = Unit {0}} v0 v1 (Err DiskFault)
works-sync-err {v0} {v1} syncs = record {
  no_fault = tt;
  fault = ap (λ (v : DiskView). v.counts.faults) syncs.failed.0;
  cause = refl;
  frames = frames-by v0 v1 _ _ syncs.failed.0 refl;
  calls = one_disk_call (sync_call syncs);
}

pub works-ok : {A : Type 0} {a : A} {v0 v1 : DiskView} → DiskTrace v0 v1 → Clean v0 v1 → Works {A = A} v0 v1 (Ok a)
works-ok went clean = record { no_fault = clean.faults; fault = tt; cause = tt; frames = clean.frames; calls = went }

pub clean-write : {side at : ℕ} {piece : List ℕ} {v0 v1 : DiskView} → Writes {E = Failed} side at piece v0 v1 (Ok tt) → Clean v0 v1
clean-write {v0 = v0} {v1 = v1} writes = clean-by v0 v1 _ writes.ok.1

pub clean-sync : {v0 v1 : DiskView} → Syncs {E = Failed} v0 v1 (Ok tt) → Clean v0 v1
clean-sync {v0} {v1} syncs = clean-by v0 v1 _ syncs.ok

clean-size : {side size : ℕ} {v0 v1 : DiskView} → Sizes {E = Failed} side v0 v1 (Ok size) → Clean v0 v1
clean-size {v0 = v0} {v1 = v1} sizes = clean-by v0 v1 _ sizes.ok.2

clean-read : {side at : ℕ} {buffer : List ℕ} {v0 v1 : DiskView} → Reads {E = Failed} side at buffer v0 v1 (Ok tt) → Clean v0 v1
clean-read {v0 = v0} {v1 = v1} reads = clean-by v0 v1 _ reads.ok.1

pub seen-of-write : {side at : ℕ} {piece : List ℕ} {v0 v1 : DiskView} {sides : Sides} → Writes {E = Failed} side at piece v0 v1 (Ok tt) → v0.seen ≡ Some sides
    → v1.seen ≡ Some (with_side side (written at piece (of_side side sides)) sides)
seen-of-write {side} {at} {piece} {v0} {v1} {sides} writes seen =
    ap (λ (v : DiskView). v.seen) writes.ok.1
    ∙ ap (λ (s : Option Sides). option_map (λ (x : Sides). with_side side (written at piece (of_side side x)) x) s) seen

pub seen-of-sync : {v0 v1 : DiskView} → Syncs {E = Failed} v0 v1 (Ok tt) → v1.seen ≡ v0.seen
seen-of-sync syncs = ap (λ (v : DiskView). v.seen) syncs.ok

seen-of-fault : {v0 v1 : DiskView} {e : Failed} → Syncs v0 v1 (Err e) → v1.seen ≡ v0.seen
seen-of-fault syncs = ap (λ (v : DiskView). v.seen) syncs.failed.0

pub calls-of-write : {side at : ℕ} {piece : List ℕ} {v0 v1 : DiskView} → Writes {E = Failed} side at piece v0 v1 (Ok tt) → Takes 1 v0 v1
calls-of-write writes = ap (λ (v : DiskView). v.counts.calls) writes.ok.1

pub calls-of-sync : {v0 v1 : DiskView} → Syncs {E = Failed} v0 v1 (Ok tt) → Takes 1 v0 v1
calls-of-sync syncs = ap (λ (v : DiskView). v.counts.calls) syncs.ok

-- ---- one byte of a gate

kept-byte : (side gate : ℕ) {steady : Bool} {i0 i1 : Images} {r : Result (Unit {0}) Failed} → Law i0 → (sides : Sides) → OnlyImage i0 sides
    → LeavesSteps side (TornAt gate 1) steady i0 i1 r → Keeps (Steps side (TornAt gate 1) sides) i0 i1
kept-byte side gate law sides only leaves =
    keeps-first side (TornAt gate 1) sides law only (steps-self side gate 1 sides) leaves.follows leaves.time (λ y step. step)

module _ (side gate byte : ℕ) {v0 v1 : DiskView} {i0 i1 : Images} (law : Law i0) where
  pub sets-write-err : {e : Failed} → Writes side gate (byte ∷ []) v0 v1 (Err e) → LeavesSteps {E = Failed} side (TornAt gate 1) v0.steady i0 i1 (Err e)
      → Sets side gate byte v0 v1 i0 i1 (Err DiskFault)
  sets-write-err writes leaves = record {
    works = works-write-err writes;
    reads = tt;
    counted = tt;
    told = λ sides settled. record { along = kept-byte side gate law sides settled.only leaves; ok = tt };
    steady = λ sides settled steady. inl (λ image now. settled.only image (leaves.kept steady image now));
  }

  module _ {v2 : DiskView} {i2 : Images} (writes : Writes {E = Failed} side gate (byte ∷ []) v0 v1 (Ok tt))
      (leaves : LeavesSteps {E = Failed} side (TornAt gate 1) v0.steady i0 i1 (Ok tt)) where
    pub sets-sync-err : {e : Failed} → Syncs v1 v2 (Err e) → LeavesSynced {E = Failed} side v1.seen i1 i2 (Err e) → Sets side gate byte v0 v2 i0 i2 (Err DiskFault)
    sets-sync-err syncs synced = record {
      works = works-then (one_disk_call (write_call writes)) (clean-write writes) (works-sync-err syncs);
      reads = tt;
      counted = tt;
      told = λ sides settled. record { along = keeps-less (kept-byte side gate law sides settled.only leaves) synced.none_added synced.time; ok = tt };
      steady = λ sides settled steady. inr (seen-of-fault syncs ∙ seen-of-write writes settled.seen);
    }

    pub sets-ok : Syncs {E = Failed} v1 v2 (Ok tt) → LeavesSynced {E = Failed} side v1.seen i1 i2 (Ok tt) → Sets side gate byte v0 v2 i0 i2 (Ok tt)
    sets-ok syncs synced = record {
      works = works-ok (disk_then (one_disk_call (write_call writes)) (one_disk_call (sync_call syncs))) (clean-then (clean-write writes) (clean-sync syncs));
      reads = seen-of-sync syncs ∙ ap (λ (v : DiskView). v.seen) writes.ok.1;
      counted = takes-then v0 v1 v2 1 1 (calls-of-write writes) (calls-of-sync syncs);
      told = λ sides settled.
          let seen = seen-of-write writes settled.seen in
          let kept = keeps-less (kept-byte side gate law sides settled.only leaves) synced.none_added synced.time in
          let P : Option Sides → Type 0 = λ s. IfSome s (HasSide side i2) in
          record {
            along = kept;
            ok = record { seen = seen-of-sync syncs ∙ seen; only = only-synced side _ sides (TornAt gate 1) i2 kept.last (subst P seen synced.durable) };
          };
      steady = λ sides settled steady. tt;
    }

-- ---- the look at a gate

pub works-size-err : {A : Type 0} {side : ℕ} {v0 v1 : DiskView} {e : Failed} → Sizes side v0 v1 (Err e) → Works {A = A} v0 v1 (Err DiskFault)
works-size-err {v0 = v0} {v1 = v1} sizes = record {
  no_fault = tt;
  fault = ap (λ (v : DiskView). v.counts.faults) sizes.failed;
  cause = refl;
  frames = frames-by v0 v1 _ _ sizes.failed refl;
  calls = one_disk_call (size_call sizes);
}

works-read-err : {A : Type 0} {side at : ℕ} {buffer : List ℕ} {v0 v1 : DiskView} {e : Failed} → Reads side at buffer v0 v1 (Err e) → Works {A = A} v0 v1 (Err DiskFault)
works-read-err {v0 = v0} {v1 = v1} reads = record {
  no_fault = tt;
  fault = ap (λ (v : DiskView). v.counts.faults) reads.failed;
  cause = refl;
  frames = frames-by v0 v1 _ _ reads.failed refl;
  calls = one_disk_call (read_call reads);
}

pub looks-size-err : {side gate : ℕ} {v0 v1 : DiskView} {i0 i1 : Images} {e : Failed} → Sizes side v0 v1 (Err e) → LeavesSame i0 i1
    → LooksAt side gate v0 v1 i0 i1 (Err DiskFault)
looks-size-err {v0 = v0} {v1 = v1} sizes leaves = record {
  works = works-size-err sizes;
  seen = ap (λ (v : DiskView). v.seen) sizes.failed;
  leaves = leaves;
  ok = tt;
  counted = tt;
}

no-byte : (seen : Option Sides) (side gate size : ℕ) → IfSome seen (λ sides. size ≡ length (of_side side sides)) → size ≤ gate
    → IfSome seen (λ sides. true ≡ must_close gate (of_side side sides))
no-byte None side gate size is le = tt
no-byte (Some sides) side gate size is le =
    let short : nat_le (length (of_side side sides)) gate ≡ true = grind (arith, nat_tests) in
    by (nat_le (length (of_side side sides)) gate) (get_or (of_side side sides) gate 0 == open_gate) short
  where
    by : (a b : Bool) → a ≡ true → true ≡ (a || b)
    by true b e = refl
    by false b e = cc

look-short : (seen : Option Sides) (side gate size : ℕ) (v0 v1 : DiskView) → IfSome seen (λ sides. size ≡ length (of_side side sides)) → size ≤ gate
    → Takes 1 v0 v1 → IfSome seen (λ sides. Takes (look_calls gate (of_side side sides)) v0 v1)
look-short None side gate size v0 v1 is le takes = tt
look-short (Some sides) side gate size v0 v1 is le takes =
    let short : nat_le (length (of_side side sides)) gate ≡ true = grind (arith, nat_tests) in
    subst (λ (b : Bool). Takes (if b then 1 else 2) v0 v1) (sym short) takes

look-long : (seen : Option Sides) (side gate size : ℕ) (v0 v1 : DiskView) → IfSome seen (λ sides. size ≡ length (of_side side sides)) → gate < size
    → Takes 2 v0 v1 → IfSome seen (λ sides. Takes (look_calls gate (of_side side sides)) v0 v1)
look-long None side gate size v0 v1 is less takes = tt
look-long (Some sides) side gate size v0 v1 is less takes =
    let long : nat_le (length (of_side side sides)) gate ≡ false = grind (arith, nat_tests) in
    subst (λ (b : Bool). Takes (if b then 1 else 2) v0 v1) (sym long) takes

pub looks-short : {side gate size : ℕ} {v0 v1 : DiskView} {i0 i1 : Images} → Sizes {E = Failed} side v0 v1 (Ok size) → LeavesSame i0 i1 → size ≤ gate
    → LooksAt side gate v0 v1 i0 i1 (Ok true)
looks-short {side} {gate} {size} {v0} {v1} sizes leaves le = record {
  works = works-ok (one_disk_call (size_call sizes)) (clean-size sizes);
  seen = ap (λ (v : DiskView). v.seen) sizes.ok.2;
  leaves = leaves;
  ok = no-byte v0.seen side gate size sizes.ok.1 le;
  counted = look-short v0.seen side gate size v0 v1 sizes.ok.1 le (ap (λ (v : DiskView). v.counts.calls) sizes.ok.2);
}

pub reads-within : (seen : Option Sides) (side gate size n : ℕ) → IfSome seen (λ sides. size ≡ length (of_side side sides)) → gate < size → n ≡ 1
    → IfSome seen (λ sides. gate + n ≤ length (of_side side sides))
reads-within None side gate size n is less one = tt
reads-within (Some sides) side gate size n is less one = omega (arith, is, one)

a-byte : (seen : Option Sides) (side gate size : ℕ) (buffer : List ℕ) → IfSome seen (λ sides. size ≡ length (of_side side sides)) → gate < size
    → length buffer ≡ 1 → IfSome seen (λ sides. buffer ≡ take (length buffer) (drop gate (of_side side sides)))
    → IfSome seen (λ sides. (get_or buffer 0 0 == open_gate) ≡ must_close gate (of_side side sides))
a-byte None side gate size buffer is less one same = tt
a-byte (Some sides) side gate size buffer is less one same =
    let long : nat_le (length (of_side side sides)) gate ≡ false = grind (arith, nat_tests) in
    let byte : get_or buffer 0 0 ≡ get_or (of_side side sides) gate 0 =
    ap (λ (b : List ℕ). get_or b 0 0) same
    ∙ get_or-take (length buffer) (drop gate (of_side side sides)) 0 0 (omega arith)
    ∙ get_or-drop gate (of_side side sides) 0 0
    ∙ ap (λ (i : ℕ). get_or (of_side side sides) i 0) (omega arith) in
    ap (λ (b : ℕ). b == open_gate) byte ∙ by (nat_le (length (of_side side sides)) gate) (get_or (of_side side sides) gate 0 == open_gate) long
  where
    by : (a b : Bool) → a ≡ false → b ≡ (a || b)
    by true b e = cc
    by false b e = refl

seen-sized : {side size : ℕ} {v0 v1 : DiskView} → Sizes {E = Failed} side v0 v1 (Ok size) → v1.seen ≡ v0.seen
seen-sized sizes = ap (λ (v : DiskView). v.seen) sizes.ok.2

module _ {side gate size : ℕ} {v0 v1 v2 : DiskView} {i0 i1 i2 : Images} (sizes : Sizes {E = Failed} side v0 v1 (Ok size)) (first : LeavesSame i0 i1)
    (second : LeavesSame i1 i2) (law : (t : ℕ) (image : Sides) → t ≤ i0.moment → i0.now image → i0.since t image) where
  pub looks-read-err : {buffer : List ℕ} {e : Failed} → Reads side gate buffer v1 v2 (Err e) → LooksAt side gate v0 v2 i0 i2 (Err DiskFault)
  looks-read-err reads = record {
    works = works-then (one_disk_call (size_call sizes)) (clean-size sizes) (works-read-err reads);
    seen = ap (λ (v : DiskView). v.seen) reads.failed ∙ seen-sized sizes;
    leaves = same-then law first second;
    ok = tt;
    counted = tt;
  }

  pub looks-read : {buffer : List ℕ} → Reads {E = Failed} side gate buffer v1 v2 (Ok tt) → gate < size → length buffer ≡ 1
      → LooksAt side gate v0 v2 i0 i2 (Ok (get_or buffer 0 0 == open_gate))
  looks-read {buffer} reads less one =
      let P : Option Sides → Type 0 = λ s. IfSome s (λ sides. buffer ≡ take (length buffer) (drop gate (of_side side sides))) in
      record {
        works = works-ok (disk_then (one_disk_call (size_call sizes)) (one_disk_call (read_call reads))) (clean-then (clean-size sizes) (clean-read reads));
        seen = ap (λ (v : DiskView). v.seen) reads.ok.1 ∙ seen-sized sizes;
        leaves = same-then law first second;
        ok = a-byte v0.seen side gate size buffer sizes.ok.1 less one (subst P (seen-sized sizes) reads.ok.0);
        counted = look-long v0.seen side gate size v0 v2 sizes.ok.1 less
            (takes-then v0 v1 v2 1 1 (ap (λ (v : DiskView). v.counts.calls) sizes.ok.2) (ap (λ (v : DiskView). v.counts.calls) reads.ok.1));
      }

-- ---- the closing of a gate

works-on : {A : Type 0} {v0 v1 v2 : DiskView} (r : Result A StoreFault) → DiskTrace v0 v1 → Clean v0 v1 → Works v1 v2 r → Works v0 v2 r
works-on (Ok a) went clean works = works-ok (disk_then went works.calls) (clean-then clean (clean-of works))
works-on (Err e) went clean works = works-then went clean works

on-ok : {A B P Q : Type 0} (r : Result A B) → (P → Q) → OnOk r P → OnOk r Q
on-ok (Ok a) f p = f p
on-ok (Err e) f p = tt

as-kept : (side gate : ℕ) (must : Bool) (seen : Option Sides) → IfSome seen (λ sides. must ≡ must_close gate (of_side side sides)) → must ≡ false
    → seen ≡ option_map (after_closing side gate) seen
as-kept side gate must None is not = refl
as-kept side gate must (Some sides) is not =
    subst (λ (b : Bool). Some sides ≡ Some (if b then after_byte side gate closed_gate sides else sides)) (sym not ∙ is) refl

as-set : (side gate : ℕ) (must : Bool) (seen : Option Sides) → IfSome seen (λ sides. must ≡ must_close gate (of_side side sides)) → must ≡ true
    → option_map (after_byte side gate closed_gate) seen ≡ option_map (after_closing side gate) seen
as-set side gate must None is must_now = refl
as-set side gate must (Some sides) is must_now =
    subst (λ (b : Bool). Some (after_byte side gate closed_gate sides) ≡ Some (if b then after_byte side gate closed_gate sides else sides)) (sym must_now ∙ is) refl

closing-kept : (side gate : ℕ) (must : Bool) (seen : Option Sides) (v0 v1 : DiskView) → IfSome seen (λ sides. must ≡ must_close gate (of_side side sides))
    → IfSome seen (λ sides. Takes (look_calls gate (of_side side sides)) v0 v1) → must ≡ false
    → IfSome seen (λ sides. Takes (closing_calls gate (of_side side sides)) v0 v1)
closing-kept side gate must None v0 v1 is takes not = tt
closing-kept side gate must (Some sides) v0 v1 is takes not =
    let same : look_calls gate (of_side side sides) ≡ look_calls gate (of_side side sides) + 0 = omega arith in
    subst (λ (b : Bool). Takes (look_calls gate (of_side side sides) + (if b then 2 else 0)) v0 v1) (sym not ∙ is)
    (subst (λ (n : ℕ). Takes n v0 v1) same takes)

closing-set : (side gate : ℕ) (must : Bool) (seen : Option Sides) (v0 v1 v2 : DiskView) → IfSome seen (λ sides. must ≡ must_close gate (of_side side sides))
    → IfSome seen (λ sides. Takes (look_calls gate (of_side side sides)) v0 v1) → must ≡ true → Takes 2 v1 v2
    → IfSome seen (λ sides. Takes (closing_calls gate (of_side side sides)) v0 v2)
closing-set side gate must None v0 v1 v2 is takes must_now more = tt
closing-set side gate must (Some sides) v0 v1 v2 is takes must_now more =
    subst (λ (b : Bool). Takes (look_calls gate (of_side side sides) + (if b then 2 else 0)) v0 v2) (sym must_now ∙ is)
    (takes-then v0 v1 v2 (look_calls gate (of_side side sides)) 2 takes more)

pub closes-look-err : {side gate : ℕ} {v0 v1 : DiskView} {i0 i1 : Images} {e : StoreFault} → Law i0 → LooksAt side gate v0 v1 i0 i1 (Err e)
    → Closes side gate v0 v1 i0 i1 (Err e)
closes-look-err law looks = record {
  works = record { no_fault = tt; fault = looks.works.fault; cause = looks.works.cause; frames = looks.works.frames; calls = looks.works.calls };
  reads = tt;
  counted = tt;
  told = λ sides settled. record {
    along = keeps-less (keeps-start _ (IsClosing _ _ sides) law (λ image now. inl (settled.only image now))) looks.leaves.none_added looks.leaves.time;
    ok = tt;
  };
}

module _ {side gate : ℕ} {must : Bool} {v0 v1 : DiskView} {i0 i1 : Images} (law : Law i0) (looks : LooksAt side gate v0 v1 i0 i1 (Ok must)) where
  must-is : (sides : Sides) → Settles sides v0 i0 → must ≡ must_close gate (of_side side sides)
  must-is sides settled = at-seen _ settled.seen looks.ok

  kept-look : (sides : Sides) → Settles sides v0 i0 → Keeps (IsClosing side gate sides) i0 i1
  kept-look sides settled =
      keeps-less (keeps-start i0 (IsClosing side gate sides) law (λ image now. inl (settled.only image now))) looks.leaves.none_added looks.leaves.time

  settled-look : (sides : Sides) → Settles sides v0 i0 → Settles sides v1 i1
  settled-look sides settled = record {
    seen = looks.seen ∙ settled.seen;
    only = λ image now. settled.only image (looks.leaves.none_added image now);
  }

  pub closes-none : must ≡ false → Closes side gate v0 v1 i0 i1 (Ok tt)
  closes-none not = record {
    works = works-ok looks.works.calls (clean-of looks.works);
    reads = looks.seen ∙ as-kept side gate must v0.seen looks.ok not;
    counted = closing-kept side gate must v0.seen v0 v1 looks.ok looks.counted not;
    told = λ sides settled.
        let e : must_close gate (of_side side sides) ≡ false = sym (must-is sides settled) ∙ not in
        record {
          along = kept-look sides settled;
          ok = subst (λ (b : Bool). Settles (if b then after_byte side gate closed_gate sides else sides) v1 i1) (sym e) (settled-look sides settled);
        };
  }

  pub closes-set : {v2 : DiskView} {i2 : Images} (r : Result (Unit {0}) StoreFault) → must ≡ true → Sets side gate closed_gate v1 v2 i1 i2 r
      → Closes side gate v0 v2 i0 i2 r
  closes-set {v2} {i2} r is sets = record {
    works = works-on r looks.works.calls (clean-of looks.works) sets.works;
    reads = on-ok r (λ (e : v2.seen ≡ option_map (after_byte side gate closed_gate) v1.seen).
        e ∙ ap (λ (o : Option Sides). option_map (after_byte side gate closed_gate) o) looks.seen ∙ as-set side gate must v0.seen looks.ok is) sets.reads;
    counted = on-ok r (λ (takes : Takes 2 v1 v2). closing-set side gate must v0.seen v0 v1 v2 looks.ok looks.counted is takes) sets.counted;
    told = λ sides settled.
        let e : must_close gate (of_side side sides) ≡ true = sym (must-is sides settled) ∙ is in
        let lead = sets.told sides (settled-look sides settled) in
        record {
          along = keeps-then (kept-look sides settled)
              (keeps-wider {P = Steps side (TornAt gate 1) sides} {Q = IsClosing side gate sides} (λ image step. inr (e, step)) lead.along);
          ok = subst (λ (b : Bool). OnOk r (Settles (if b then after_byte side gate closed_gate sides else sides) v2 i2)) (sym e) lead.ok;
        };
  }
