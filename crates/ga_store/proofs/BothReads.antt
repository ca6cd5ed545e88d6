-- Both sides as they are read.
use Rattle.std.proofs.Common.{◌≡◌, ℕ, ◌+◌, ◌<◌, Bool, List, [], ◌++◌, length, Option, Some, None, Result, Ok, Err, IfSome, refl, sym, subst, arith, append_assoc, length-append}
use Rattle.ga_disk.specs.Disk.{DiskView}
use Rattle.ga_disk.specs.Images.{Images}
use Rattle.ga_disk.specs.Sides.{Sides}
use Rattle.ga_store.specs.Database.{DbOf, Reading}
use Rattle.ga_store.specs.Database.DbOf.{chosen1, lacks1, nothing}
use Rattle.ga_store.specs.Database.IsWhole.{unused, used}
use Rattle.ga_store.specs.Database.YieldsTo.{closed, older}
use Rattle.ga_store.specs.Steps.BothStreams.{AllSay, Pair, SecondSays, SidesSay, StartsGoOn, StreamsBoth, TookBoth}
use Rattle.ga_store.specs.Steps.Recovery.{IsOutside}
use Rattle.ga_store.specs.Steps.Starts.{IsLaterThan, SaysBegun, SaysStart, number_of, reading_of}
use Rattle.ga_store.specs.Steps.Stream.{IsAt, IsRest, StreamView, Streams, Took, TookOff}
use Rattle.ga_store.specs.Store.{Looks, is_disk_fault}
use Rattle.ga_store.specs.declared.fault.StoreFault.{StoreFault}
use Rattle.ga_store.specs.declared.starts.Begun.{Begun}
use Rattle.ga_store.specs.declared.starts.Said.{Said}
use Rattle.ga_store.specs.declared.starts.Start.{Start}
use Rattle.ga_store.specs.declared.starts.Start.TheVariants.{Damaged as StartDamaged, Older, Snapshot, Unused as StartUnused}
use Rattle.ga_store.proofs.RecoverDisk.{CountsNow, looks-none, looks-then, seen-same}
use Rattle.ga_store.proofs.Streaming.{off-none, off-then, same-fault}

-- ---- taken

pub both-none : (view : DiskView) (images : Images) (p : Pair) → TookBoth view view images images p p [] []
unfolding off-none
both-none view images p = record { off0 = off-none view.seen p.s0; off1 = off-none view.seen p.s1; looks = looks-none view images; calls = omega arith }

pub took0 : {view view' : DiskView} {images images' : Images} {s0 s0' : StreamView} (s1 : StreamView) {taken : List ℕ} → Took view view' images images' s0 s0' taken
    → TookBoth view view' images images' (record { s0 = s0; s1 = s1 }) (record { s0 = s0'; s1 = s1 }) taken []
unfolding off-none
took0 {view} s1 took = record { off0 = took.off; off1 = off-none view.seen s1; looks = took.looks; calls = omega (arith, took.calls) }

pub took1 : {view view' : DiskView} {images images' : Images} (s0 : StreamView) {s1 s1' : StreamView} {taken : List ℕ} → Took view view' images images' s1 s1' taken
    → TookBoth view view' images images' (record { s0 = s0; s1 = s1 }) (record { s0 = s0; s1 = s1' }) [] taken
unfolding off-none
took1 {view} s0 took = record { off0 = off-none view.seen s0; off1 = took.off; looks = took.looks; calls = omega (arith, took.calls) }

pub both-then : {old mid new : DiskView} {images images' images'' : Images} {a b c : Pair} {xs0 xs1 ys0 ys1 : List ℕ} → CountsNow images
    → TookBoth old mid images images' a b xs0 xs1 → TookBoth mid new images' images'' b c ys0 ys1
    → TookBoth old new images images'' a c (xs0 ++ ys0) (xs1 ++ ys1)
unfolding off-then
both-then law first second =
    let same = seen-same first.looks in
    record {
      off0 = off-then same first.off0 second.off0;
      off1 = off-then same first.off1 second.off1;
      looks = looks-then law first.looks second.looks;
      calls = omega (arith, first.calls, second.calls);
    }

off-as : {seen seen' : Option Sides} {s s' : StreamView} {taken : List ℕ} → seen' ≡ seen → TookOff seen' s s' taken → TookOff seen s s' taken
off-as {s = s} {s' = s'} {taken = taken} same off = subst (λ (o : Option Sides). TookOff o s s' taken) same off

-- of one side, and then of the other
pub took01 : {old mid new : DiskView} {images images' images'' : Images} {s0 s0' s1 s1' : StreamView} {taken0 taken1 : List ℕ} → CountsNow images
    → Took old mid images images' s0 s0' taken0 → Took mid new images' images'' s1 s1' taken1
    → TookBoth old new images images'' (record { s0 = s0; s1 = s1 }) (record { s0 = s0'; s1 = s1' }) taken0 taken1
unfolding off-as
took01 law first second = record {
  off0 = first.off;
  off1 = off-as (seen-same first.looks) second.off;
  looks = looks-then law first.looks second.looks;
  calls = omega (arith, first.calls, second.calls);
}

pub took10 : {old mid new : DiskView} {images images' images'' : Images} {s0 s0' s1 s1' : StreamView} {taken0 taken1 : List ℕ} → CountsNow images
    → Took old mid images images' s1 s1' taken1 → Took mid new images' images'' s0 s0' taken0
    → TookBoth old new images images'' (record { s0 = s0; s1 = s1 }) (record { s0 = s0'; s1 = s1' }) taken0 taken1
unfolding off-as
took10 law first second = record {
  off0 = off-as (seen-same first.looks) second.off;
  off1 = first.off;
  looks = looks-then law first.looks second.looks;
  calls = omega (arith, first.calls, second.calls);
}

-- ---- answers

-- one side was read on
pub both-of0 : {X : Type 0} {view view' : DiskView} {images images' : Images} {s0 s0' : StreamView} (s1 : StreamView) {P : X → List ℕ → Type 0}
    {Q : X → List ℕ → List ℕ → Type 0} (result : Result X StoreFault) → Streams view view' images images' s0 s0' P result
    → ((x : X) (taken : List ℕ) → result ≡ Ok x → P x taken → Q x taken [])
    → StreamsBoth view view' images images' (record { s0 = s0; s1 = s1 }) (record { s0 = s0'; s1 = s1 }) Q result
both-of0 s1 (Ok x) streams goes = record {
  looks = streams.looks;
  took = record { taken0 = streams.took.0; taken1 = []; took = took0 s1 streams.took.1; goes = goes x streams.took.0 refl streams.took.2 };
  outside = tt;
}
both-of0 s1 (Err fault) streams goes = record { looks = streams.looks; took = tt; outside = streams.outside }

pub both-of1 : {X : Type 0} {view view' : DiskView} {images images' : Images} (s0 : StreamView) {s1 s1' : StreamView} {P : X → List ℕ → Type 0}
    {Q : X → List ℕ → List ℕ → Type 0} (result : Result X StoreFault) → Streams view view' images images' s1 s1' P result
    → ((x : X) (taken : List ℕ) → result ≡ Ok x → P x taken → Q x [] taken)
    → StreamsBoth view view' images images' (record { s0 = s0; s1 = s1 }) (record { s0 = s0; s1 = s1' }) Q result
both-of1 s0 (Ok x) streams goes = record {
  looks = streams.looks;
  took = record { taken0 = []; taken1 = streams.took.0; took = took1 s0 streams.took.1; goes = goes x streams.took.0 refl streams.took.2 };
  outside = tt;
}
both-of1 s0 (Err fault) streams goes = record { looks = streams.looks; took = tt; outside = streams.outside }

-- bytes were taken, and then a call fails or memory runs out
pub both-fail : {X Y : Type 0} {old mid new : DiskView} {images images' images'' : Images} {a b c : Pair} {xs0 xs1 : List ℕ}
    {Q : Y → List ℕ → List ℕ → Type 0} (result : Result X StoreFault) (fault : StoreFault) → result ≡ Err fault → CountsNow images
    → TookBoth old mid images images' a b xs0 xs1 → Looks (is_disk_fault result) mid new images' images''
    → IsOutside fault → StreamsBoth old new images images'' a c Q (Err fault)
both-fail {X} {Y} {old = old} {mid = mid} {new = new} {images = images} {images' = images'} {images'' = images''} result fault is law first looks outside =
    let next = subst (λ (r : Result X StoreFault). Looks (is_disk_fault r) mid new images' images'') is looks in
    let all = looks-then law first.looks next in
    record {
      looks = subst (λ (failed : Bool). Looks failed old new images images'') (same-fault X Y fault) all;
      took = tt;
      outside = outside;
    }

-- bytes were taken, and then others, with the answer
pub both-go : {X : Type 0} {old mid new : DiskView} {images images' images'' : Images} {a b c : Pair} {xs0 xs1 : List ℕ} {P Q : X → List ℕ → List ℕ → Type 0}
    (result : Result X StoreFault) → CountsNow images → TookBoth old mid images images' a b xs0 xs1 → StreamsBoth mid new images' images'' b c P result
    → ((x : X) (ys0 ys1 : List ℕ) → TookBoth mid new images' images'' b c ys0 ys1 → P x ys0 ys1 → Q x (xs0 ++ ys0) (xs1 ++ ys1))
    → StreamsBoth old new images images'' a c Q result
both-go {xs0 = xs0} {xs1 = xs1} (Ok x) law first second goes = record {
  looks = looks-then law first.looks second.looks;
  took = record {
    taken0 = xs0 ++ second.took.taken0;
    taken1 = xs1 ++ second.took.taken1;
    took = both-then law first second.took.took;
    goes = goes x second.took.taken0 second.took.taken1 second.took.took second.took.goes;
  };
  outside = tt;
}
both-go (Err fault) law first second goes = record { looks = looks-then law first.looks second.looks; took = tt; outside = second.outside }

-- ---- starts

-- where the other number is later, and that of a snapshot, the snapshot is later
pub later-is : (other : Option ℕ) (number generation : ℕ) → IsLaterThan other number → IfSome other (λ n. generation ≡ n) → number < generation
later-is None number generation later is = absurd later
later-is (Some n) number generation later is = omega (arith, later, is)

no-later : (other : Option ℕ) (number : ℕ) → other ≡ None → IsLaterThan other number → ⊥
no-later other number none later = subst (λ (o : Option ℕ). IsLaterThan o number) none later

pub second-unused : (new : Pair) (start1 : Start) (said : Said) (taken : List ℕ) → SecondSays new.s1 start1 said taken → SidesSay new StartUnused start1 said [] taken
second-unused new StartDamaged said taken says = λ own0 own1 b0 r0 b1 r1 has0 has1 is0 is1.
    subst (λ (r : Reading). DbOf (record { side0 = b0 ++ ([] ++ r0); side1 = b1 ++ (taken ++ r1) }) r) (sym says) (lacks1 (unused has0.0) has1)
second-unused new (Snapshot second) said taken says = λ own0 own1 b0 r0 b1 r1 has0 has1 is0 is1.
    chosen1 has1.0 (closed has0.0) (says b1 r1 (sym has1.1) is1)
second-unused new StartUnused said taken says = λ own0 own1 b0 r0 b1 r1 has0 has1 is0 is1.
    subst (λ (r : Reading). DbOf (record { side0 = b0 ++ ([] ++ r0); side1 = b1 ++ (taken ++ r1) }) r) (sym says) (nothing has0.0 has1.0)
second-unused new Older said taken says = λ own0 own1 b0 r0 b1 r1 has0 has1 is0 is1. absurd (no-later own0 has1.snapshot.generation has0.1 has1.older)

pub second-older : (new : Pair) (start1 : Start) (said : Said) (taken : List ℕ) → SecondSays new.s1 start1 said taken → SidesSay new Older start1 said [] taken
second-older new StartDamaged said taken says = λ own0 own1 b0 r0 b1 r1 has0 has1 is0 is1.
    subst (λ (r : Reading). DbOf (record { side0 = b0 ++ ([] ++ r0); side1 = b1 ++ (taken ++ r1) }) r) (sym says) (lacks1 (used has0.has) has1)
second-older new (Snapshot second) said taken says = λ own0 own1 b0 r0 b1 r1 has0 has1 is0 is1.
    chosen1 has1.0 (older has0.has (later-is own1 has0.snapshot.generation second.snapshot.generation has0.older has1.2)) (says b1 r1 (sym has1.1) is1)
second-older new StartUnused said taken says = λ own0 own1 b0 r0 b1 r1 has0 has1 is0 is1. absurd (no-later own1 has0.snapshot.generation has1.1 has0.older)
second-older new Older said taken says = λ own0 own1 b0 r0 b1 r1 has0 has1 is0 is1.
    let up = later-is own1 has0.snapshot.generation has1.snapshot.generation has0.older has1.own_number in
    let down = later-is own0 has1.snapshot.generation has0.snapshot.generation has1.older has0.own_number in
    absurd (omega (arith, up, down))

-- ---- all

-- the start of a side that was begun, read to its end, and read on
pub start-says : {seen0 seen1 seen2 : Option Sides} (a b f n : StreamView) (taken whole on rest : List ℕ) (begun : Begun) (own other : Option ℕ) (start : Start)
    → IsAt a 0 → TookOff seen0 a b taken → TookOff seen1 b f whole → TookOff seen2 f n on → SaysBegun b begun taken → IsRest n rest
    → ((before rest : List ℕ) → SaysBegun b begun before → IsAt f (length before + length whole) → IsRest f rest
    → SaysStart own other (before ++ (whole ++ rest)) (length before + length whole) start)
    → SaysStart own other ((taken ++ whole) ++ (on ++ rest)) (length (taken ++ whole)) start
start-says a b f n taken whole on rest begun own other start at first second third says is goes =
    let here : IsAt f (length taken + length whole) = omega (arith, at, first.long, first.size, second.long, second.size) in
    let said = goes taken (on ++ rest) says here (third.rest rest is) in
    let bytes : taken ++ (whole ++ (on ++ rest)) ≡ (taken ++ whole) ++ (on ++ rest) = sym (append_assoc taken whole (on ++ rest)) in
    let long : length taken + length whole ≡ length (taken ++ whole) = sym (length-append taken whole) in
    subst (λ (p : List ℕ × ℕ). SaysStart own other p.0 p.1 start) (λ i. (bytes i, long i)) said

pub all-say : {seen0 seen1 seen2 : Option Sides} (a b f n : Pair) (begun0 begun1 : Begun) (starts : Start × Start) (said : Said) (t0 t1 w0 w1 o0 o1 : List ℕ)
    → IsAt a.s0 0 → IsAt a.s1 0 → TookOff seen0 a.s0 b.s0 t0 → TookOff seen0 a.s1 b.s1 t1 → SaysBegun b.s0 begun0 t0 → SaysBegun b.s1 begun1 t1
    → TookOff seen1 b.s0 f.s0 w0 → TookOff seen1 b.s1 f.s1 w1 → StartsGoOn b f begun0 begun1 starts w0 w1
    → TookOff seen2 f.s0 n.s0 o0 → TookOff seen2 f.s1 n.s1 o1 → SidesSay n starts.0 starts.1 said o0 o1 → AllSay n said ((t0 ++ w0) ++ o0) ((t1 ++ w1) ++ o1)
all-say a b f n begun0 begun1 starts said t0 t1 w0 w1 o0 o1 at0 at1 b0 b1 says0 says1 f0 f1 goes n0 n1 say = λ rest0 rest1 is0 is1.
    let here0 = start-says a.s0 b.s0 f.s0 n.s0 t0 w0 o0 rest0 begun0 (number_of begun0) (number_of begun1) starts.0 at0 b0 f0 n0 says0 is0 goes.says0 in
    let here1 = start-says a.s1 b.s1 f.s1 n.s1 t1 w1 o1 rest1 begun1 (number_of begun1) (number_of begun0) starts.1 at1 b1 f1 n1 says1 is1 goes.says1 in
    let has = say (number_of begun0) (number_of begun1) (t0 ++ w0) rest0 (t1 ++ w1) rest1 here0 here1 is0 is1 in
    let bytes0 : (t0 ++ w0) ++ (o0 ++ rest0) ≡ ((t0 ++ w0) ++ o0) ++ rest0 = sym (append_assoc (t0 ++ w0) o0 rest0) in
    let bytes1 : (t1 ++ w1) ++ (o1 ++ rest1) ≡ ((t1 ++ w1) ++ o1) ++ rest1 = sym (append_assoc (t1 ++ w1) o1 rest1) in
    subst (λ (s : Sides). DbOf s (reading_of said)) (λ i. record { side0 = bytes0 i; side1 = bytes1 i }) has
