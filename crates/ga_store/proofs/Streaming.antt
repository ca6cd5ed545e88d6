-- Bytes that are taken off a side, one call after the other.
use Rattle.std.proofs.Common.{◌≡◌, ℕ, ◌+◌, ◌-◌, ◌*◌, ◌<◌, ◌≤◌, Bool, false, List, [], ◌++◌, length, take, drop, min, Option, Some, None, Result, Ok, Err, IfSome, refl, sym, ap, ◌∙◌, subst, arith, append_assoc, length-append, length-take, length-drop}
use Rattle.std.proofs.Math.Seq.{take-append-add, take-append_seam}
use Rattle.std.proofs.lemmas.List.{take-append-drop, take-take, drop-drop}
use Rattle.ga_disk.specs.Disk.{DiskView}
use Rattle.ga_disk.specs.Images.{Images}
use Rattle.ga_disk.specs.Sides.{Sides, of_side}
use Rattle.ga_store.specs.Steps.Slice.{Gets}
use Rattle.ga_store.specs.Steps.Stream.{IsRest, StreamView, Streams, Took, TookOff, asked, rest_of}
use Rattle.ga_store.specs.Store.{Looks, is_disk_fault, most_read}
use Rattle.ga_store.specs.declared.fault.StoreFault.{StoreFault}
use Rattle.ga_store.specs.declared.fault.StoreFault.TheVariants.{CounterFull, Damaged, DiskFault, NoMemory}
use Rattle.ga_store.proofs.RecoverDisk.{CountsNow, looks-none, looks-then, seen-same}
use Rattle.ga_store.proofs.RecoverParts.{if_some-all, if_some-map}

-- ---- taken

unfoldable pub off-none : (seen : Option Sides) (s : StreamView) → TookOff seen s s []
off-none seen s = record {
  side = refl;
  size = refl;
  reads = 0;
  read = omega arith;
  long = omega arith;
  rest = λ rest is. is;
  told = if_some-all _ seen (λ seen. refl);
}

pub took-none : (view : DiskView) (images : Images) (s : StreamView) → Took view view images images s s []
unfolding off-none
took-none view images s = record { off = off-none view.seen s; looks = looks-none view images; calls = omega arith }

pub told-then : (seen seen' : Option Sides) (a b c : StreamView) (xs ys : List ℕ) → seen' ≡ seen → IfSome seen (λ seen. rest_of a seen ≡ xs ++ rest_of b seen)
    → IfSome seen' (λ seen. rest_of b seen ≡ ys ++ rest_of c seen) → IfSome seen (λ seen. rest_of a seen ≡ (xs ++ ys) ++ rest_of c seen)
told-then None seen' a b c xs ys same first second = tt
told-then (Some seen) seen' a b c xs ys same first second =
    let next : rest_of b seen ≡ ys ++ rest_of c seen = subst (λ (o : Option Sides). IfSome o (λ seen. rest_of b seen ≡ ys ++ rest_of c seen)) same second in
    first ∙ ap (λ (t : List ℕ). xs ++ t) next ∙ sym (append_assoc xs ys (rest_of c seen))

-- bytes were taken, and then others
unfoldable pub off-then : {seen seen' : Option Sides} {a b c : StreamView} {xs ys : List ℕ} → seen' ≡ seen → TookOff seen a b xs → TookOff seen' b c ys
    → TookOff seen a c (xs ++ ys)
off-then {seen} {seen'} {a = a} {b = b} {c = c} {xs = xs} {ys = ys} same first second = record {
  side = second.side ∙ first.side;
  size = second.size ∙ first.size;
  reads = first.reads + second.reads;
  read = omega (arith, first.read, second.read);
  long = omega (arith, first.long, second.long, length-append xs ys);
  rest = λ rest is. subst (λ (t : List ℕ). IsRest a t) (sym (append_assoc xs ys rest)) (first.rest (ys ++ rest) (second.rest rest is));
  told = told-then seen seen' a b c xs ys same first.told second.told;
}

pub took-then : {old mid new : DiskView} {images images' images'' : Images} {a b c : StreamView} {xs ys : List ℕ} → CountsNow images
    → Took old mid images images' a b xs → Took mid new images' images'' b c ys → Took old new images images'' a c (xs ++ ys)
unfolding off-then
took-then law first second = record {
  off = off-then (seen-same first.looks) first.off second.off;
  looks = looks-then law first.looks second.looks;
  calls = omega (arith, first.calls, second.calls);
}

-- bytes of the window are taken
abbrev pub past : ℕ → StreamView → StreamView
past count s = record s { window = drop count s.window }

past-rest : (count : ℕ) (s : StreamView) (rest : List ℕ) → count ≤ length s.window → IsRest (past count s) rest → IsRest s (take count s.window ++ rest)
past-rest count s rest le is =
    let front = take count s.window in
    let long : length front ≡ count = omega (arith, length-take count s.window) in
    let gone = length-drop count s.window in
    let two : length s.window ≡ length front + length (drop count s.window) = omega (arith, long, gone) in
    record {
      size = omega (arith, is.size, length-append front rest, long, gone);
      front = ap (λ (n : ℕ). take n (front ++ rest)) two ∙ take-append-add front rest (length (drop count s.window))
          ∙ ap (λ (t : List ℕ). front ++ t) is.front ∙ take-append-drop count s.window;
    }

pub took-past : (view : DiskView) (images : Images) (count : ℕ) (s : StreamView) → count ≤ length s.window
    → Took view view images images s (past count s) (take count s.window)
took-past view images count s le = record {
  off = record {
    side = refl;
    size = refl;
    reads = 0;
    read = omega arith;
    long = omega (arith, length-take count s.window, length-drop count s.window);
    rest = λ rest is. past-rest count s rest le is;
    told = if_some-all _ view.seen (λ seen.
        ap (λ (t : List ℕ). t ++ drop (asked s) (of_side s.side seen)) (sym (take-append-drop count s.window))
        ∙ append_assoc (take count s.window) (drop count s.window) (drop (asked s) (of_side s.side seen)));
  };
  looks = looks-none view images;
  calls = omega arith;
}

-- ---- answers

-- bytes were taken, and then a call fails or memory runs out
pub same-fault : (X Y : Type 0) (fault : StoreFault) → is_disk_fault {A = X} (Err fault) ≡ is_disk_fault {A = Y} (Err fault)
same-fault X Y DiskFault = refl
same-fault X Y (Damaged side at) = refl
same-fault X Y (CounterFull which total) = refl
same-fault X Y NoMemory = refl

pub streams-fail : {X Y : Type 0} {old mid new : DiskView} {images images' images'' : Images} {a b c : StreamView} {xs : List ℕ}
    {P : X → List ℕ → Type 0} {Q : Y → List ℕ → Type 0} (result : Result X StoreFault) (fault : StoreFault) → result ≡ Err fault → CountsNow images
    → Took old mid images images' a b xs → Streams mid new images' images'' b c P result → Streams old new images images'' a c Q (Err fault)
streams-fail {X} {Y} {old = old} {mid = mid} {new = new} {images = images} {images' = images'} {images'' = images''} {b = b} {c = c} {P = P} result fault is law first second =
    let next = subst (λ (r : Result X StoreFault). Streams mid new images' images'' b c P r) is second in
    let looks = looks-then law first.looks next.looks in
    record {
      looks = subst (λ (failed : Bool). Looks failed old new images images'') (same-fault X Y fault) looks;
      took = tt;
      outside = next.outside;
    }

-- bytes were taken, and then others, with the answer
pub streams-then : {X : Type 0} {old mid new : DiskView} {images images' images'' : Images} {a b c : StreamView} {xs : List ℕ} {P Q : X → List ℕ → Type 0}
    (result : Result X StoreFault) → CountsNow images → Took old mid images images' a b xs → Streams mid new images' images'' b c P result
    → ((x : X) (ys : List ℕ) → result ≡ Ok x → P x ys → Q x (xs ++ ys)) → Streams old new images images'' a c Q result
streams-then {xs = xs} (Ok x) law first second goes = record {
  looks = looks-then law first.looks second.looks;
  took = (xs ++ second.took.0, took-then law first second.took.1, goes x second.took.0 refl second.took.2);
  outside = tt;
}
streams-then (Err fault) law first second goes = record {
  looks = looks-then law first.looks second.looks;
  took = tt;
  outside = second.outside;
}

-- ---- slices

told-slice : (seen : Option Sides) (s : StreamView) (count : ℕ) (slice window : List ℕ) → window ≡ s.window ++ slice → asked s + count ≡ min s.size ((s.reads + 1) * most_read)
    → IfSome seen (λ seen. slice ≡ take count (drop (asked s) (of_side s.side seen)))
    → IfSome seen (λ seen. rest_of s seen ≡ rest_of (record s { reads = s.reads + 1; window = window }) seen)
told-slice seen s count slice window is sum told = if_some-map _ _ seen (λ seen same.
    let side = of_side s.side seen in
    let next : drop (min s.size ((s.reads + 1) * most_read)) side ≡ drop count (drop (asked s) side) =
    ap (λ (n : ℕ). drop n side) (sym sum) ∙ sym (drop-drop count (asked s) side) in
    let all : drop (asked s) side ≡ slice ++ drop (min s.size ((s.reads + 1) * most_read)) side =
    sym (take-append-drop count (drop (asked s) side)) ∙ ap (λ (t : List ℕ). t ++ drop count (drop (asked s) side)) (sym same) ∙ ap (λ (t : List ℕ). slice ++ t) (sym next) in
    ap (λ (t : List ℕ). s.window ++ t) all ∙ sym (append_assoc s.window slice (drop (min s.size ((s.reads + 1) * most_read)) side))
    ∙ ap (λ (t : List ℕ). t ++ drop (min s.size ((s.reads + 1) * most_read)) side) (sym is)) told

-- a slice more was read
pub slice-took : {view view' : DiskView} {images images' : Images} (s : StreamView) (count : ℕ) (window : List ℕ) → Looks false view view' images images'
    → Gets s.side (asked s) count view view' s.window window → count ≡ min most_read (s.size - asked s) → asked s < s.size
    → Took view view' images images' s (record s { reads = s.reads + 1; window = window }) []
slice-took {view = view} s count window looks gets is some =
    let long : length window ≡ length s.window + count = omega (arith, ap length gets.behind, length-append s.window gets.slice, gets.long) in
    let sum : asked s + count ≡ min s.size ((s.reads + 1) * most_read) = omega (arith, is, some) in
    record {
      off = record {
        side = refl;
        size = refl;
        reads = 1;
        read = refl;
        long = omega (arith, long, sum);
        rest = λ rest is. record {
          size = omega (arith, is.size, long, sum);
          front =
              let le : length s.window ≤ length window = omega (arith, long) in
              sym (take-take (length s.window) (length window) rest le) ∙ ap (λ (t : List ℕ). take (length s.window) t) (is.front ∙ gets.behind)
              ∙ take-append_seam s.window gets.slice;
        };
        told = told-slice view.seen s count gets.slice window gets.behind sum gets.told;
      };
      looks = looks;
      calls = gets.calls;
    }

-- all of the window is taken
pub all-past : (view : DiskView) (images : Images) (s s' : StreamView) (count : ℕ) → count ≡ length s.window → s' ≡ past count s
    → Took view view images images s s' (take count s.window) × (length s'.window ≡ 0)
all-past view images s s' count long is = (
  subst (λ (v : StreamView). Took view view images images s v (take count s.window)) (sym is) (took-past view images count s (omega (arith, long))),
  omega (arith, ap (λ (v : StreamView). length v.window) is, length-drop count s.window, long),
)

-- what the two steps of one say is of one
pub took-as : {old new : DiskView} {images images' : Images} {a b : StreamView} (xs ys : List ℕ) → xs ≡ ys → Took old new images images' a b xs
    → Took old new images images' a b ys
took-as {old} {new} {images} {images'} {a} {b} xs ys same took = subst (λ (t : List ℕ). Took old new images images' a b t) same took
