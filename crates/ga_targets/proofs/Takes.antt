-- What one more write does to a target that took bytes already.
use Rattle.std.proofs.Common.{◌≡◌, ◌≢◌, ℕ, ◌||◌, Bool, ne_eqb, ◌+◌, ◌-◌, ◌≤◌, ◌<◌, List, [], ◌∷◌, ◌++◌, length, refl, ap, sym, ◌∙◌, Option, Some, None, option_map, arith, append_assoc, append-nil, length-append, take, subst, Err, false, IfSome, drop, length-drop, take_all, map, get_or, suc, inr}
use Rattle.std.proofs.Math.Seq.{take-add, drop-cons, take-append-add}
use Rattle.std.proofs.lemmas.List.{take-append-drop, take-append-le, map-append}
use Rattle.std.proofs.lemmas.List.Concat.{flat_map-append}
use Rattle.ga_counters.specs.Counts.{raised, Rose, is_due, NoneDue}
use Rattle.ga_ports.specs.Outs.{TargetView, OutsView, target, with_target, takes, fails_once, after, after_failure, is_full, fitting, WritesExactly, WritesIfListed}
use Rattle.ga_ports.specs.declared.outs.To.{To}
use Rattle.ga_ports.specs.declared.outs.To.TheVariants.{Stdout, Stderr, File}
use Rattle.ga_targets.specs.Printing.{joined, printed, ChangesOnly, OutputCanTake, Stops, TakesOrStops}

raised-nothing : (c : ℕ) → raised c 0 ≡ c
raised-nothing c = omega arith

raised-twice : (c a b : ℕ) → raised (raised c a) b ≡ raised c (a + b)
raised-twice c a b = omega arith

bytes-nothing : (o : Option (List ℕ)) → option_map (λ bytes. bytes ++ []) o ≡ o
bytes-nothing None = refl
bytes-nothing (Some b) = ap Some (append-nil b)

room-nothing : (o : Option ℕ) → option_map (λ room. room - 0) o ≡ o
room-nothing None = refl
room-nothing (Some r) = let e : r - 0 ≡ r = omega arith in ap Some e

bytes-twice : (a b : List ℕ) (o : Option (List ℕ)) → option_map (λ bytes. bytes ++ b) (option_map (λ bytes. bytes ++ a) o) ≡ option_map (λ bytes. bytes ++ (a ++ b)) o
bytes-twice a b None = refl
bytes-twice a b (Some x) = ap Some (append_assoc x a b)

room-twice : (a b c : ℕ) (o : Option ℕ) → a + b ≡ c → option_map (λ room. room - b) (option_map (λ room. room - a) o) ≡ option_map (λ room. room - c) o
room-twice a b c None h = refl
room-twice a b c (Some r) h = let e : (r - a) - b ≡ r - c = omega arith in ap Some e

-- taking nothing changes nothing
pub takes-nil : (t : TargetView) → takes [] t ≡ t
takes-nil t = simp (bytes-nothing t.bytes, room-nothing t.room, raised-nothing t.taken)

-- taking two pieces is taking both at once
pub takes-takes : (a b : List ℕ) (t : TargetView) → takes b (takes a t) ≡ takes (a ++ b) t
takes-takes a b t =
    simp (bytes-twice a b t.bytes, room-twice (length a) (length b) (length (a ++ b)) t.room (sym (length-append a b)), raised-twice t.taken (length a) (length b), length-append a b)

-- the view with a target, a number of calls and a number of those that found no memory
abbrev pub set_target : To → TargetView → ℕ → ℕ → OutsView → OutsView
set_target to t calls starved v = record (with_target to t v) { calls = calls; starved = starved }

target-set_target : (to : To) (t : TargetView) (n s : ℕ) (v : OutsView) → target to (set_target to t n s v) ≡ t
target-set_target Stdout t n s v = refl
target-set_target Stderr t n s v = refl
target-set_target File t n s v = refl

printed-is : (to : To) (a : List ℕ) (n : ℕ) (v : OutsView) → printed to a n v ≡ set_target to (takes a (target to v)) n v.starved v
printed-is Stdout a n v = refl
printed-is Stderr a n v = refl
printed-is File a n v = refl

pub starved-printed : (to : To) (a : List ℕ) (v w : OutsView) → w ≡ printed to a w.calls v → w.starved ≡ v.starved
starved-printed to a v w e = ap (λ (x : OutsView). x.starved) (e ∙ printed-is to a w.calls v)

listed-printed : (to : To) (a : List ℕ) (n : ℕ) (v : OutsView) → (printed to a n v).listed ≡ v.listed
listed-printed Stdout a n v = refl
listed-printed Stderr a n v = refl
listed-printed File a n v = refl

after-printed : (to : To) (a b : List ℕ) (n : ℕ) (v : OutsView) → after to b (printed to a n v) ≡ printed to (a ++ b) (raised n 1) v
after-printed Stdout a b n v = ap (λ (t : TargetView). record v { stdout = t; calls = raised n 1 }) (takes-takes a b v.stdout)
after-printed Stderr a b n v = ap (λ (t : TargetView). record v { stderr = t; calls = raised n 1 }) (takes-takes a b v.stderr)
after-printed File a b n v = ap (λ (t : TargetView). record v { file = t; calls = raised n 1 }) (takes-takes a b v.file)

after_failure-printed : (to : To) (a : List ℕ) (n s : ℕ) (v : OutsView)
    → after_failure to s (printed to a n v) ≡ set_target to (fails_once (takes a (target to v))) (raised n 1) s v
after_failure-printed Stdout a n s v = refl
after_failure-printed Stderr a n s v = refl
after_failure-printed File a n s v = refl

calls-after : (to : To) (more : List ℕ) (v : OutsView) → (after to more v).calls ≡ raised v.calls 1
calls-after Stdout more v = refl
calls-after Stderr more v = refl
calls-after File more v = refl

-- nothing is printed yet
pub printed-nil : (to : To) (v : OutsView) → v ≡ printed to [] v.calls v
printed-nil Stdout v = ap (λ (t : TargetView). record v { stdout = t }) (sym (takes-nil v.stdout))
printed-nil Stderr v = ap (λ (t : TargetView). record v { stderr = t }) (sym (takes-nil v.stderr))
printed-nil File v = ap (λ (t : TargetView). record v { file = t }) (sym (takes-nil v.file))

-- one more write
pub printed-after : (to : To) (a b : List ℕ) (v w u : OutsView) → w ≡ printed to a w.calls v → u ≡ after to b w → u ≡ printed to (a ++ b) u.calls v
printed-after to a b v w u e h =
    let m : u ≡ printed to (a ++ b) (raised w.calls 1) v = h ∙ ap (λ (x : OutsView). after to b x) e ∙ after-printed to a b w.calls v in
    let n : u.calls ≡ raised w.calls 1 = ap (λ (x : OutsView). x.calls) m in
    m ∙ ap (λ (k : ℕ). printed to (a ++ b) k v) (sym n)

-- a view that is another with one target set has only that target changed
changes_only : (to : To) (t : TargetView) (n s : ℕ) (v u : OutsView) → u ≡ set_target to t n s v → (target to u ≡ t) × ChangesOnly to v u
changes_only to t n s v u e =
    let is : target to u ≡ t = ap (λ (x : OutsView). target to x) e ∙ target-set_target to t n s v in
    let calls : u.calls ≡ n = ap (λ (x : OutsView). x.calls) e in
    let starved : u.starved ≡ s = ap (λ (x : OutsView). x.starved) e in (
      is,
      e ∙ ap (λ (x : TargetView). set_target to x n s v) (sym is) ∙ ap (λ (k : ℕ). set_target to (target to u) k s v) (sym calls)
          ∙ ap (λ (k : ℕ). set_target to (target to u) u.calls k v) (sym starved),
    )

-- a write that fails
pub fails-after : (to : To) (a : List ℕ) (v w u : OutsView) → w ≡ printed to a w.calls v → u ≡ after_failure to u.starved w
    → (target to u ≡ fails_once (takes a (target to v))) × ChangesOnly to v u
fails-after to a v w u e h =
    changes_only to _ (raised w.calls 1) u.starved v u
    (h ∙ ap (λ (x : OutsView). after_failure to u.starved x) e ∙ after_failure-printed to a w.calls u.starved v)

-- all is printed
pub printed-all : (to : To) (b : List ℕ) (v w : OutsView) → w ≡ printed to b w.calls v → (target to w ≡ takes b (target to v)) × ChangesOnly to v w
printed-all to b v w e = changes_only to _ w.calls v.starved v w (e ∙ printed-is to b w.calls v)

-- a write adds a call
pub calls-later : (to : To) (more : List ℕ) (v w u : OutsView) → v.calls ≤ w.calls → u ≡ after to more w → v.calls ≤ u.calls
calls-later to more v w u le e =
    let calls : u.calls ≡ raised w.calls 1 = ap (λ (x : OutsView). x.calls) e ∙ calls-after to more w in
    omega arith

-- a room in which all fits is not full before the end
room-left : (room : Option ℕ) (at size : ℕ) → fitting room size ≡ size → at < size → is_full (option_map (λ room. room - at) room) ≡ false
room-left None at size fits early = refl
room-left (Some room) at size fits early =
    let left : room - at ≢ 0 = λ none. absurd (omega arith) in
    ne_eqb (room - at) 0 left

room-printed : (to : To) (a : List ℕ) (v w : OutsView) → w ≡ printed to a w.calls v → (target to w).room ≡ option_map (λ room. room - length a) (target to v).room
room-printed to a v w e =
    ap (λ (x : OutsView). (target to x).room) (e ∙ printed-is to a w.calls v) ∙ ap (λ (t : TargetView). t.room) (target-set_target to (takes a (target to v)) w.calls v.starved v)

-- a write before the end fails for lack of memory alone, where it is told that the target can take all
pub starves : {E : Type 0} → (to : To) (a piece : List ℕ) (size : ℕ) (x : E) (v w u : OutsView) → w ≡ printed to a w.calls v → v.calls ≤ w.calls → length a < size
    → WritesIfListed to piece w u (Err x) → OutputCanTake to size v → Rose v.starved u.starved
starves to a piece size x v w u e later early exact can = by w.listed listed exact
  where
    listed : w.listed ≡ v.listed
    listed = ap (λ (y : OutsView). y.listed) e ∙ listed-printed to a w.calls v

    open_room : is_full (target to w).room ≡ false
    open_room = ap (λ (o : Option ℕ). is_full o) (room-printed to a v w e) ∙ room-left (target to v).room (length a) size can.room early

    by : (told : Option (List ℕ)) → told ≡ v.listed → IfSome told (λ (calls : List ℕ). WritesExactly to piece calls w u (Err x)) → Rose v.starved u.starved
    by None same h = absurd (subst (λ (o : Option (List ℕ)). NoneDue o v.calls) (sym same) can.none_due)
    by (Some calls) same h =
        let none : NoneDue (Some calls) v.calls = subst (λ (o : Option (List ℕ)). NoneDue o v.calls) (sym same) can.none_due in
        let bound : (is_due calls w.calls || is_full (target to w).room) ≡ false = ap (λ (b : Bool). b || is_full (target to w).room) (none w.calls later) ∙ open_room in
        let rose : u.starved ≡ raised w.starved 1 = h.fails.starved bound in
        let kept : w.starved ≡ v.starved = starved-printed to a v w e in
        omega arith

-- the rest of a list from a place on, as a slice to its end is seen
pub to_end : (at : ℕ) (xs : List ℕ) → take (length xs - at) (drop at xs) ≡ drop at xs
to_end at xs = let h : length (drop at xs) ≤ length xs - at = omega (arith, length-drop at xs) in take_all (length xs - at) (drop at xs) h

-- the front of a list, and then that of the rest
pub front-more : (at n : ℕ) (xs : List ℕ) → take at xs ++ take n (take (length xs - at) (drop at xs)) ≡ take (at + n) xs
front-more at n xs = ap (λ (rest : List ℕ). take at xs ++ take n rest) (to_end at xs) ∙ sym (take-add at n xs)

-- the pieces before a place, the one there, and the others
pub joined-at : {A : Type 0} (f : A → List ℕ) (xs : List A) (k : ℕ) (d : A) → k < length xs
    → joined (map f xs) ≡ joined (map f (take k xs)) ++ (f (get_or xs k d) ++ joined (map f (drop (suc k) xs)))
joined-at f xs k d h =
    ap (λ (ys : List _). joined (map f ys)) (sym (take-append-drop k xs) ∙ ap (λ (t : List _). take k xs ++ t) (drop-cons xs k d h))
    ∙ ap joined (map-append f (take k xs) (get_or xs k d ∷ drop (suc k) xs)) ∙ flat_map-append (λ piece. piece) (map f (take k xs)) _

-- a stop in one piece is a stop in all
pub stops-in : (before piece rest all : List ℕ) (at : ℕ) (v w u : TargetView) → w ≡ takes before v → all ≡ before ++ (piece ++ rest) → Stops at piece w u
    → TakesOrStops all v u
stops-in before piece rest all at v w u e h stops =
    let long : length all ≡ length before + (length piece + length rest) = ap length h ∙ length-append before (piece ++ rest) ∙ ap (λ (n : ℕ). length before + n) (length-append piece rest) in
    let early : at < length piece = stops.early in
    let within : at ≤ length piece = omega arith in
    let front : take (length before + at) all ≡ before ++ take at piece =
    ap (λ (x : List ℕ). take (length before + at) x) h ∙ take-append-add before (piece ++ rest) at
    ∙ ap (λ (x : List ℕ). before ++ x) (take-append-le at piece rest within) in
    let taken : u ≡ fails_once (takes (before ++ take at piece) v) =
    stops.front ∙ ap (λ (x : TargetView). fails_once (takes (take at piece) x)) e ∙ ap (λ (x : TargetView). fails_once x) (takes-takes before (take at piece) v) in
    inr (length before + at, record { early = omega arith; front = taken ∙ ap (λ (x : List ℕ). fails_once (takes x v)) (sym front) })
