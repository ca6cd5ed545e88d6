-- Both sides were read to their ends.
use Rattle.std.proofs.Common.{◌≡◌, ℕ, ◌+◌, ◌*◌, List, [], ◌++◌, length, take, drop, min, Option, Some, None, IfSome, sym, ap, ◌∙◌, subst, arith, length-append, length-drop}
use Rattle.std.proofs.lemmas.List.{append-nil, nil_from_length}
use Rattle.ga_counters.specs.Counts.{raised}
use Rattle.ga_disk.specs.Sides.{Sides, of_side}
use Rattle.ga_store.specs.Database.{DbOf}
use Rattle.ga_store.specs.Steps.Recovery.{Answers, InPieces}
use Rattle.ga_store.specs.Steps.Starts.{answer_of, reading_of}
use Rattle.ga_store.specs.Steps.Stream.{HasSizeOf, IsRest, StreamView, TookOff, asked, left, rest_of}
use Rattle.ga_store.specs.Store.{most_read, reads_of}
use Rattle.ga_store.specs.declared.starts.Said.{Said}
use Rattle.ga_store.specs.declared.starts.Said.TheVariants.{Damaged, Database}
use Rattle.ga_store.proofs.RecoverDisk.{reads-exact}

-- a stream at the start of a side
abbrev pub at-start : ℕ → StreamView → StreamView
at-start side s = record { side = side; size = s.size; reads = 0; window = [] }

-- all that was taken is the side
pub all-told : (seen : Option Sides) (side : ℕ) (s s' : StreamView) (taken : List ℕ) → s ≡ at-start side s → HasSizeOf s seen → TookOff seen s s' taken
    → left s' ≡ 0 → IfSome seen (λ seen. taken ≡ of_side side seen)
all-told None side s s' taken is size off none = tt
all-told (Some seen) side s s' taken is size off none =
    let xs = of_side side seen in
    let zero-read : min s.size (0 * most_read) ≡ 0 = omega arith in
    let start : rest_of s seen ≡ xs = ap (λ (v : StreamView). rest_of v seen) is ∙ ap (λ (n : ℕ). drop n xs) zero-read in
    let own : s.side ≡ side = ap (λ (v : StreamView). v.side) is in
    let ys = of_side s'.side seen in
    let long : length ys ≡ s'.size = ap (λ (n : ℕ). length (of_side n seen)) off.side ∙ sym size ∙ sym off.size in
    let end : rest_of s' seen ≡ [] =
    nil_from_length (rest_of s' seen) (omega (arith, length-append s'.window (drop (asked s') ys), length-drop (asked s') ys, long, none)) in
    sym (append-nil taken) ∙ ap (λ (t : List ℕ). taken ++ t) (sym end) ∙ sym off.told ∙ start

pub all-long : (seen : Option Sides) (side : ℕ) (s s' : StreamView) (taken : List ℕ) → s ≡ at-start side s → TookOff seen s s' taken → left s' ≡ 0
    → length taken ≡ s.size
all-long seen side s s' taken is off none = omega (arith, off.long, none, ap (λ (v : StreamView). left v) is)

pub all-reads : (seen : Option Sides) (side : ℕ) (s s' : StreamView) (taken : List ℕ) → s ≡ at-start side s → TookOff seen s s' taken → left s' ≡ 0
    → InPieces s'.size s'.reads → s'.reads ≡ reads_of (length taken)
all-reads seen side s s' taken is off none pieces =
    let size : s'.size ≡ length taken = off.size ∙ sym (all-long seen side s s' taken is off none) in
    reads-exact s'.size s'.reads pieces ∙ ap (λ (n : ℕ). reads_of n) size

-- what was taken last is the rest before it
pub last-rest : (seen : Option Sides) (s s' : StreamView) (taken : List ℕ) → TookOff seen s s' taken → left s' ≡ 0 → IsRest s taken
last-rest seen s s' taken off none =
    let empty : s'.window ≡ [] = nil_from_length s'.window (omega (arith, none)) in
    let end : IsRest s' [] = record { size = sym none; front = ap (λ (t : List ℕ). take (length t) []) empty ∙ sym empty } in
    subst (λ (t : List ℕ). IsRest s t) (append-nil taken) (off.rest [] end)

pub says-answer : (sides : Sides) (said : Said) → DbOf sides (reading_of said) → Answers (DbOf sides) (answer_of said)
says-answer sides (Database db) has = has
says-answer sides (Damaged side at) has = has

raised-add : (c a b : ℕ) → raised (raised c a) b ≡ raised c (a + b)
raised-add c a b = omega arith

then-raised : (c0 c c' a b : ℕ) → c ≡ raised c0 a → c' ≡ raised c b → c' ≡ raised c0 (a + b)
then-raised c0 c c' a b first second = second ∙ ap (λ (n : ℕ). raised n b) first ∙ raised-add c0 a b

-- the calls of all steps
pub calls-sum : (c0 c1 c2 c3 c4 c5 c6 r0 r1 d0 d1 : ℕ) → c1 ≡ raised c0 2 → c2 ≡ raised c1 1 → c3 ≡ raised c2 1 → c4 ≡ raised c3 (r0 + r1)
    → c5 ≡ raised c4 d0 → c6 ≡ raised c5 d1 → c6 ≡ raised c0 (2 + (1 + (r0 + d0)) + (1 + (r1 + d1)))
calls-sum c0 c1 c2 c3 c4 c5 c6 r0 r1 d0 d1 e1 e2 e3 e4 e5 e6 =
    let two = then-raised c0 c1 c2 2 1 e1 e2 in
    let three = then-raised c0 c2 c3 (2 + 1) 1 two e3 in
    let four = then-raised c0 c3 c4 (2 + 1 + 1) (r0 + r1) three e4 in
    let five = then-raised c0 c4 c5 (2 + 1 + 1 + (r0 + r1)) d0 four e5 in
    let six = then-raised c0 c5 c6 (2 + 1 + 1 + (r0 + r1) + d0) d1 five e6 in
    let same : 2 + 1 + 1 + (r0 + r1) + d0 + d1 ≡ 2 + (1 + (r0 + d0)) + (1 + (r1 + d1)) = omega arith in
    six ∙ ap (λ (n : ℕ). raised c0 n) same
