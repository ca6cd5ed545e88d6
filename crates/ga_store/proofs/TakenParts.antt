-- Parts that stand at the front of a side, behind the byte of a gate.
use Rattle.std.proofs.Common.{◌≡◌, ℕ, ◌+◌, ◌<◌, ◌≤◌, ◌^◌, ◌&&◌, nat_lt, Bool, true, List, [], ◌∷◌, ◌++◌, length, get_or, take, drop, refl, sym, ap, ◌∙◌, subst, arith, append_assoc, length-append, Option, IfSome}
use Rattle.std.proofs.Math.Seq.{take-append_seam}
use Rattle.std.proofs.lemmas.List.{append_cancel_left, take-append-drop}
use Rattle.std.proofs.lemmas.Bool.Decides.{nat_tests}
use Rattle.sha2.specs.Sha256.{sha256}
use Rattle.ga_codec.specs.Shapes.{SpellSnapshot}
use Rattle.ga_codec.specs.Spelling.{eight_bytes}
use Rattle.ga_codec.specs.Values.{SnapshotValue}
use Rattle.ga_codec.proofs.Fields.{n64_is_part}
use Rattle.ga_disk.specs.Sides.{Sides, of_side}
use Rattle.ga_store.specs.Database.{HasSnapshot, LacksSnapshot}
use Rattle.ga_store.specs.SideParts.{IsPartAt, StandsAt, is_open_at, open_gate, part_bytes}
use Rattle.ga_store.specs.Steps.Bodies.{LacksBody}
use Rattle.ga_store.specs.Steps.Stream.{IsOf, StreamView, TookOff}
use Rattle.ga_store.proofs.RecoverParts.{if_some-map, long-digested, long-part}

-- ---- streams

-- a stream of a side stays one
pub of-later : {seen seen' : Option Sides} {s s' : StreamView} {taken : List ℕ} → seen' ≡ seen → IsOf s seen → TookOff seen s s' taken → IsOf s' seen'
of-later {seen} {seen'} {s} {s'} {taken} same is took = record {
  within = omega (arith, is.within, took.long, took.size);
  fits = omega (arith, is.fits, took.size);
  told = subst (λ (o : Option Sides). IfSome o (λ seen. s'.size ≡ length (of_side s'.side seen))) (sym same)
      (if_some-map _ _ seen (λ seen told. took.size ∙ told ∙ ap (λ (side : ℕ). length (of_side side seen)) (sym took.side)) is.told);
}

-- ---- parts

-- what a part's bytes are behind one byte
pub stands-behind-gate : (gate : ℕ) (bytes tail : List ℕ) → StandsAt (gate ∷ (bytes ++ tail)) 1 bytes
stands-behind-gate gate bytes tail = record { within = omega (arith, length-append bytes tail); same = take-append_seam bytes tail }

pub part-stands : (gate : ℕ) (body tail : List ℕ) → length body < 2 ^ 64 → IsPartAt (gate ∷ (part_bytes body ++ tail)) 1 body
part-stands gate body tail fits = record { size = fits; stands = stands-behind-gate gate (part_bytes body) tail }

-- a body, its digest, and what follows
abbrev pub Digested : List ℕ → List ℕ → Type 0
Digested rest body = (tail : List ℕ) × (rest ≡ (body ++ sha256 body) ++ tail)

-- behind a gate and a size a part has a body of this size
pub size-only : (gate size : ℕ) (rest body : List ℕ) → size < 2 ^ 64 → IsPartAt ((gate ∷ eight_bytes size) ++ rest) 1 body → (length body ≡ size) × Digested rest body
size-only gate size rest body fits part =
    let side : List ℕ = eight_bytes size ++ rest in
    let n = length (part_bytes body) in
    let tail = drop n side in
    let all : side ≡ part_bytes body ++ tail = sym (take-append-drop n side) ∙ ap (λ (t : List ℕ). t ++ tail) part.stands.same in
    let digested : List ℕ = body ++ sha256 body in
    let cut : eight_bytes size ++ rest ≡ eight_bytes (length body) ++ (digested ++ tail) = all ∙ append_assoc (eight_bytes (length body)) digested tail in
    let same : size ≡ length body = n64_is_part.one size (length body) rest (digested ++ tail) fits part.size cut in
    let behind : rest ≡ digested ++ tail = append_cancel_left (eight_bytes size) rest (digested ++ tail) (cut ∙ ap (λ (k : ℕ). eight_bytes k ++ (digested ++ tail)) (sym same)) in
    (sym same, (tail, behind))

-- how long a side is that has a part behind its first byte
pub part-room : (side body : List ℕ) → IsPartAt side 1 body → length body + 41 ≤ length side
part-room side body part = omega (arith, part.stands.within, long-part body)

pub digested-room : (rest body : List ℕ) → Digested rest body → length body + 32 ≤ length rest
digested-room rest body d = omega (arith, ap length d.1, length-append (body ++ sha256 body) d.0, long-digested body)

-- the byte of a gate and eight more that are a size
pub size-taken : (window front : List ℕ) (size : ℕ) → 1 ≤ length window → eight_bytes size ≡ front
    → (take 1 window ++ []) ++ front ≡ get_or window 0 0 ∷ eight_bytes size
size-taken [] front size some is = absurd (omega (arith, some))
size-taken (byte ∷ more) front size some is = ap (λ (t : List ℕ). byte ∷ t) (sym is)

-- ---- snapshots

-- a side that begins with an open gate and more
pub gate-open : (more : List ℕ) → 1 ≤ length more → is_open_at (open_gate ∷ more) 0 ≡ true
gate-open [] some = absurd (omega (arith, some))
gate-open (byte ∷ more) some =
    let long : nat_lt 1 (length (open_gate ∷ byte ∷ more)) ≡ true = grind (arith, nat_tests) in
    ap (λ (b : Bool). b && true) long

pub long-eight : (n : ℕ) → length (eight_bytes n) ≡ 8
long-eight n = refl

-- no body with its digest follows, so no snapshot is there
pub lacks-snapshot : (size : ℕ) (rest : List ℕ) → size < 2 ^ 64 → LacksBody true size rest → LacksSnapshot ((open_gate ∷ eight_bytes size) ++ rest)
lacks-snapshot size rest fits lacks = record {
  gate = gate-open (eight_bytes size ++ rest) (omega (arith, length-append (eight_bytes size) rest, long-eight size));
  none = λ body s part spells.
      let h = size-only open_gate size rest body fits part in
      lacks body h.1.0 h.0 h.1.1 s spells;
}

-- a body with its digest follows, and is a snapshot
pub has-snapshot : (body tail : List ℕ) (s : SnapshotValue) (next : ℕ) → length body < 2 ^ 64 → SpellSnapshot body s → next ≡ 1 + length (part_bytes body)
    → HasSnapshot (open_gate ∷ (part_bytes body ++ tail)) s next
has-snapshot body tail s next fits spells behind = record {
  gate = gate-open (part_bytes body ++ tail) (omega (arith, length-append (part_bytes body) tail, long-part body));
  body = body;
  part = part-stands open_gate body tail fits;
  spells = spells;
  behind = behind;
}
