-- Pieces of a body that are read, and what follows from one that is refused.
use Rattle.std.proofs.Common.{◌≡◌, ℕ, ◌+◌, ◌-◌, ◌*◌, ◌^◌, ◌<◌, ◌≤◌, ◌==◌, Bool, true, false, List, [], ◌++◌, length, take, drop, min, Option, Some, None, IfSome, option_map, refl, sym, ap, ◌∙◌, subst, arith, append_assoc, length-append, length-take, length-drop}
use Rattle.std.proofs.Math.Seq.{take-append-add, take-append_seam}
use Rattle.std.proofs.lemmas.Bool.{eqb-true, true≢false}
use Rattle.std.proofs.lemmas.Bool.Decides.{nat_tests}
use Rattle.std.proofs.lemmas.List.{append-nil, append_cancel_left, nil_from_length, take-append-drop, take-take}
use Rattle.sha2.specs.Sha256.{sha256}
use Rattle.sha2.proofs.Facts256.{length-sha256}
use Rattle.ga_codec.specs.Pieces.{BeginsNone, HasNone, HeadValue, front_bytes}
use Rattle.ga_store.specs.Steps.Bodies.{HasBody, HasRead, IsHashed, LacksBody, PieceRead, size_of}
use Rattle.ga_store.specs.Steps.SideParts.{HoldsBytes, SaysRest}
use Rattle.ga_store.specs.Steps.Stream.{StreamView, asked, left}
use Rattle.ga_store.specs.declared.body_digest.BodyDigest.{BodyDigest}
use Rattle.ga_store.specs.declared.body_reading.OpenBody.{OpenBody}
use Rattle.ga_store.proofs.RecoverParts.{long-digested}

-- the body that stands at a place is what is there
pub body-is : (front rest body tail : List ℕ) (left : ℕ) → length body ≡ length front + left → front ++ rest ≡ (body ++ sha256 body) ++ tail
    → (body ≡ front ++ take left rest) × (left ≤ length rest)
body-is front rest body tail left long all = (
  sym (take-append_seam body (sha256 body ++ tail)) ∙ ap (λ (t : List ℕ). take (length body) t) (sym (all ∙ append_assoc body (sha256 body) tail))
      ∙ ap (λ (n : ℕ). take n (front ++ rest)) long ∙ take-append-add front rest left,
  omega (arith, long, ap length all, length-append front rest, length-append (body ++ sha256 body) tail, long-digested body),
)

-- a piece is refused, and what may follow
pub refused-piece : (kind is_last : Bool) (front piece window rest : List ℕ) (left : ℕ) → is_last ≡ (length piece == left)
    → piece ≡ take (min (length window) left) window → take (length window) rest ≡ window → BeginsNone kind is_last (front ++ piece)
    → LacksBody kind (length front + left) (front ++ rest)
refused-piece kind is_last front piece window rest left last is shown none = λ body tail long all.
    let here = body-is front rest body tail left long all in
    let n = min (length window) left in
    let size : length piece ≡ n = omega (arith, ap length is, length-take n window) in
    let body-rest = take left rest in
    let more = drop (length piece) body-rest in
    let first : piece ≡ take (length piece) body-rest =
    is ∙ ap (λ (t : List ℕ). take n t) (sym shown) ∙ take-take n (length window) rest (omega arith) ∙ sym (take-take n left rest (omega arith))
    ∙ ap (λ (k : ℕ). take k body-rest) (sym size) in
    let cut : body-rest ≡ piece ++ more = sym (take-append-drop (length piece) body-rest) ∙ ap (λ (t : List ℕ). t ++ more) (sym first) in
    let whole : (front ++ piece) ++ more ≡ body = append_assoc front piece more ∙ ap (λ (t : List ℕ). front ++ t) (sym cut) ∙ sym here.0 in
    let end : is_last ≡ true → more ≡ [] = λ e.
    let all-of : length piece ≡ left = eqb-true (length piece) left (sym last ∙ e) in
    nil_from_length more (omega (arith, all-of, length-drop (length piece) body-rest, length-take left rest)) in
    subst (λ (b : List ℕ). HasNone kind b) whole (none more end)

-- what was read before and now
pub read-then : (a b c : OpenBody) (xs ys : List ℕ) → HasRead a b xs → HasRead b c ys → HasRead a c (xs ++ ys)
read-then a b c xs ys first second = record {
  kind = second.kind ∙ first.kind;
  head = head-then a.reader.head first.head;
  bytes = second.bytes ∙ ap (λ (t : List ℕ). t ++ ys) first.bytes ∙ append_assoc (front_bytes a.reader) xs ys;
  hashed = second.hashed;
  left = omega (arith, first.left, second.left, length-append xs ys);
}
  where
    head-then : (o : Option HeadValue) → IfSome o (λ h. b.reader.head ≡ Some h) → IfSome o (λ h. c.reader.head ≡ Some h)
    head-then None is = tt
    head-then (Some h) is = subst (λ (o : Option HeadValue). IfSome o (λ h. c.reader.head ≡ Some h)) is second.head

pub read-none : (a : OpenBody) → IsHashed a → HasRead a a []
read-none a hashed = record {
  kind = refl;
  head = head-still a.reader.head;
  bytes = sym (append-nil (front_bytes a.reader));
  hashed = hashed;
  left = omega arith;
}
  where
    head-still : (o : Option HeadValue) → IfSome o (λ h. o ≡ Some h)
    head-still None = tt
    head-still (Some h) = refl

-- a piece of the window was read
pub piece-has : (old new : OpenBody) (count : ℕ) (piece window : List ℕ) → piece ≡ take (min (length window) old.left) window → PieceRead count piece old new
    → HasRead old new (take count window)
piece-has old new count piece window is read =
    let n = min (length window) old.left in
    let size : length piece ≡ n = omega (arith, ap length is, length-take n window) in
    let within = read.goes_on.within in
    let same : take count piece ≡ take count window = ap (λ (t : List ℕ). take count t) is ∙ take-take count n window (omega (arith, within, size)) in
    record {
      kind = read.goes_on.kind;
      head = read.goes_on.head;
      bytes = read.goes_on.bytes ∙ ap (λ (t : List ℕ). front_bytes old.reader ++ t) same;
      hashed = read.hashed;
      left = omega (arith, read.left, within, size, length-take count window);
    }

-- what lacks a body behind what was read lacks it from the start
pub lacks-before : (a b : OpenBody) (xs ys rest : List ℕ) → HasRead a b xs
    → LacksBody b.reader.is_snapshot (length (front_bytes b.reader) + b.left) (front_bytes b.reader ++ (ys ++ rest))
    → LacksBody a.reader.is_snapshot (length (front_bytes a.reader) + a.left) (front_bytes a.reader ++ ((xs ++ ys) ++ rest))
lacks-before a b xs ys rest has lacks =
    let size : length (front_bytes b.reader) + b.left ≡ length (front_bytes a.reader) + a.left =
    omega (arith, ap length has.bytes, length-append (front_bytes a.reader) xs, has.left) in
    let bytes : front_bytes b.reader ++ (ys ++ rest) ≡ front_bytes a.reader ++ ((xs ++ ys) ++ rest) =
    ap (λ (t : List ℕ). t ++ (ys ++ rest)) has.bytes ∙ append_assoc (front_bytes a.reader) xs (ys ++ rest)
    ∙ ap (λ (t : List ℕ). front_bytes a.reader ++ t) (sym (append_assoc xs ys rest)) in
    subst (λ (p : Bool × (ℕ × List ℕ)). LacksBody p.0 p.1.0 p.1.1) (λ i. (has.kind i, (size i, bytes i))) lacks

-- where a piece was read and rows are missing, a slice more was read of the side
pub more-asked : (s s' : StreamView) (want left-of : ℕ) → s'.size ≡ s.size → left s ≡ left s' → min want (left s') ≤ length s'.window
    → want ≡ min (min (length s.window * 2) (2 ^ 64 - 1) + 1) (2 ^ 64 - 1) → length s'.window < left-of → left-of + 32 ≤ left s → left s < 2 ^ 63
    → s.size - asked s' < s.size - asked s
more-asked s s' want left-of size same loaded is short room fits = omega (arith, size, same, loaded, is, short, room, fits)

-- the shown part of the window
pub shown-part : (count left : ℕ) (shown window : List ℕ) → shown ≡ window → count ≡ min (length shown) left → take count shown ≡ take (min (length window) left) window
shown-part count left shown window same is =
    let n : count ≡ min (length window) left = omega (arith, is, ap length same) in
    ap (λ (t : List ℕ). take count t) same ∙ ap (λ (k : ℕ). take k window) n

-- ---- the end of a body

-- bytes that none has begin none where they are the last
pub last-none : (kind : Bool) (bytes : List ℕ) → HasNone kind bytes → BeginsNone kind true bytes
last-none kind bytes none = λ more end.
    subst (λ (m : List ℕ). HasNone kind (bytes ++ m)) (sym (end refl)) (subst (λ (b : List ℕ). HasNone kind b) (sym (append-nil bytes)) none)

-- what follows the rows is refused
pub refused-rest : (kind : Bool) (front piece window rest : List ℕ) (left : ℕ) → left ≤ length window → piece ≡ take left window
    → take (length window) rest ≡ window → HasNone kind (front ++ piece) → LacksBody kind (length front + left) (front ++ rest)
refused-rest kind front piece window rest left le is shown none =
    let cut : left ≡ min (length window) left = omega (arith, le) in
    let long : length piece ≡ left = omega (arith, ap length is, length-take left window, le) in
    let last : true ≡ (length piece == left) = grind (arith, nat_tests) in
    refused-piece kind true front piece window rest left last (is ∙ ap (λ (n : ℕ). take n window) cut) shown (last-none kind (front ++ piece) none)

-- a body that stands with a digest is what was read, and has this digest
pub record IsDigested (front piece digest body : List ℕ) : Type 0 where
  pub is_body : body ≡ front ++ piece
  pub is_digest : digest ≡ sha256 body

pub digested-here : (front piece digest rest body tail : List ℕ) (left : ℕ) → length piece ≡ left → length digest ≡ 32 → length body ≡ length front + left
    → front ++ ((piece ++ digest) ++ rest) ≡ (body ++ sha256 body) ++ tail → IsDigested front piece digest body
digested-here front piece digest rest body tail left long size whole all =
    let here = body-is front ((piece ++ digest) ++ rest) body tail left whole all in
    let first : take left ((piece ++ digest) ++ rest) ≡ piece =
    ap (λ (t : List ℕ). take left t) (append_assoc piece digest rest) ∙ ap (λ (n : ℕ). take n (piece ++ (digest ++ rest))) (sym long) ∙ take-append_seam piece (digest ++ rest) in
    let is-body : body ≡ front ++ piece = here.0 ∙ ap (λ (t : List ℕ). front ++ t) first in
    let left-side : front ++ ((piece ++ digest) ++ rest) ≡ body ++ (digest ++ rest) =
    ap (λ (t : List ℕ). front ++ t) (append_assoc piece digest rest) ∙ sym (append_assoc front piece (digest ++ rest)) ∙ ap (λ (t : List ℕ). t ++ (digest ++ rest)) (sym is-body) in
    let behind : digest ++ rest ≡ sha256 body ++ tail =
    append_cancel_left body (digest ++ rest) (sha256 body ++ tail) (sym left-side ∙ all ∙ append_assoc body (sha256 body) tail) in
    let sha = length-sha256 body in
    record {
      is_body = is-body;
      is_digest = sym (take-append_seam digest rest) ∙ ap (λ (t : List ℕ). take (length digest) t) behind
          ∙ ap (λ (n : ℕ). take n (sha256 body ++ tail)) (size ∙ sym sha) ∙ take-append_seam (sha256 body) tail;
    }

-- another digest stands there
pub other-digest : (kind : Bool) (front piece digest rest : List ℕ) (left : ℕ) → length piece ≡ left → length digest ≡ 32
    → (digest ≡ sha256 (front ++ piece) → ⊥) → LacksBody kind (length front + left) (front ++ ((piece ++ digest) ++ rest))
other-digest kind front piece digest rest left long size other = λ body tail whole all.
    let here = digested-here front piece digest rest body tail left long size whole all in
    absurd (other (here.is_digest ∙ ap sha256 here.is_body))

-- the rest of a body was taken with its digest
pub has-rest : {A : Type 0} (Spell : List ℕ → A → Type 0) (value : A) (start : OpenBody) (held : BodyDigest) (piece rest taken : List ℕ) (same : Bool) → piece ≡ rest
    → length rest ≡ start.left → Spell (front_bytes start.reader ++ piece) value → HoldsBytes held (front_bytes start.reader) → SaysRest held rest same taken
    → same ≡ true → HasBody Spell value start taken
has-rest Spell value start held piece rest taken same is long spells holds says e =
    let front = front_bytes start.reader in
    let digest : says.digest ≡ sha256 (front ++ rest) = (says.says front holds).0 e in
    record {
      body = front ++ rest;
      size = omega (arith, length-append front rest, long);
      spells = subst (λ (t : List ℕ). Spell (front ++ t) value) is spells;
      bytes = ap (λ (t : List ℕ). front ++ t) says.is ∙ sym (append_assoc front rest says.digest) ∙ ap (λ (t : List ℕ). (front ++ rest) ++ t) digest;
    }

-- it was taken with another digest
pub lacks-rest : (kind : Bool) (start : OpenBody) (held : BodyDigest) (rest taken more : List ℕ) (same : Bool) → length rest ≡ start.left
    → HoldsBytes held (front_bytes start.reader) → SaysRest held rest same taken → same ≡ false
    → LacksBody kind (size_of start) (front_bytes start.reader ++ (taken ++ more))
lacks-rest kind start held rest taken more same long holds says e =
    let front = front_bytes start.reader in
    subst (λ (t : List ℕ). LacksBody kind (length front + start.left) (front ++ (t ++ more))) (sym says.is)
    (other-digest kind front rest says.digest more start.left long says.long
    (λ digest. absurd (true≢false (sym ((says.says front holds).1 digest) ∙ e))))

-- the number that was read before is that of the snapshot
pub own-number : (head : Option HeadValue) (number : ℕ) → option_map (λ h. h.generation) head ≡ Some number → IfSome head (λ h. number ≡ h.generation)
own-number None number e = tt
own-number (Some h) number e = some_one h.generation number e
  where
    some_one : (a b : ℕ) → Some a ≡ Some b → b ≡ a
    some_one a b e = let same : a ≡ b = cc in sym same
