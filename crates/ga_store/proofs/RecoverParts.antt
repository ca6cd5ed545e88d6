-- Bytes that stand on a side one after the other, and the parts made of them.
use Rattle.std.proofs.Common.{◌≡◌, ℕ, ◌+◌, ◌≤◌, List, ◌++◌, length, take, drop, refl, sym, ap, ◌∙◌, subst, arith, Option, Some, None, IfSome, length-append, length-take, length-drop}
use Rattle.std.proofs.Math.Seq.{take-add}
use Rattle.std.proofs.lemmas.List.{drop-drop, drop-take, take_at, drop_at, take-take}
use Rattle.std.proofs.lemmas.Nat.{from_be_bytes-to_be_bytes_8}
use Rattle.std.specs.Int.{w64, from_be_bytes}
use Rattle.sha2.specs.Sha256.{sha256}
use Rattle.sha2.proofs.Facts256.{length-sha256}
use Rattle.ga_store.specs.SideParts.{IsPartAt, StandsAt, part_bytes}
use Rattle.ga_codec.specs.Spelling.{eight_bytes}

-- the first of two rows of bytes is there too
pub stands-first : (x a b : List ℕ) (at : ℕ) → StandsAt x at (a ++ b) → StandsAt x at a
stands-first x a b at s =
    let long = length-append a b in
    let within = s.within in
    record {
      within = omega arith;
      same = sym (take-take (length a) (length (a ++ b)) (drop at x) (omega arith)) ∙ ap (λ (t : List ℕ). take (length a) t) s.same ∙ take_at a b (length a) refl;
    }

-- and the second after it
pub stands-second : (x a b : List ℕ) (at to : ℕ) → to ≡ at + length a → StandsAt x at (a ++ b) → StandsAt x to b
stands-second x a b at to is s =
    let long = length-append a b in
    let within = s.within in
    record {
      within = omega arith;
      same = ap (λ (n : ℕ). take (length b) (drop n x)) is ∙ ap (λ (t : List ℕ). take (length b) t) (sym (drop-drop (length a) at x))
          ∙ sym (drop-take (length a) (length b) (drop at x)) ∙ ap (λ (n : ℕ). drop (length a) (take n (drop at x))) (sym long)
          ∙ ap (λ (t : List ℕ). drop (length a) t) s.same ∙ drop_at a b (length a) refl;
    }

pub stands-both : (x a b : List ℕ) (at to : ℕ) → to ≡ at + length a → StandsAt x at a → StandsAt x to b → StandsAt x at (a ++ b)
stands-both x a b at to is s t =
    let long = length-append a b in
    let within = t.within in
    record {
      within = omega arith;
      same = ap (λ (n : ℕ). take n (drop at x)) long ∙ take-add (length a) (length b) (drop at x)
          ∙ ap (λ (r : List ℕ). r ++ take (length b) (drop (length a) (drop at x))) s.same
          ∙ ap (λ (r : List ℕ). a ++ take (length b) r) (drop-drop (length a) at x)
          ∙ ap (λ (n : ℕ). a ++ take (length b) (drop n x)) (sym is) ∙ ap (λ (r : List ℕ). a ++ r) t.same;
    }

-- a place counted from another one
pub stands-behind : (x b : List ℕ) (at k to : ℕ) → to ≡ k + at → k ≤ length x → StandsAt (drop k x) at b → StandsAt x to b
stands-behind x b at k to is le s = record {
  within = omega (arith, s.within, length-drop k x);
  same = ap (λ (n : ℕ). take (length b) (drop n x)) is ∙ ap (λ (r : List ℕ). take (length b) r) (sym (drop-drop at k x)) ∙ s.same;
}

pub stands-from : (x b : List ℕ) (at k to : ℕ) → to ≡ k + at → k ≤ length x → StandsAt x to b → StandsAt (drop k x) at b
stands-from x b at k to is le s = record {
  within = omega (arith, s.within, length-drop k x);
  same = ap (λ (r : List ℕ). take (length b) r) (drop-drop at k x) ∙ ap (λ (n : ℕ). take (length b) (drop n x)) (sym is) ∙ s.same;
}

-- ---- a body with its digest

pub long-digested : (body : List ℕ) → length (body ++ sha256 body) ≡ length body + 32
long-digested body = length-append body (sha256 body) ∙ ap (λ (n : ℕ). length body + n) (length-sha256 body)

-- the bytes in front of the digest are its own
pub digested-here : (bytes body digest : List ℕ) (size : ℕ) → size ≤ length bytes → body ≡ take size bytes → 32 ≤ length (drop size bytes)
    → digest ≡ take 32 (drop size bytes) → digest ≡ sha256 body → (length body ≡ size) × StandsAt bytes 0 (body ++ sha256 body)
digested-here bytes body digest size le is more has same =
    let long : length body ≡ size = ap length is ∙ omega (arith, length-take size bytes) in
    let sha = length-sha256 body in
    let left = length-drop size bytes in (
      long,
      stands-both bytes body (sha256 body) 0 size (omega arith) (record { within = omega arith; same = ap (λ (n : ℕ). take n bytes) long ∙ sym is })
          (record { within = omega arith; same = ap (λ (n : ℕ). take n (drop size bytes)) sha ∙ sym has ∙ same }),
    )

-- a body that stands with its digest
pub record HasDigest (bytes body : List ℕ) (size : ℕ) : Type 0 where
  pub within : size + 32 ≤ length bytes
  pub front : take size bytes ≡ body
  pub digest : take 32 (drop size bytes) ≡ sha256 body

pub digested-only : (bytes body : List ℕ) (size : ℕ) → length body ≡ size → StandsAt bytes 0 (body ++ sha256 body) → HasDigest bytes body size
digested-only bytes body size long s =
    let first = stands-first bytes body (sha256 body) 0 s in
    let second = stands-second bytes body (sha256 body) 0 size (omega arith) s in
    let sha = length-sha256 body in
    record {
      within = omega (arith, s.within, long-digested body);
      front = ap (λ (n : ℕ). take n bytes) (sym long) ∙ first.same;
      digest = ap (λ (n : ℕ). take n (drop size bytes)) (sym sha) ∙ second.same;
    }

-- ---- parts

pub long-part : (body : List ℕ) → length (part_bytes body) ≡ length body + 40
long-part body =
    let number : length (eight_bytes (length body)) ≡ 8 = refl in
    let all = length-append (eight_bytes (length body)) (body ++ sha256 body) in
    omega (arith, long-digested body)

-- eight bytes are taken in front of the rest
pub record IsFront (side : List ℕ) (at : ℕ) (front rest : List ℕ) : Type 0 where
  pub within : 8 ≤ length (drop at side)
  pub is_front : front ≡ take 8 (drop at side)
  pub is_rest : rest ≡ drop 8 (drop at side)

pub front-of : (side part front rest : List ℕ) (at : ℕ) → part ≡ drop at side → front ≡ take 8 part → rest ≡ drop 8 part → length rest + 8 ≡ length part
    → IsFront side at front rest
front-of side part front rest at is first second long = record {
  within = omega (arith, ap length is);
  is_front = first ∙ ap (λ (b : List ℕ). take 8 b) is;
  is_rest = second ∙ ap (λ (b : List ℕ). drop 8 b) is;
}

-- the length of a part that is at a place, and what is after it
pub record HasLength (front rest body : List ℕ) : Type 0 where
  pub size : length body ≡ from_be_bytes w64 front
  pub behind : StandsAt rest 0 (body ++ sha256 body)

pub part-long : (side body : List ℕ) (at : ℕ) → IsPartAt side at body → at + length body + 40 ≤ length side
part-long side body at part = omega (arith, part.stands.within, long-part body)

pub part-only : (side front rest body : List ℕ) (at : ℕ) → at ≤ length side → IsFront side at front rest → IsPartAt side at body → HasLength front rest body
part-only side front rest body at le is part =
    let all = stands-from side (part_bytes body) 0 at at (omega arith) le part.stands in
    let first = stands-first (drop at side) (eight_bytes (length body)) (body ++ sha256 body) 0 all in
    let second = stands-second (drop at side) (eight_bytes (length body)) (body ++ sha256 body) 0 8 refl all in
    let behind = stands-from (drop at side) (body ++ sha256 body) 0 8 8 refl is.within second in
    record {
      size = sym (from_be_bytes-to_be_bytes_8 (length body) part.size) ∙ ap (λ (t : List ℕ). from_be_bytes w64 t) (sym first.same ∙ sym is.is_front);
      behind = subst (λ (b : List ℕ). StandsAt b 0 (body ++ sha256 body)) (sym is.is_rest) behind;
    }

-- one part is at a place
pub one-part : (side a b : List ℕ) (at : ℕ) → IsPartAt side at a → IsPartAt side at b → a ≡ b
one-part side a b at p q =
    let long = part-long side a at p in
    let is : IsFront side at (take 8 (drop at side)) (drop 8 (drop at side)) = record { within = omega (arith, length-drop at side); is_front = refl; is_rest = refl } in
    let first = part-only side _ _ a at (omega arith) is p in
    let second = part-only side _ _ b at (omega arith) is q in
    sym (digested-only _ a (length b) (first.size ∙ sym second.size) first.behind).front ∙ (digested-only _ b (length b) refl second.behind).front

-- ---- what may be there

pub if_some-map : {A : Type 0} (P Q : A → Type 0) (o : Option A) → ((x : A) → P x → Q x) → IfSome o P → IfSome o Q
if_some-map P Q None step p = tt
if_some-map P Q (Some x) step p = step x p

pub if_some-all : {A : Type 0} (P : A → Type 0) (o : Option A) → ((x : A) → P x) → IfSome o P
if_some-all P None all = tt
if_some-all P (Some x) all = all x
