-- What a side says after each call of a commit, done in part or whole.
use Rattle.std.proofs.Common.{◌≡◌, ◌≢◌, ℕ, ◌+◌, ◌<◌, ◌≤◌, ◌==◌, ◌&&◌, ◌^◌, Bool, true, false, List, [], ◌∷◌, length, get_or, take, drop, nat_lt, refl, sym, ◌∙◌, ap, arith, length-append, length-take}
use Rattle.std.proofs.lemmas.Bool.Decides.{nat_tests}
use Rattle.std.proofs.Math.Seq.{get_or-append_seam}
use Rattle.std.proofs.lemmas.List.{take-take, take_at, get_or-take, get_or-drop}
use Rattle.std.proofs.lemmas.Grind.{same_number_lists}
use Rattle.ga_disk.specs.Disk.{TornAt, CutAt}
use Rattle.ga_store.specs.SideParts.{IsPartAt, StandsAt, is_open_at, open_gate, closed_gate, part_bytes}
use Rattle.ga_store.specs.Commit.{closed_part}
use Rattle.ga_store.specs.Steps.Committing.{SameFront}

-- two rows that agree in front of a place
front-by : (n : ℕ) (old new : List ℕ) → n ≤ length old → n ≤ length new → ((i : ℕ) → i < n → get_or new i 0 ≡ get_or old i 0) → SameFront n old new
front-by n old new in_old in_new each =
    let a : length (take n new) ≡ n = omega (arith, length-take n new) in
    let b : length (take n old) ≡ n = omega (arith, length-take n old) in
    record {
      reaches = in_new;
      same = same_number_lists (take n new) (take n old) (a ∙ sym b) (λ i before.
          let first : i < n = omega arith in
          get_or-take n new i 0 first ∙ each i first ∙ sym (get_or-take n old i 0 first));
    }

pub torn-front : (at n : ℕ) (old new : List ℕ) → at ≤ length old → TornAt at n old new → SameFront at old new
torn-front at n old new le torn =
    let longer = torn.no_shorter in
    front-by at old new le (omega arith) (λ i first. let within : i < length new = omega arith in (torn.before i first within).1)

pub cut-front : (n len : ℕ) (old new : List ℕ) → n ≤ len → n ≤ length old → CutAt len old new → SameFront n old new
cut-front n len old new le in_old cut =
    let shorter = cut.no_shorter in
    let in_new : n ≤ length new = omega arith in
    front-by n old new in_old in_new (λ i first.
    let before : i < len = omega arith in
    let within : i < length new = omega arith in
    (cut.before i before within).1)

-- a gate is closed where its byte isn't the open one, or the side ends with it
pub closed-by-byte : (side : List ℕ) (at : ℕ) → get_or side at 0 ≢ open_gate → is_open_at side at ≡ false
closed-by-byte side at other = by-test (get_or side at 0 == open_gate) refl
  where
    by-test : (b : Bool) → (get_or side at 0 == open_gate) ≡ b → is_open_at side at ≡ false
    by-test true e = absurd (other (grind (arith, nat_tests)))
    by-test false e = ends-false (nat_lt (at + 1) (length side)) _ e
      where
        ends-false : (a b : Bool) → b ≡ false → (a && b) ≡ false
        ends-false true b e = e
        ends-false false b e = refl

pub closed-by-end : (side : List ℕ) (at : ℕ) → length side ≤ at + 1 → is_open_at side at ≡ false
closed-by-end side at le =
    let ends : nat_lt (at + 1) (length side) ≡ false = grind (arith, nat_tests) in
    rw ends refl

-- the part and the gate after it, one by one
pub tail-part : (side body : List ℕ) (at : ℕ) → length body < 2 ^ 64 → StandsAt side at (closed_part body) → IsPartAt side at body
tail-part side body at size stands =
    let part = part_bytes body in
    let long = length-append (part_bytes body) (closed_gate ∷ []) in
    let less : length (part_bytes body) ≤ length (closed_part body) = omega arith in
    let within = stands.within in
    record {
      size = size;
      stands = record {
        within = omega arith;
        same = sym (take-take (length (part_bytes body)) (length (closed_part body)) (drop at side) less)
            ∙ ap (λ (b : List ℕ). take (length (part_bytes body)) b) stands.same
            ∙ take_at (part_bytes body) (closed_gate ∷ []) (length (part_bytes body)) refl;
      };
    }

tail-byte : (side body : List ℕ) (at : ℕ) → StandsAt side at (closed_part body) → get_or side (at + length (part_bytes body)) 0 ≡ closed_gate
tail-byte side body at stands =
    let long = length-append (part_bytes body) (closed_gate ∷ []) in
    let before : length (part_bytes body) < length (closed_part body) = omega arith in
    sym (get_or-drop at side (length (part_bytes body)) 0)
    ∙ sym (get_or-take (length (closed_part body)) (drop at side) (length (part_bytes body)) 0 before)
    ∙ ap (λ (b : List ℕ). get_or b (length (part_bytes body)) 0) stands.same
    ∙ get_or-append_seam (part_bytes body) closed_gate [] 0

pub tail-gate : (side body : List ℕ) (at : ℕ) → StandsAt side at (closed_part body) → is_open_at side (at + length (part_bytes body)) ≡ false
tail-gate side body at stands =
    let byte = tail-byte side body at stands in
    let other : get_or side (at + length (part_bytes body)) 0 ≢ open_gate = λ e. absurd (omega arith) in
    closed-by-byte side (at + length (part_bytes body)) other
