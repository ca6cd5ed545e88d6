-- The bytes of a side along a commit: the gate closed, the tail after it, the gate opened.
use Rattle.std.proofs.Common.{◌≡◌, ◌≢◌, ◌⊎◌, ℕ, ◌+◌, ◌-◌, ◌<◌, ◌≤◌, ◌==◌, ◌&&◌, Bool, true, false, List, [], ◌∷◌, ◌++◌, length, get_or, take, drop, max, nat_lt, nat_le, refl, sym, ◌∙◌, ap, inl, inr, arith, length-append, length-take, length-drop}
use Rattle.std.specs.Prelude.{if◌then◌else◌}
use Rattle.std.proofs.lemmas.Bool.Decides.{nat_tests}
use Rattle.std.proofs.lemmas.Grind.{same_number_lists, common_steps}
use Rattle.std.proofs.lemmas.List.{append_assoc, drop_at, get_or-take, get_or-drop, get_or_append_left, get_or-append_right, take_at, take-take}
use Rattle.ga_disk.specs.Disk.{TornAt, written}
use Rattle.ga_disk.proofs.Written.{written-before, written-behind}
use Rattle.ga_store.specs.Commit.{Work, committed, must_close}
use Rattle.ga_store.specs.Steps.Committing.{SameFront, with_tail}
use Rattle.ga_store.specs.SideParts.{StandsAt, closed_gate, is_open_at, open_gate}
use Rattle.ga_store.proofs.Torn.{closed-by-byte, closed-by-end, torn-front}

pub torn-self : (at n : ℕ) (bytes : List ℕ) → TornAt at n bytes bytes
torn-self at n bytes = record {
  before = λ i first within. (within, refl);
  behind = λ i last within. (within, refl);
  no_shorter = omega arith;
  no_longer = omega arith;
}

pub length-of-written : (at : ℕ) (piece bytes : List ℕ) → at ≤ length bytes → length (written at piece bytes) ≡ max (length bytes) (at + length piece)
length-of-written at piece bytes le = omega (arith, length-append {A = ℕ}, length-take {A = ℕ}, length-drop {A = ℕ})

-- a whole write is one that is torn nowhere
pub torn-written : (at : ℕ) (piece bytes : List ℕ) → at ≤ length bytes → TornAt at (length piece) bytes (written at piece bytes)
torn-written at piece bytes le =
    let long = length-of-written at piece bytes le in
    record {
      before = λ i first within. (omega arith, written-before at piece bytes i le first);
      behind = λ i last within. (omega arith, written-behind at piece bytes i le last);
      no_shorter = omega arith;
      no_longer = omega arith;
    }

byte-written : (at byte : ℕ) (bytes : List ℕ) → at ≤ length bytes → get_or (written at (byte ∷ []) bytes) at 0 ≡ byte
byte-written at byte bytes le =
    let first : length (take at bytes) ≡ at = omega (arith, length-take at bytes) in
    let long : at < length (take at bytes ++ (byte ∷ [])) = omega (arith, length-append (take at bytes) (byte ∷ [])) in
    let here : at - at ≡ 0 = omega arith in
    get_or_append_left (take at bytes ++ (byte ∷ [])) (drop (at + 1) bytes) 0 at long
    ∙ get_or-append_right (take at bytes) (byte ∷ []) at at 0 first (omega arith)
    ∙ ap (λ (i : ℕ). get_or (byte ∷ []) i 0) here

drop-written : (at byte : ℕ) (bytes : List ℕ) → at ≤ length bytes → drop (at + 1) (written at (byte ∷ []) bytes) ≡ drop (at + 1) bytes
drop-written at byte bytes le =
    let long : length (take at bytes ++ (byte ∷ [])) ≡ at + 1 = omega (arith, length-append (take at bytes) (byte ∷ []), length-take at bytes) in
    drop_at (take at bytes ++ (byte ∷ [])) (drop (at + 1) bytes) (at + 1) long

-- ---- the gate is closed

pub record ClosedOff (gate : ℕ) (old new : List ℕ) : Type 0 where
  pub within : gate < length new
  pub front : SameFront gate old new
  pub byte : get_or new gate 0 ≢ open_gate
  pub behind : drop (gate + 1) new ≡ drop (gate + 1) old

-- the side after the closing of its gate
abbrev pub closing : ℕ → List ℕ → List ℕ
closing gate side = if must_close gate side then written gate (closed_gate ∷ []) side else side

stays-closed : (gate : ℕ) (side : List ℕ) → must_close gate side ≡ false → ClosedOff gate side side
stays-closed gate side e =
    let longer : gate < length side = grind (arith, nat_tests) in
    record {
      within = longer;
      front = record { reaches = omega arith; same = refl };
      byte = λ is. other is;
      behind = refl;
    }
  where
    other : get_or side gate 0 ≡ open_gate → ⊥
    other is = grind (arith, nat_tests)

is-closed : (gate : ℕ) (side : List ℕ) → gate ≤ length side → ClosedOff gate side (written gate (closed_gate ∷ []) side)
is-closed gate side le =
    let long = length-of-written gate (closed_gate ∷ []) side le in
    let byte = byte-written gate closed_gate side le in
    record {
      within = omega arith;
      front = torn-front gate 1 side _ le (torn-written gate (closed_gate ∷ []) side le);
      byte = λ is. absurd (omega arith);
      behind = drop-written gate closed_gate side le;
    }

pub closed-off : (gate : ℕ) (side : List ℕ) → gate ≤ length side → ClosedOff gate side (closing gate side)
closed-off gate side le = by (must_close gate side) refl
  where
    by : (must : Bool) → must_close gate side ≡ must → ClosedOff gate side (if must then written gate (closed_gate ∷ []) side else side)
    by true e = is-closed gate side le
    by false e = stays-closed gate side e

-- a torn closing of an open gate leaves it as it was, or closed
pub torn-closing : (gate : ℕ) (old new : List ℕ) → gate ≤ length old → must_close gate old ≡ true → TornAt gate 1 old new
    → (new ≡ old) ⊎ (is_open_at new gate ≡ false)
torn-closing gate old new le must torn = by-length (nat_le (length old) gate) refl
  where
    by-byte : (b : Bool) → gate < length old → (get_or new gate 0 == open_gate) ≡ b → (new ≡ old) ⊎ (is_open_at new gate ≡ false)
    by-byte true longer e =
        let was : get_or old gate 0 ≡ open_gate = grind (arith, nat_tests) in
        let is : get_or new gate 0 ≡ open_gate = grind (arith, nat_tests) in
        let shorter = torn.no_shorter in
        let no_longer = torn.no_longer in
        inl (same_number_lists new old (omega arith) (λ i within. at-place i within (cases i) (is ∙ sym was)))
      where
        cases : (i : ℕ) → (i < gate) ⊎ ((i ≡ gate) ⊎ (gate + 1 ≤ i))
        cases i = grind arith

        at-place : (i : ℕ) → i < length new → (i < gate) ⊎ ((i ≡ gate) ⊎ (gate + 1 ≤ i)) → get_or new gate 0 ≡ get_or old gate 0 → get_or new i 0 ≡ get_or old i 0
        at-place i within (inl first) same = (torn.before i first within).1
        at-place i within (inr (inl here)) same = ap (λ (k : ℕ). get_or new k 0) here ∙ same ∙ ap (λ (k : ℕ). get_or old k 0) (sym here)
        at-place i within (inr (inr last)) same = (torn.behind i last within).1
    by-byte false longer e = inr (closed-by-byte new gate (λ is. absurd (grind (arith, nat_tests))))

    by-length : (b : Bool) → nat_le (length old) gate ≡ b → (new ≡ old) ⊎ (is_open_at new gate ≡ false)
    by-length true e =
        let short : length old ≤ gate = grind (arith, nat_tests) in
        let no_longer = torn.no_longer in
        inr (closed-by-end new gate (omega arith))
    by-length false e =
        let longer : gate < length old = grind (arith, nat_tests) in
        by-byte (get_or new gate 0 == open_gate) longer refl

-- ---- the tail follows it

pub closed-front : (gate : ℕ) (old new : List ℕ) → gate < length old → get_or old gate 0 ≢ open_gate → SameFront (gate + 1) old new → is_open_at new gate ≡ false
closed-front gate old new within other front =
    let byte : get_or new gate 0 ≡ get_or old gate 0 =
    sym (get_or-take (gate + 1) new gate 0 (omega arith)) ∙ ap (λ (b : List ℕ). get_or b gate 0) front.same ∙ get_or-take (gate + 1) old gate 0 (omega arith) in
    closed-by-byte new gate (λ is. other (sym byte ∙ is))

pub less-front : (k n : ℕ) (old new : List ℕ) → k ≤ n → SameFront n old new → SameFront k old new
less-front k n old new le front =
    let reaches = front.reaches in
    record {
      reaches = omega arith;
      same = sym (take-take k n new le) ∙ ap (λ (b : List ℕ). take k b) front.same ∙ take-take k n old le;
    }

pub then-front : (n : ℕ) (a b c : List ℕ) → SameFront n a b → SameFront n b c → SameFront n a c
then-front n a b c first second = record { reaches = second.reaches; same = second.same ∙ first.same }

module _ (w : Work) (side : List ℕ) (within : w.gate < length side) where
  head : length (take (w.gate + 1) side) ≡ w.gate + 1
  head = omega (arith, length-take (w.gate + 1) side)

  pub tail-front : SameFront (w.gate + 1) side (with_tail w side)
  tail-front =
      let rest : List ℕ = if w.is_new then [] else drop (w.gate + 1 + length w.tail) side in
      let whole : with_tail w side ≡ take (w.gate + 1) side ++ (w.tail ++ rest) = append_assoc (take (w.gate + 1) side) w.tail rest in
      let long = head in
      record {
        reaches = omega (arith, length-append (take (w.gate + 1) side ++ w.tail) rest, length-append (take (w.gate + 1) side) w.tail);
        same = ap (λ (b : List ℕ). take (w.gate + 1) b) whole ∙ take_at (take (w.gate + 1) side) (w.tail ++ rest) (w.gate + 1) head;
      }

  pub tail-stands : StandsAt (with_tail w side) (w.gate + 1) w.tail
  tail-stands =
      let rest : List ℕ = if w.is_new then [] else drop (w.gate + 1 + length w.tail) side in
      let whole : with_tail w side ≡ take (w.gate + 1) side ++ (w.tail ++ rest) = append_assoc (take (w.gate + 1) side) w.tail rest in
      let long = head in
      record {
        within = omega (arith, length-append (take (w.gate + 1) side ++ w.tail) rest, length-append (take (w.gate + 1) side) w.tail);
        same = ap (λ (b : List ℕ). take (length w.tail) (drop (w.gate + 1) b)) whole
            ∙ ap (λ (b : List ℕ). take (length w.tail) b) (drop_at (take (w.gate + 1) side) (w.tail ++ rest) (w.gate + 1) head)
            ∙ take_at w.tail rest (length w.tail) refl;
      }

-- bytes that follow a torn gate stand there still
pub stands-torn : (gate : ℕ) (tail old new : List ℕ) → 0 < length tail → TornAt gate 1 old new → StandsAt old (gate + 1) tail → StandsAt new (gate + 1) tail
stands-torn gate tail old new some torn stands =
    let shorter = torn.no_shorter in
    let longer = torn.no_longer in
    let within = stands.within in
    record {
      within = omega arith;
      same = ap (λ (b : List ℕ). take (length tail) b) rest-same ∙ stands.same;
    }
  where
    rest-same : drop (gate + 1) new ≡ drop (gate + 1) old
    rest-same =
        let shorter = torn.no_shorter in
        let longer = torn.no_longer in
        let within = stands.within in
        let a = length-drop (gate + 1) new in
        let b = length-drop (gate + 1) old in
        same_number_lists (drop (gate + 1) new) (drop (gate + 1) old) (omega arith) (λ i less.
        get_or-drop (gate + 1) new i 0 ∙ (torn.behind (gate + 1 + i) (omega arith) (omega arith)).1 ∙ sym (get_or-drop (gate + 1) old i 0))

-- ---- the gate is opened

pub opened-byte : (gate : ℕ) (tail side : List ℕ) → StandsAt side (gate + 1) tail → 0 < length tail
    → is_open_at (written gate (open_gate ∷ []) side) gate ≡ true
opened-byte gate tail side stands some =
    let within = stands.within in
    let byte = byte-written gate open_gate side (omega arith) in
    let long = length-of-written gate (open_gate ∷ []) side (omega arith) in
    let first : nat_lt (gate + 1) (length (written gate (open_gate ∷ []) side)) ≡ true = grind (arith, nat_tests) in
    let second : (get_or (written gate (open_gate ∷ []) side) gate 0 == open_gate) ≡ true = grind (arith, nat_tests) in
    both _ _ first second
  where
    both : (a b : Bool) → a ≡ true → b ≡ true → (a && b) ≡ true
    both true b e f = f
    both false b e f = cc

pub open-or-not : (side : List ℕ) (gate : ℕ) → (is_open_at side gate ≡ true) ⊎ (is_open_at side gate ≡ false)
open-or-not side gate = by (is_open_at side gate) refl
  where
    by : (b : Bool) → is_open_at side gate ≡ b → (is_open_at side gate ≡ true) ⊎ (is_open_at side gate ≡ false)
    by true e = inl e
    by false e = inr e

-- the whole work is the gate closed, the tail written and the gate opened
pub whole-work : (w : Work) (old side : List ℕ) → ClosedOff w.gate old side → written w.gate (open_gate ∷ []) (with_tail w side) ≡ committed w old
whole-work w old side off =
    let front = less-front w.gate (w.gate + 1) side (with_tail w side) (omega arith) (tail-front w side off.within) in
    let taken : take w.gate (with_tail w side) ≡ take w.gate old = front.same ∙ off.front.same in
    ap (λ (b : List ℕ). b ++ (open_gate ∷ []) ++ drop (w.gate + 1) (with_tail w side)) taken
    ∙ ap (λ (b : List ℕ). take w.gate old ++ (open_gate ∷ []) ++ b) dropped
    ∙ shape (if w.is_new then [] else drop (w.gate + 1 + length w.tail) side)
    ∙ ap (λ (b : List ℕ). take w.gate old ++ open_gate ∷ w.tail ++ b) (rest-same w.is_new)
  where
    dropped : drop (w.gate + 1) (with_tail w side) ≡ w.tail ++ (if w.is_new then [] else drop (w.gate + 1 + length w.tail) side)
    dropped =
        let rest : List ℕ = if w.is_new then [] else drop (w.gate + 1 + length w.tail) side in
        ap (λ (b : List ℕ). drop (w.gate + 1) b) (append_assoc (take (w.gate + 1) side) w.tail rest)
        ∙ drop_at (take (w.gate + 1) side) (w.tail ++ rest) (w.gate + 1) (head w side off.within)

    shape : (rest : List ℕ) → take w.gate old ++ (open_gate ∷ []) ++ (w.tail ++ rest) ≡ take w.gate old ++ open_gate ∷ w.tail ++ rest
    shape rest = grind (arith, common_steps)

    later-same : (n : ℕ) → drop (w.gate + 1 + n) side ≡ drop (w.gate + 1 + n) old
    later-same n = sym (drop-drop n side) ∙ ap (λ (b : List ℕ). drop n b) off.behind ∙ drop-drop n old
      where
        drop-drop : (n : ℕ) (b : List ℕ) → drop n (drop (w.gate + 1) b) ≡ drop (w.gate + 1 + n) b
        drop-drop n b = grind (arith, common_steps)

    rest-same : (b : Bool) → (if b then [] else drop (w.gate + 1 + length w.tail) side) ≡ (if b then [] else drop (w.gate + 1 + length w.tail) old)
    rest-same true = refl
    rest-same false = later-same (length w.tail)
