-- Reading one part after another: how far a reader is within a part, and what comes next.
use Rattle.std.proofs.Common.{◌≡◌, ℕ, ◌+◌, ◌-◌, ◌≤◌, ◌<◌, List, [], ◌∷◌, ◌++◌, length, take, get_or, Result, Ok, Err, refl, sym, ap, ◌∙◌, subst, inl, inr, append_assoc, arith}
use Rattle.std.proofs.lemmas.Bool.{cases_lt}
use Rattle.std.proofs.lemmas.List.{append_cancel_left, append-nil, length-append}
use Rattle.ga_codec.specs.declared.fault.CodecFault.{CodecFault}
use Rattle.ga_codec.specs.declared.fault.CodecFault.TheVariants.{NotInGrammar, NoMemory}
use Rattle.ga_codec.specs.Steps.Parts.{Part, StopsAt, Takes, Refuses, Reads, Cursor, followed_by}
use Rattle.ga_codec.proofs.PartLaws.{IsPart, IsMade, followed_stops, take_past, empty_stops, byte_stops}

-- From old on, the front of the whole was read up to cur. What comes next completes it, and nothing else does.
pub record At {A B : Type 0} (whole : Part A) (next : Part B) (made : B → A) (old cur : Cursor) : Type 0 where
  pub front : List ℕ
  pub bytes : old.rest ≡ front ++ cur.rest
  pub place : cur.place ≡ old.place + length front
  pub completes : (b : B) → next.fits b → whole.fits (made b) × (whole.spell (made b) ≡ front ++ next.spell b)
  pub only : (a : A) (x y : List ℕ) → whole.fits a → whole.spell a ++ x ≡ front ++ y → (b : B) × next.fits b × (a ≡ made b)

pub begins : {A B : Type 0} (whole : Part A) (next : Part B) (made : B → A) (cur : Cursor) → IsMade whole next made → At whole next made cur cur
begins whole next made cur m = record {
  front = [];
  bytes = refl;
  place = omega arith;
  completes = m.completes;
  only = λ a x y f e. m.comes a f;
}

-- the first of two parts was read
pub goes_on : {A B C : Type 0} {whole : Part A} {first : Part B} (next : B → Part C) {made : B × C → A} {old cur new : Cursor} {b : B}
    → At whole (followed_by first next) made old cur → IsPart first → Takes first b cur new → At whole (next b) (λ c. made (b, c)) old new
unfolding followed_by
goes_on {B = B} {whole = whole} {first = first} next {made = made} {old = old} {cur = cur} {new = new} {b = b} at p t = record {
  front = at.front ++ first.spell b;
  bytes = at.bytes ∙ ap (λ (x : List ℕ). at.front ++ x) t.bytes ∙ sym (append_assoc at.front (first.spell b) new.rest);
  place = omega (arith, at.place, t.place, length-append at.front (first.spell b));
  completes = λ c f.
      let w = at.completes (b, c) (t.fits, f) in
      (w.0, w.1 ∙ sym (append_assoc at.front (first.spell b) ((next b).spell c)));
  only = λ a x y f e.
      let e' : whole.spell a ++ x ≡ at.front ++ (first.spell b ++ y) = e ∙ append_assoc at.front (first.spell b) y in
      let u = at.only a x (first.spell b ++ y) f e' in
      let s : whole.spell a ≡ at.front ++ (first.spell u.0.0 ++ (next u.0.0).spell u.0.1) = ap whole.spell u.2 ∙ (at.completes u.0 u.1).1 in
      let e2 : at.front ++ ((first.spell u.0.0 ++ (next u.0.0).spell u.0.1) ++ x) ≡ at.front ++ (first.spell b ++ y) =
      sym (append_assoc at.front (first.spell u.0.0 ++ (next u.0.0).spell u.0.1) x) ∙ ap (λ (v : List ℕ). v ++ x) (sym s) ∙ e' in
      let e3 = append_cancel_left at.front _ _ e2 in
      let same = p.one u.0.0 b ((next u.0.0).spell u.0.1 ++ x) y u.1.0 t.fits (sym (append_assoc (first.spell u.0.0) ((next u.0.0).spell u.0.1) x) ∙ e3) in
      (u.0.1, subst (λ (v : B). (next v).fits u.0.1) same u.1.1, u.2 ∙ ap (λ (v : B). made (v, u.0.1)) same);
}

-- what comes next is itself made of parts
pub opens : {A B C : Type 0} {whole : Part A} {next : Part B} {made : B → A} {old cur : Cursor} (inner : Part C) (maker : C → B)
    → At whole next made old cur → IsMade next inner maker → At whole inner (λ c. made (maker c)) old cur
opens {whole = whole} {next = next} {made = made} inner maker at m = record {
  front = at.front;
  bytes = at.bytes;
  place = at.place;
  completes = λ c f.
      let n = m.completes c f in
      let w = at.completes (maker c) n.0 in
      (w.0, w.1 ∙ ap (λ (x : List ℕ). at.front ++ x) n.1);
  only = λ a x y f e.
      let u = at.only a x y f e in
      let v = m.comes u.0 u.1 in
      (v.0, v.1, u.2 ∙ ap made v.2);
}

-- the value is made so, or so
pub remade : {A B : Type 0} {whole : Part A} {next : Part B} {made : B → A} {old cur : Cursor} (maker : B → A)
    → At whole next made old cur → ((b : B) → made b ≡ maker b) → At whole next maker old cur
remade {A = A} {whole = whole} {next = next} maker at same = record {
  front = at.front;
  bytes = at.bytes;
  place = at.place;
  completes = λ b f.
      let w = at.completes b f in
      (subst (λ (v : A). whole.fits v) (same b) w.0, ap whole.spell (sym (same b)) ∙ w.1);
  only = λ a x y f e.
      let u = at.only a x y f e in
      (u.0, u.1, u.2 ∙ same u.0);
}

-- the last part was read
pub ends : {A B : Type 0} {whole : Part A} {next : Part B} {made : B → A} {old cur new : Cursor} {b : B}
    → At whole next made old cur → Takes next b cur new → Takes whole (made b) old new
ends {whole = whole} {next = next} {made = made} {old = old} {cur = cur} {new = new} {b = b} at t =
    let w = at.completes b t.fits in
    record {
      fits = w.0;
      bytes = at.bytes ∙ ap (λ (x : List ℕ). at.front ++ x) t.bytes ∙ sym (append_assoc at.front (next.spell b) new.rest) ∙ ap (λ (x : List ℕ). x ++ new.rest) (sym w.1);
      place = omega (arith, at.place, t.place, ap length w.1, length-append at.front (next.spell b));
    }

-- ---- faults

module _ {A B : Type 0} (whole : Part A) (next : Part B) (made : B → A) (old cur : Cursor) (at : At whole next made old cur) where
  front_taken : (n : ℕ) → length at.front ≤ n → take n old.rest ≡ at.front ++ take (n - length at.front) cur.rest
  front_taken n le = ap (λ (x : List ℕ). take n x) at.bytes ∙ take_past at.front cur.rest n le

  stops_within : (n : ℕ) → StopsAt next cur.rest n → StopsAt whole old.rest (length at.front + n)
  stops_within n s = record {
    none = λ a rest f e.
        let u = at.only a rest cur.rest f (sym e ∙ at.bytes) in
        let w = ap whole.spell u.2 ∙ (at.completes u.0 u.1).1 in
        let e2 : at.front ++ cur.rest ≡ at.front ++ (next.spell u.0 ++ rest) =
        sym at.bytes ∙ e ∙ ap (λ (x : List ℕ). x ++ rest) w ∙ append_assoc at.front (next.spell u.0) rest in
        s.none u.0 rest u.1 (append_cancel_left at.front _ _ e2);
    longest = record {
      within = omega (arith, s.longest.within, ap length at.bytes, length-append at.front cur.rest);
      begins =
          let b = s.longest.begins in
          let w = at.completes b.1.0 b.1.1 in
          let k : length at.front + n - length at.front ≡ n = omega arith in
          let t : take (length at.front + n) old.rest ≡ at.front ++ take n cur.rest =
          front_taken (length at.front + n) (omega arith) ∙ ap (λ (m : ℕ). at.front ++ take m cur.rest) k in
          (b.0, (made b.1.0, w.0, ap (λ (x : List ℕ). x ++ b.0) t ∙ append_assoc at.front (take n cur.rest) b.0 ∙ ap (λ (x : List ℕ). at.front ++ x) b.1.2 ∙ sym w.1));
      longest = λ k le b.
          elim (cases_lt k (length at.front)) [
            | inl lt ↦ omega arith
            | inr ge ↦
                let part = take (k - length at.front) cur.rest in
                let t : take k old.rest ≡ at.front ++ part = front_taken k ge in
                let whole-is : at.front ++ (part ++ b.0) ≡ whole.spell b.1.0 = sym (append_assoc at.front part b.0) ∙ ap (λ (x : List ℕ). x ++ b.0) (sym t) ∙ b.1.2 in
                let u = at.only b.1.0 [] (part ++ b.0) b.1.1 (append-nil (whole.spell b.1.0) ∙ sym whole-is) in
                let e2 : at.front ++ (part ++ b.0) ≡ at.front ++ next.spell u.0 = whole-is ∙ ap whole.spell u.2 ∙ (at.completes u.0 u.1).1 in
                let fits : k - length at.front ≤ length cur.rest = omega (arith, ap length at.bytes, length-append at.front cur.rest) in
                let h = s.longest.longest (k - length at.front) fits (b.0, (u.0, u.1, append_cancel_left at.front _ _ e2)) in
                omega (arith, h)
          ];
    };
  }

-- a fault of what comes next is one of the whole
pub fails : {A B : Type 0} {whole : Part A} {next : Part B} {made : B → A} {old cur : Cursor} (fault : CodecFault)
    → At whole next made old cur → Refuses next cur fault → Refuses whole old fault
fails NoMemory at r = tt
fails {whole = whole} {next = next} {made = made} {old = old} {cur = cur} (NotInGrammar place) at r = record {
  read = length at.front + r.read;
  place = omega (arith, r.place, at.place);
  stops = stops_within whole next made old cur at r.read r.stops;
}

-- a fault of the first of two parts is one of both
pub fails_first : {A B : Type 0} (first : Part A) (next : A → Part B) (cur : Cursor) (fault : CodecFault)
    → IsPart first → ((a : A) → first.fits a → IsPart (next a)) → Refuses first cur fault → Refuses (followed_by first next) cur fault
fails_first first next cur NoMemory p q r = tt
fails_first first next cur (NotInGrammar place) p q r =
    record { read = r.read; place = r.place; stops = followed_stops first next p q cur.rest r.read r.stops }

-- a fault of the part that comes next, after which others would come
pub fails_here : {A B C : Type 0} {whole : Part A} (first : Part B) (next : B → Part C) {made : B × C → A} {old cur : Cursor} (fault : CodecFault)
    → At whole (followed_by first next) made old cur → IsPart first → ((b : B) → first.fits b → IsPart (next b)) → Refuses first cur fault → Refuses whole old fault
fails_here first next {cur = cur} fault at p q r = fails fault at (fails_first first next cur fault p q r)

-- the last part is read or refused
pub reads_last : {A B X : Type 0} {whole : Part A} {next : Part B} {made : B → A} {old cur : Cursor} (new : Cursor) (view : X → B) (result : Result X CodecFault)
    → At whole next made old cur → Reads next view cur new result → Reads whole (λ x. made (view x)) old new result
reads_last new view (Ok x) at r = ends at r
reads_last new view (Err fault) at r = fails fault at r

-- ---- the first byte

-- nothing is left
pub refuses_end : {A : Type 0} (part : Part A) (cur : Cursor) (fault : CodecFault) → IsPart part → ((a : A) → 0 < length (part.spell a))
    → cur.rest ≡ [] → fault ≡ NotInGrammar cur.place → Refuses part cur fault
refuses_end part cur fault p long e f =
    let r : Refuses part cur (NotInGrammar cur.place) =
    record { read = 0; place = omega arith; stops = subst (λ (t : List ℕ). StopsAt part t 0) (sym e) (empty_stops part p long) } in
    subst (λ (x : CodecFault). Refuses part cur x) (sym f) r

-- no value begins with the next byte
pub refuses_byte : {A : Type 0} (part : Part A) (cur : Cursor) (fault : CodecFault) (byte : ℕ) (more : List ℕ) → IsPart part → ((a : A) → 0 < length (part.spell a))
    → ((a : A) → part.fits a → get_or (part.spell a) 0 0 ≡ byte → ⊥) → cur.rest ≡ byte ∷ more → fault ≡ NotInGrammar (cur.place + 0) → Refuses part cur fault
refuses_byte part cur fault byte more p long bad e f =
    let r : Refuses part cur (NotInGrammar (cur.place + 0)) =
    record { read = 0; place = refl; stops = subst (λ (t : List ℕ). StopsAt part t 0) (sym e) (byte_stops part byte more p long bad) } in
    subst (λ (x : CodecFault). Refuses part cur x) (sym f) r
