-- What holds of each kind of part: two values are not spelled at one place, and some value has a spelling.
use Rattle.std.proofs.Common.{◌≡◌, ℕ, zero, suc, ◌-◌, ◌≤◌, ◌<◌, List, [], ◌∷◌, ◌++◌, length, take, drop, get_or, refl, sym, ap, ◌∙◌, subst, inl, inr, append_assoc, arith}
use Rattle.std.proofs.lemmas.Bool.{cases_lt}
use Rattle.std.proofs.lemmas.List.{append_cancel_left, take-append-drop, take-append-le, take_at, length-append, length-take, get_or-take, get_or_append_left}
use Rattle.ga_codec.specs.Steps.Parts.{Part, StopsAt, followed_by}

pub record IsPart {A : Type 0} (part : Part A) : Type 0 where
  pub one : (a b : A) (x y : List ℕ) → part.fits a → part.fits b → part.spell a ++ x ≡ part.spell b ++ y → a ≡ b
  pub some : (a : A) × part.fits a

-- ---- lists that begin alike

-- of two fronts of one list the shorter is a front of the longer
pub front_of : (a b x y : List ℕ) → a ++ x ≡ b ++ y → length a ≤ length b → b ≡ a ++ drop (length a) b
front_of a b x y e le =
    let here : take (length a) (a ++ x) ≡ a = take_at a x (length a) refl in
    let there : take (length a) (b ++ y) ≡ take (length a) b = take-append-le (length a) b y le in
    let same : take (length a) b ≡ a = sym there ∙ ap (λ (t : List ℕ). take (length a) t) (sym e) ∙ here in
    sym (take-append-drop (length a) b) ∙ ap (λ (t : List ℕ). t ++ drop (length a) b) same

pub take_past : (done rest : List ℕ) (n : ℕ) → length done ≤ n → take n (done ++ rest) ≡ done ++ take (n - length done) rest
take_past [] rest n le = let same : n ≡ n - 0 = omega arith in ap (λ (m : ℕ). take m rest) same
take_past (b ∷ done) rest zero le = absurd (omega arith)
take_past (b ∷ done) rest (suc n) le =
    let same : n - length done ≡ suc n - suc (length done) = omega arith in
    ap (λ (t : List ℕ). b ∷ t) (take_past done rest n (omega arith)) ∙ ap (λ (m : ℕ). b ∷ (done ++ take m rest)) same

-- ---- one part after another

module _ {A B : Type 0} (first : Part A) (next : A → Part B) (p : IsPart first) (q : (a : A) → first.fits a → IsPart (next a)) where
  rests : (a b : A) (x y : List ℕ) → a ≡ b → first.spell a ++ x ≡ first.spell b ++ y → x ≡ y
  rests a b x y same e = append_cancel_left (first.spell a) x y (subst (λ (v : A). first.spell a ++ x ≡ first.spell v ++ y) (sym same) e)

  same_next : (a b : A) (c d : B) (x y : List ℕ) → first.fits a → (next a).fits c → (next b).fits d → a ≡ b → (next a).spell c ++ x ≡ (next b).spell d ++ y → c ≡ d
  same_next a b c d x y fa fc fd same e =
      let family = λ (v : A). (next v).fits d → (next a).spell c ++ x ≡ (next v).spell d ++ y → c ≡ d in
      subst family same (λ f g. (q a fa).one c d x y fc f g) fd e

  pub followed_is_part : IsPart (followed_by first next)
  unfolding followed_by
  followed_is_part = record {
    one = λ u v x y f g e.
        let e' : first.spell u.0 ++ ((next u.0).spell u.1 ++ x) ≡ first.spell v.0 ++ ((next v.0).spell v.1 ++ y) =
        sym (append_assoc (first.spell u.0) ((next u.0).spell u.1) x) ∙ e ∙ append_assoc (first.spell v.0) ((next v.0).spell v.1) y in
        let a = p.one u.0 v.0 _ _ f.0 g.0 e' in
        let b = same_next u.0 v.0 u.1 v.1 x y f.0 f.1 g.1 a (rests u.0 v.0 _ _ a e') in
        λ i. (a i, b i);
    some = ((p.some.0, (q p.some.0 p.some.1).some.0), (p.some.1, (q p.some.0 p.some.1).some.1));
  }

  -- where the first part stops, both do
  pub followed_stops : (bytes : List ℕ) (at : ℕ) → StopsAt first bytes at → StopsAt (followed_by first next) bytes at
  unfolding followed_by
  followed_stops bytes at s = record {
    none = λ u rest f e. s.none u.0 ((next u.0).spell u.1 ++ rest) f.0 (e ∙ append_assoc (first.spell u.0) ((next u.0).spell u.1) rest);
    longest = record {
      within = s.longest.within;
      begins =
          let b = s.longest.begins in
          let a = b.1.0 in
          let c = (q a b.1.1).some in
          (b.0 ++ (next a).spell c.0, ((a, c.0), (b.1.1, c.1), sym (append_assoc (take at bytes) b.0 ((next a).spell c.0)) ∙ ap (λ (t : List ℕ). t ++ (next a).spell c.0) b.1.2));
      longest = λ n le b.
          let u = b.1.0 in
          let f = b.1.1 in
          elim (cases_lt (length (first.spell u.0)) n) [
            | inl short ↦
                let front = front_of (first.spell u.0) (take n bytes) ((next u.0).spell u.1) b.0 (sym b.1.2) (omega (arith, length-take n bytes)) in
                let more = drop (length (first.spell u.0)) (take n bytes) in
                absurd (s.none u.0 (more ++ drop n bytes) f.0
                (sym (take-append-drop n bytes) ∙ ap (λ (t : List ℕ). t ++ drop n bytes) front ∙ append_assoc (first.spell u.0) more (drop n bytes)))
            | inr long ↦
                let front = front_of (take n bytes) (first.spell u.0) b.0 ((next u.0).spell u.1) b.1.2 (omega (arith, length-take n bytes)) in
                s.longest.longest n le (drop (length (take n bytes)) (first.spell u.0), (u.0, f.0, sym front))
          ];
    };
  }

-- ---- a part that is made of another

-- each value of the whole is made of one of the inner part, and spelled as it
pub record IsMade {A B : Type 0} (whole : Part A) (inner : Part B) (made : B → A) : Type 0 where
  pub completes : (b : B) → inner.fits b → whole.fits (made b) × (whole.spell (made b) ≡ inner.spell b)
  pub comes : (a : A) → whole.fits a → (b : B) × inner.fits b × (a ≡ made b)

pub made_is_part : {A B : Type 0} (whole : Part A) (inner : Part B) (made : B → A) → IsMade whole inner made → IsPart inner → IsPart whole
made_is_part whole inner made m p = record {
  one = λ a b x y f g e.
      let c = m.comes a f in
      let d = m.comes b g in
      let e' : inner.spell c.0 ++ x ≡ inner.spell d.0 ++ y =
      sym (ap (λ (t : List ℕ). t ++ x) (ap whole.spell c.2 ∙ (m.completes c.0 c.1).1)) ∙ e ∙ ap (λ (t : List ℕ). t ++ y) (ap whole.spell d.2 ∙ (m.completes d.0 d.1).1) in
      c.2 ∙ ap made (p.one c.0 d.0 x y c.1 d.1 e') ∙ sym d.2;
  some = (made p.some.0, (m.completes p.some.0 p.some.1).0);
}

-- ---- what is at an end

pub empty_stops : {A : Type 0} (part : Part A) → IsPart part → ((a : A) → 0 < length (part.spell a)) → StopsAt part [] 0
empty_stops part p long = record {
  none = λ a rest f e. omega (arith, long a, ap length e, length-append (part.spell a) rest);
  longest = record { within = omega arith; begins = (part.spell p.some.0, (p.some.0, p.some.1, refl)); longest = λ n le b. le };
}

-- no value begins with the byte
pub byte_stops : {A : Type 0} (part : Part A) (byte : ℕ) (more : List ℕ) → IsPart part → ((a : A) → 0 < length (part.spell a))
    → ((a : A) → part.fits a → get_or (part.spell a) 0 0 ≡ byte → ⊥) → StopsAt part (byte ∷ more) 0
byte_stops part byte more p long bad = record {
  none = λ a rest f e. bad a f (sym (get_or_append_left (part.spell a) rest 0 0 (long a)) ∙ ap (λ (t : List ℕ). get_or t 0 0) (sym e));
  longest = record {
    within = omega arith;
    begins = (part.spell p.some.0, (p.some.0, p.some.1, refl));
    longest = λ n le b. elim (cases_lt 0 n) [
      | inl pos ↦
          let front = take n (byte ∷ more) in
          let some : 0 < length front = omega (arith, length-take n (byte ∷ more)) in
          absurd (bad b.1.0 b.1.1 (ap (λ (t : List ℕ). get_or t 0 0) (sym b.1.2) ∙ get_or_append_left front b.0 0 0 some ∙ get_or-take n (byte ∷ more) 0 0 pos))
      | inr none ↦ none
    ];
  };
}
