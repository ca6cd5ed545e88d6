-- Numbers and rows of bytes, this many items, and lists.
use Rattle.std.proofs.Common.{◌≡◌, ℕ, zero, suc, ◌+◌, ◌-◌, ◌*◌, ◌^◌, ◌≤◌, ◌<◌, List, [], ◌∷◌, ◌++◌, length, take, drop, get_or, replicate, refl, sym, ap, ◌∙◌, subst, append_assoc, arith}
use Rattle.std.specs.List.{flat_map, AllByRecursion}
use Rattle.std.specs.Int.{Width, w16, w32, w64, byte_len, from_be_bytes, to_be_bytes}
use Rattle.std.proofs.lemmas.List.{take_at, take_all, take-append-drop, length-append, length-take, length-replicate, append_cancel_left}
use Rattle.std.proofs.lemmas.Nat.{be_bytes_2, be_bytes_4, be_bytes_8, from_be_bytes-to_be_bytes_2, from_be_bytes-to_be_bytes_4, from_be_bytes-to_be_bytes_8}
use Rattle.ga_codec.specs.declared.fault.CodecFault.TheVariants.{NotInGrammar}
use Rattle.ga_codec.specs.Steps.Parts.{Part, StopsAt, Takes, Refuses, followed_by, times, listed}
use Rattle.ga_codec.specs.Steps.Grammar.{any_bytes, number}
use Rattle.ga_codec.proofs.PartLaws.{IsPart, IsMade, made_is_part, followed_is_part}

-- ---- bytes

abbrev pub AreBytes : List ℕ → Type 0
AreBytes bytes = AllByRecursion (λ byte. byte < 256) bytes

pub bytes_by_place : (bytes : List ℕ) → ((i : ℕ) → get_or bytes i 0 < 256) → AreBytes bytes
bytes_by_place [] h = tt
bytes_by_place (b ∷ bytes) h = (h 0, bytes_by_place bytes (λ i. h (suc i)))

pub place_of_bytes : (bytes : List ℕ) → AreBytes bytes → (i : ℕ) → get_or bytes i 0 < 256
place_of_bytes [] h i = omega arith
place_of_bytes (b ∷ bytes) h zero = h.0
place_of_bytes (b ∷ bytes) h (suc i) = place_of_bytes bytes h.1 i

pub bytes_append : (a b : List ℕ) → AreBytes a → AreBytes b → AreBytes (a ++ b)
bytes_append [] b h k = k
bytes_append (x ∷ a) b h k = (h.0, bytes_append a b h.1 k)

pub bytes_take : (n : ℕ) (a : List ℕ) → AreBytes a → AreBytes (take n a)
bytes_take zero a h = tt
bytes_take (suc n) [] h = tt
bytes_take (suc n) (x ∷ a) h = (h.0, bytes_take n a h.1)

pub bytes_zeros : (n : ℕ) → AreBytes (replicate n 0)
bytes_zeros zero = tt
bytes_zeros (suc n) = (omega arith, bytes_zeros n)

pub any_is_part : (n : ℕ) → IsPart (any_bytes n)
any_is_part n = record {
  one = λ a b x y f g e. sym (take_at a x n f.0) ∙ ap (λ (t : List ℕ). take n t) e ∙ take_at b y n g.0;
  some = (replicate n 0, (length-replicate n 0, bytes_zeros n));
}

-- too few bytes all begin one
pub any_stops : (n : ℕ) (bytes : List ℕ) → AreBytes bytes → length bytes < n → StopsAt (any_bytes n) bytes (length bytes)
any_stops n bytes fits lt = record {
  none = λ a rest f e. omega (arith, f.0, ap length e, length-append a rest);
  longest = record {
    within = omega arith;
    begins =
        let more : List ℕ = replicate (n - length bytes) 0 in
        let all = take_all (length bytes) bytes (omega arith) in (
          more,
          (
            take (length bytes) bytes ++ more,
            (
              omega (arith, ap length all, length-append (take (length bytes) bytes) more, length-replicate {A = ℕ} (n - length bytes) 0),
              bytes_append (take (length bytes) bytes) more (subst (λ (t : List ℕ). AreBytes t) (sym all) fits) (bytes_zeros (n - length bytes)),
            ),
            refl,
          ),
        );
    longest = λ k le b. le;
  };
}

-- ---- numbers

pub record IsWide (w : Width) : Type 0 where
  pub back : (bytes : List ℕ) → length bytes ≡ byte_len w → AreBytes bytes → to_be_bytes w (from_be_bytes w bytes) ≡ bytes
  pub again : (n : ℕ) → n < 2 ^ (8 * byte_len w) → from_be_bytes w (to_be_bytes w n) ≡ n
  pub below : (bytes : List ℕ) → AreBytes bytes → from_be_bytes w bytes < 2 ^ (8 * byte_len w)
  pub size : (n : ℕ) → length (to_be_bytes w n) ≡ byte_len w
  pub are : (n : ℕ) → AreBytes (to_be_bytes w n)

pub wide16 : IsWide w16
wide16 = record {
  back = λ bytes len fits. be_bytes_2 bytes _ len (place_of_bytes bytes fits) refl;
  again = λ n lt. from_be_bytes-to_be_bytes_2 n lt;
  below = λ bytes fits. let p = place_of_bytes bytes fits in omega (arith, p 0, p 1);
  size = λ n. refl;
  are = λ n. (omega arith, (omega arith, tt));
}

pub wide32 : IsWide w32
wide32 = record {
  back = λ bytes len fits. be_bytes_4 bytes _ len (place_of_bytes bytes fits) refl;
  again = λ n lt. from_be_bytes-to_be_bytes_4 n lt;
  below = λ bytes fits. let p = place_of_bytes bytes fits in omega (arith, p 0, p 1, p 2, p 3);
  size = λ n. refl;
  are = λ n. (omega arith, (omega arith, (omega arith, (omega arith, tt))));
}

pub wide64 : IsWide w64
wide64 = record {
  back = λ bytes len fits. be_bytes_8 bytes _ len (place_of_bytes bytes fits) refl;
  again = λ n lt. from_be_bytes-to_be_bytes_8 n lt;
  below = λ bytes fits. let p = place_of_bytes bytes fits in omega (arith, p 0, p 1, p 2, p 3, p 4, p 5, p 6, p 7);
  size = λ n. refl;
  are = λ n. (omega arith, (omega arith, (omega arith, (omega arith, (omega arith, (omega arith, (omega arith, (omega arith, tt))))))));
}

-- a number is made of its bytes
pub number_made : (w : Width) → IsWide w → IsMade (number w) (any_bytes (byte_len w)) (from_be_bytes w)
number_made w wide = record {
  completes = λ bytes f. (wide.below bytes f.1, wide.back bytes f.0 f.1);
  comes = λ n f. (to_be_bytes w n, (wide.size n, wide.are n), sym (wide.again n f));
}

pub number_is_part : (w : Width) → IsWide w → IsPart (number w)
number_is_part w wide = made_is_part (number w) (any_bytes (byte_len w)) (from_be_bytes w) (number_made w wide) (any_is_part (byte_len w))

-- ---- this many of one kind

module _ {A : Type 0} (part : Part A) (p : IsPart part) where
  times_one : (xs ys : List A) (x y : List ℕ) → length xs ≡ length ys → AllByRecursion part.fits xs → AllByRecursion part.fits ys
      → flat_map part.spell xs ++ x ≡ flat_map part.spell ys ++ y → xs ≡ ys
  times_one [] [] x y len f g e = refl
  times_one [] (b ∷ ys) x y len f g e = absurd (omega arith)
  times_one (a ∷ xs) [] x y len f g e = absurd (omega arith)
  times_one (a ∷ xs) (b ∷ ys) x y len f g e =
      let e' : part.spell a ++ (flat_map part.spell xs ++ x) ≡ part.spell b ++ (flat_map part.spell ys ++ y) =
      sym (append_assoc (part.spell a) (flat_map part.spell xs) x) ∙ e ∙ append_assoc (part.spell b) (flat_map part.spell ys) y in
      let same = p.one a b _ _ f.0 g.0 e' in
      let rest = append_cancel_left (part.spell a) _ _ (subst (λ (v : A). part.spell a ++ (flat_map part.spell xs ++ x) ≡ part.spell v ++ (flat_map part.spell ys ++ y)) (sym same) e') in
      let others = times_one xs ys x y (omega arith) f.1 g.1 rest in
      λ i. same i ∷ others i

  all_some : (n : ℕ) → AllByRecursion part.fits (replicate n p.some.0)
  all_some zero = tt
  all_some (suc n) = (p.some.1, all_some n)

  pub times_is_part : (n : ℕ) → IsPart (times n part)
  unfolding times
  times_is_part n = record {
    one = λ xs ys x y f g e. times_one xs ys x y (f.0 ∙ sym g.0) f.1 g.1 e;
    some = (replicate n p.some.0, (length-replicate n p.some.0, all_some n));
  }

-- one item more is an item, and the others
pub times_made : {A : Type 0} (part : Part A) (n : ℕ) → IsMade (times (suc n) part) (followed_by part (λ _. times n part)) (λ v. v.0 ∷ v.1)
unfolding times followed_by
times_made {A = A} part n = record { completes = λ v f. ((omega (arith, f.1.0), (f.0, f.1.1)), refl); comes = comes }
  where
    comes : (xs : List A) → (length xs ≡ suc n) × AllByRecursion part.fits xs
        → (v : A × List A) × (part.fits v.0 × ((length v.1 ≡ n) × AllByRecursion part.fits v.1)) × (xs ≡ v.0 ∷ v.1)
    comes [] f = absurd (omega (arith, f.0))
    comes (a ∷ xs) f = ((a, xs), (f.1.0, (omega (arith, f.0), f.1.1)), refl)

-- a list is the number of its items, and these
pub listed_made : {A : Type 0} (part : Part A) → IsMade (listed part) (followed_by (number w64) (λ n. times n part)) (λ v. v.1)
unfolding times followed_by
listed_made {A = A} part = record {
  completes = λ v f. (
    record { number = subst (λ (n : ℕ). n < 2 ^ 64) (sym f.1.0) f.0; each = f.1.1 },
    ap (λ (n : ℕ). to_be_bytes w64 n ++ flat_map part.spell v.1) f.1.0,
  );
  comes = λ xs f. ((length xs, xs), (f.number, (refl, f.each)), refl);
}

pub listed_is_part : {A : Type 0} (part : Part A) → IsPart part → IsPart (listed part)
listed_is_part part p = made_is_part (listed part) (followed_by (number w64) (λ n. times n part)) (λ v. v.1) (listed_made part)
    (followed_is_part (number w64) (λ n. times n part) (number_is_part w64 wide64) (λ n f. times_is_part part p n))

-- ---- what a cursor reads

pub bytes_taken : (n place : ℕ) (rest front : List ℕ) → front ≡ take n rest → n ≤ length rest → ((i : ℕ) → get_or rest i 0 < 256)
    → Takes (any_bytes n) front (record { place = place; rest = rest }) (record { place = place + n; rest = drop n rest })
bytes_taken n place rest front e le fits =
    let size : length front ≡ n = omega (arith, ap length e, length-take n rest) in
    record {
      fits = (size, subst (λ (t : List ℕ). AreBytes t) (sym e) (bytes_take n rest (bytes_by_place rest fits)));
      bytes = sym (take-append-drop n rest) ∙ ap (λ (t : List ℕ). t ++ drop n rest) (sym e);
      place = omega (arith, size);
    }

pub bytes_ended : (n place : ℕ) (rest : List ℕ) → length rest < n → ((i : ℕ) → get_or rest i 0 < 256)
    → Refuses (any_bytes n) (record { place = place; rest = rest }) (NotInGrammar (place + length rest))
bytes_ended n place rest lt fits = record { read = length rest; place = refl; stops = any_stops n rest (bytes_by_place rest fits) lt }
