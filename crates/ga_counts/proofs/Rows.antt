-- Rows of numbers: one number changed, and two rows put together.
use Rattle.std.proofs.Common.{◌≡◌, ◌≢◌, ℕ, zero, suc, ◌+◌, ◌<◌, max, List, [], ◌∷◌, length, get_or, set, take, replicate, sym, refl, subst, arith}
use Rattle.std.proofs.lemmas.List.{get_or-set_same, get_or-set_other}
use native.Mathlib.Decide.{ℕ_discrete}
use Rattle.ga_counts.specs.Counts.{added, greater}

pub added-at : (xs ys : List ℕ) (i : ℕ) → get_or (added xs ys) i 0 ≡ get_or xs i 0 + get_or ys i 0
added-at [] ys i = omega arith
added-at (x ∷ xs) [] i = omega arith
added-at (x ∷ xs) (y ∷ ys) zero = refl
added-at (x ∷ xs) (y ∷ ys) (suc i) = added-at xs ys i

pub greater-at : (xs ys : List ℕ) (i : ℕ) → get_or (greater xs ys) i 0 ≡ max (get_or xs i 0) (get_or ys i 0)
greater-at [] ys i = omega arith
greater-at (x ∷ xs) [] i = omega arith
greater-at (x ∷ xs) (y ∷ ys) zero = refl
greater-at (x ∷ xs) (y ∷ ys) (suc i) = greater-at xs ys i

pub length-added : (xs ys : List ℕ) → length xs ≡ length ys → length (added xs ys) ≡ length xs
length-added [] ys e = sym e
length-added (x ∷ xs) [] e = refl
length-added (x ∷ xs) (y ∷ ys) e = let rest = length-added xs ys (omega arith) in omega arith

pub length-greater : (xs ys : List ℕ) → length xs ≡ length ys → length (greater xs ys) ≡ length xs
length-greater [] ys e = sym e
length-greater (x ∷ xs) [] e = refl
length-greater (x ∷ xs) (y ∷ ys) e = let rest = length-greater xs ys (omega arith) in omega arith

pub zeros-at : (n i : ℕ) → get_or (replicate n zero) i zero ≡ zero
zeros-at zero i = refl
zeros-at (suc n) zero = refl
zeros-at (suc n) (suc i) = zeros-at n i

-- a fact about two numbers, read from two rows at one place, stays where both are changed there alone
pub both-set : (P : ℕ → ℕ → Type 0) (xs ys : List ℕ) (i a b : ℕ) → i < length xs → i < length ys → P a b
    → ((j : ℕ) → j ≢ i → P (get_or xs j 0) (get_or ys j 0)) → (j : ℕ) → P (get_or (set xs i a) j 0) (get_or (set ys i b) j 0)
both-set P xs ys i a b in-xs in-ys here else' j = by-place (ℕ_discrete j i)
  where
    by-place : Dec (j ≡ i) → P (get_or (set xs i a) j 0) (get_or (set ys i b) j 0)
    by-place (yes e) = subst (λ (k : ℕ). P (get_or (set xs i a) k 0) (get_or (set ys i b) k 0)) (sym e)
        (subst (λ (x : ℕ). P x (get_or (set ys i b) i 0)) (sym (get_or-set_same xs i a 0 in-xs)) (subst (λ (y : ℕ). P a y) (sym (get_or-set_same ys i b 0 in-ys)) here))
    by-place (no ne) =
        subst (λ (x : ℕ). P x (get_or (set ys i b) j 0)) (sym (get_or-set_other xs i j a 0 ne)) (subst (λ (y : ℕ). P (get_or xs j 0) y) (sym (get_or-set_other ys i j b 0 ne)) (else' j ne))

-- the same of one row
pub one-set : (P : ℕ → ℕ → Type 0) (xs : List ℕ) (i a : ℕ) → i < length xs → P i a → ((j : ℕ) → j ≢ i → P j (get_or xs j 0)) → (j : ℕ) → P j (get_or (set xs i a) j 0)
one-set P xs i a within here else' j = by-place (ℕ_discrete j i)
  where
    by-place : Dec (j ≡ i) → P j (get_or (set xs i a) j 0)
    by-place (yes e) = subst (λ (k : ℕ). P k (get_or (set xs i a) k 0)) (sym e) (subst (λ (x : ℕ). P i x) (sym (get_or-set_same xs i a 0 within)) here)
    by-place (no ne) = subst (λ (x : ℕ). P j x) (sym (get_or-set_other xs i j a 0 ne)) (else' j ne)

pub same-rows : (xs ys : List ℕ) → length xs ≡ length ys → ((i : ℕ) → get_or xs i 0 ≡ get_or ys i 0) → xs ≡ ys
same-rows [] [] e each = refl
same-rows [] (y ∷ ys) e each = absurd (omega arith)
same-rows (x ∷ xs) [] e each = absurd (omega arith)
same-rows (x ∷ xs) (y ∷ ys) e each = λ k. each 0 k ∷ same-rows xs ys (omega arith) (λ i. each (suc i)) k

pub take-of-set : (n : ℕ) (xs : List ℕ) (i a : ℕ) → take n (set xs i a) ≡ set (take n xs) i a
take-of-set zero [] i a = refl
take-of-set (suc n) [] i a = refl
take-of-set zero (x ∷ xs) zero a = refl
take-of-set zero (x ∷ xs) (suc i) a = refl
take-of-set (suc n) (x ∷ xs) zero a = refl
take-of-set (suc n) (x ∷ xs) (suc i) a = λ k. x ∷ take-of-set n xs i a k
