-- Lists by their places, and fronts of fronts.
use Rattle.std.proofs.Common.{◌≡◌, ◌≢◌, ◌⊎◌, ◌<◌, ◌≤◌, ◌+◌, ℕ, zero, suc, List, [], ◌∷◌, ◌++◌, length, take, drop, map, set, refl, ap, inl, inr, arith, Option, Some, None}
use Rattle.std.proofs.lemmas.Bool.{cases_lt}
use Rattle.std.specs.List.{slice_index_or}
use Rattle.std.specs.Prelude.{option_map}

abbrev pub at : {A : Type 0} → List A → ℕ → Option A
at [] k = None
at (x ∷ xs) zero = Some x
at (x ∷ xs) (suc k) = at xs k

pub some-same : {A : Type 0} {a b : A} → Some a ≡ Some b → a ≡ b
some-same e = cc

pub stands-at : {A : Type 0} (xs : List A) (k : ℕ) (x : A) → k < length xs → slice_index_or xs k x ≡ x → at xs k ≡ Some x
stands-at [] k x lt e = absurd (omega arith)
stands-at (y ∷ ys) zero x lt e = ap Some e
stands-at (y ∷ ys) (suc k) x lt e = stands-at ys k x (omega arith) e

pub stood-at : {A : Type 0} (xs : List A) (k : ℕ) (x : A) → at xs k ≡ Some x → (k < length xs) × (slice_index_or xs k x ≡ x)
stood-at [] k x e = cc
stood-at (y ∷ ys) zero x e = (omega arith, some-same e)
stood-at (y ∷ ys) (suc k) x e = let h = stood-at ys k x e in let lt : k < length ys = h.0 in (omega arith, h.1)

-- what is in a mapped list came from somewhere
pub at-mapped : {A B : Type 0} (f : A → B) (xs : List A) (k : ℕ) (y : B) → at (map f xs) k ≡ Some y → (x : A) × (at xs k ≡ Some x) × (f x ≡ y)
at-mapped f [] k y e = cc
at-mapped f (x ∷ xs) zero y e = (x, refl, some-same e)
at-mapped f (x ∷ xs) (suc k) y e = at-mapped f xs k y e

pub at-map : {A B : Type 0} (f : A → B) (xs : List A) (k : ℕ) (x : A) → at xs k ≡ Some x → at (map f xs) k ≡ Some (f x)
at-map f [] k x e = cc
at-map f (y ∷ xs) zero x e = ap (λ z. Some (f z)) (some-same e)
at-map f (y ∷ xs) (suc k) x e = at-map f xs k x e

pub at-map_is : {A B : Type 0} (f : A → B) (xs : List A) (k : ℕ) → at (map f xs) k ≡ option_map f (at xs k)
at-map_is f [] k = refl
at-map_is f (x ∷ xs) zero = refl
at-map_is f (x ∷ xs) (suc k) = at-map_is f xs k

-- ---- one more at the end

pub at-last : {A : Type 0} (xs : List A) (x : A) → at (xs ++ x ∷ []) (length xs) ≡ Some x
at-last [] x = refl
at-last (y ∷ xs) x = at-last xs x

pub at-before : {A : Type 0} (xs : List A) (x : A) (k : ℕ) → k ≢ length xs → at (xs ++ x ∷ []) k ≡ at xs k
at-before [] x zero ne = absurd (ne refl)
at-before [] x (suc k) ne = refl
at-before (y ∷ xs) x zero ne = refl
at-before (y ∷ xs) x (suc k) ne = at-before xs x k (λ e. ne (omega arith))

pub at-end : {A : Type 0} (xs : List A) → at xs (length xs) ≡ None
at-end [] = refl
at-end (y ∷ xs) = at-end xs

-- ---- another in one place

pub at-set : {A : Type 0} (xs : List A) (k : ℕ) (x old : A) → at xs k ≡ Some old → at (set xs k x) k ≡ Some x
at-set [] k x old e = cc
at-set (y ∷ xs) zero x old e = refl
at-set (y ∷ xs) (suc k) x old e = at-set xs k x old e

pub at-unset : {A : Type 0} (xs : List A) (k : ℕ) (x : A) (j : ℕ) → j ≢ k → at (set xs k x) j ≡ at xs j
at-unset [] k x j ne = refl
at-unset (y ∷ xs) zero x zero ne = absurd (ne refl)
at-unset (y ∷ xs) zero x (suc j) ne = refl
at-unset (y ∷ xs) (suc k) x zero ne = refl
at-unset (y ∷ xs) (suc k) x (suc j) ne = at-unset xs k x j (λ e. ne (omega arith))

-- ---- numbers and fronts

pub same-or-not : (i j : ℕ) → (i ≡ j) ⊎ (i ≢ j)
same-or-not i j = go (cases_lt i j) (cases_lt j i)
  where
    go : (i < j) ⊎ (j ≤ i) → (j < i) ⊎ (i ≤ j) → (i ≡ j) ⊎ (i ≢ j)
    go (inl less) h = inr (λ e. omega arith)
    go (inr most) (inl less) = inr (λ e. omega arith)
    go (inr most) (inr least) = inl (omega arith)

pub take-take : {A : Type 0} (m n : ℕ) (xs : List A) → m ≤ n → take m (take n xs) ≡ take m xs
take-take zero n xs le = refl
take-take (suc m) zero xs le = absurd (omega arith)
take-take (suc m) (suc n) [] le = refl
take-take (suc m) (suc n) (x ∷ xs) le = ap (λ rest. x ∷ rest) (take-take m n xs (omega arith))

-- a front, in two parts
pub take-more : {A : Type 0} (from count : ℕ) (xs : List A) → from ≤ length xs → take (from + count) xs ≡ take from xs ++ take count (drop from xs)
take-more zero count xs le = ap (λ (n : ℕ). take n xs) (omega arith)
take-more (suc from) count [] le = absurd (omega arith)
take-more (suc from) count (x ∷ xs) le =
    let e : suc from + count ≡ suc (from + count) = omega arith in
    rw e (ap (λ rest. x ∷ rest) (take-more from count xs (omega arith)))
