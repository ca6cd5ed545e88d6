-- The white space that begins a line.
use Rattle.std.proofs.Common.{◌≡◌, ℕ, zero, suc, ◌+◌, ◌<◌, ◌≤◌, ◌==◌, Bool, true, false, List, [], ◌∷◌, length, take, drop, get_or, refl, sym, ap, ◌∙◌, subst, arith}
use Rattle.std.specs.List.{AllPass, list_all}
use Rattle.std.proofs.lemmas.Bool.Decides.{nat_tests, Decides-eqb}
use Rattle.std.proofs.lemmas.List.{take_all, take-append-drop, length-drop, append-nil}
use Rattle.std.proofs.lemmas.List.Sums.{AllPass-from_list_all}
use Rattle.ga_line.specs.Fits.{SkipsSpace, is_space}

all-spaces : (rest : List ℕ) (n : ℕ) → n ≤ length rest → ((k : ℕ) → k < n → is_space (get_or rest k 0) ≡ true) → list_all is_space (take n rest) ≡ true
all-spaces rest zero le h = refl
all-spaces [] (suc n) le h = absurd (omega arith)
all-spaces (b ∷ rest) (suc n) le h = rw (h 0 (omega arith)) (all-spaces rest n (omega arith) (λ k lt. h (suc k) (omega arith)))

cons-head : (x y : ℕ) (xs ys : List ℕ) → x ∷ xs ≡ y ∷ ys → x ≡ y
cons-head x y xs ys e = cc

-- the rest from a place on begins with the byte there
at-place : (rest : List ℕ) (n : ℕ) → n < length rest → (b : ℕ) (more : List ℕ) → drop n rest ≡ b ∷ more → get_or rest n 0 ≡ b
at-place [] n lt b more e = absurd (omega arith)
at-place (x ∷ rest) zero lt b more e = cons-head _ _ _ _ e
at-place (x ∷ rest) (suc n) lt b more e = at-place rest n (omega arith) b more e

drop-part : (rest : List ℕ) (n m : ℕ) → length rest ≤ n + m → take m (drop n rest) ≡ drop n rest
drop-part rest n m le = take_all m (drop n rest) (omega (arith, length-drop n rest))

pub space-ends : (rest : List ℕ) (n m : ℕ) → n < length rest → length rest ≤ n + m → ((k : ℕ) → k < n → is_space (get_or rest k 0) ≡ true) → is_space (get_or rest n 0) ≡ false
    → SkipsSpace rest (take m (drop n rest))
space-ends rest n m lt le all other = subst (λ (after : List ℕ). SkipsSpace rest after) (sym (drop-part rest n m le)) (record {
  run = (take n rest, sym (take-append-drop n rest), AllPass-from_list_all is_space (take n rest) (all-spaces rest n (omega arith) all));
  longest = λ b more e. ap is_space (sym (at-place rest n lt b more e)) ∙ other;
})

pub space-whole : (rest : List ℕ) (n : ℕ) → length rest ≡ n → ((k : ℕ) → k < n → is_space (get_or rest k 0) ≡ true) → SkipsSpace rest []
space-whole rest n long all = record {
  run = (rest, sym (append-nil rest), subst (λ (xs : List ℕ). AllPass is_space xs) (take_all n rest (omega (arith, long))) (AllPass-from_list_all is_space (take n rest) (all-spaces rest n (omega (arith, long)) all)));
  longest = λ b more e. absurd (nothing b more e);
}
  where
    nothing : (b : ℕ) (more : List ℕ) → [] ≡ b ∷ more → ⊥
    nothing b more e = cc

-- one more space
pub space-more : (rest : List ℕ) (n : ℕ) → ((k : ℕ) → k < n → is_space (get_or rest k 0) ≡ true) → is_space (get_or rest n 0) ≡ true → (k : ℕ) → k < n + 1 → is_space (get_or rest k 0) ≡ true
space-more rest n all here k lt = go (k == n) refl
  where
    go : (b : Bool) → (k == n) ≡ b → is_space (get_or rest k 0) ≡ true
    go true e = let same : k ≡ n = (Decides-eqb k n).0 e in rw same here
    go false e = all k (grind (arith, nat_tests, lt, e))
