-- Counts over lists, and what is in them.
use Rattle.std.proofs.Common.{◌≡◌, ◌≢◌, ℕ, zero, suc, ◌<◌, ◌≤◌, Bool, true, false, cond, not, eqb, List, [], ◌∷◌, length, get_or, refl, ap, ◌∙◌, arith}
use Rattle.std.specs.List.{Contains, count_by}
use Rattle.std.proofs.lemmas.Bool.{ne_eqb}
use Rattle.std.proofs.lemmas.List.Sums.{sum_by-cons, get_or-le-sum_by}

module _ {X : Type 0} (p : X → Bool) where
  pub count-there : (xs : List X) (x : X) → Contains xs x → p x ≡ true → 1 ≤ count_by p xs
  count-there xs x there passes =
      let f : X → ℕ = λ y. cond (p y) 1 0 in
      let at = get_or-le-sum_by f xs there.0 x there.1 in
      let here : f (get_or xs there.0 x) ≡ 1 = ap f there.2 ∙ ap (λ b. cond {A = ℕ} b 1 0) passes in
      omega arith

  pub count-found : (xs : List X) → 1 ≤ count_by p xs → (x : X) × Contains xs x × (p x ≡ true)
  count-found [] more = absurd (omega arith)
  count-found (x ∷ xs) more = by-test (p x) refl (λ rest-more. count-found xs rest-more)
    where
      by-test : (b : Bool) → p x ≡ b → (1 ≤ count_by p xs → (y : X) × Contains xs y × (p y ≡ true)) → (y : X) × Contains (x ∷ xs) y × (p y ≡ true)
      by-test true is found = (x, (0, omega arith, refl), is)
      by-test false is found =
          let s = sum_by-cons (λ (y : X). cond {A = ℕ} (p y) 1 0) x xs in
          let none : cond {A = ℕ} (p x) 1 0 ≡ 0 = ap (λ b. cond {A = ℕ} b 1 0) is in
          let rest = found (omega arith) in (
            rest.0,
            (suc rest.1.0, (let within = rest.1.1 in omega arith), rest.1.2),
            rest.2,
          )

-- a row without a 0 is used whole
pub used-whole : (cells : List ℕ) → ((i : ℕ) → i < length cells → get_or cells i 0 ≢ 0) → count_by (λ word. not (eqb word 0)) cells ≡ length cells
used-whole [] each = refl
used-whole (c ∷ cs) each =
    let s = sum_by-cons (λ (word : ℕ). cond {A = ℕ} (not (eqb word 0)) 1 0) c cs in
    let here : cond {A = ℕ} (not (eqb c 0)) 1 0 ≡ 1 = ap (λ b. cond {A = ℕ} (not b) 1 0) (ne_eqb c 0 (each 0 (omega arith))) in
    let rest = used-whole cs (λ i within. each (suc i) (omega arith)) in
    omega arith

-- a word that a row contains is at a place
pub place-of : (cells : List ℕ) (word : ℕ) → Contains cells word → (i : ℕ) × (i < length cells) × (get_or cells i 0 ≡ word)
place-of cells word there = (there.0, there.1, default-zero cells there.0 word there.1 ∙ there.2)
  where
    default-zero : (xs : List ℕ) (i d : ℕ) → i < length xs → get_or xs i 0 ≡ get_or xs i d
    default-zero [] i d within = absurd (omega arith)
    default-zero (x ∷ xs) zero d within = refl
    default-zero (x ∷ xs) (suc i) d within = default-zero xs i d (omega arith)

pub contains-at : (cells : List ℕ) (i word : ℕ) → i < length cells → get_or cells i 0 ≡ word → Contains cells word
contains-at cells i word within is = (i, within, default-zero cells i word within ∙ is)
  where
    default-zero : (xs : List ℕ) (i d : ℕ) → i < length xs → get_or xs i d ≡ get_or xs i 0
    default-zero [] i d within = absurd (omega arith)
    default-zero (x ∷ xs) zero d within = refl
    default-zero (x ∷ xs) (suc i) d within = default-zero xs i d (omega arith)

-- a read past the end is 0
pub read-within : (cells : List ℕ) (i : ℕ) → get_or cells i 0 ≢ 0 → i < length cells
read-within [] i more = absurd (more refl)
read-within (c ∷ cs) zero more = omega arith
read-within (c ∷ cs) (suc i) more = let rest = read-within cs i more in omega arith
