-- The pairs of rows of visitors: a pair is there exactly where its key's row has its visitor.
use Rattle.std.proofs.Common.{◌≡◌, ℕ, ◌+◌, ◌<◌, zero, suc, List, [], ◌∷◌, get_or, length, map, sym, ap, ◌∙◌, subst, arith, ⊎_elim}
use Rattle.std.specs.List.{Contains}
use Rattle.std.proofs.lemmas.List.{length-map, get_or-map}
use Rattle.std.proofs.lemmas.List.Elements.{Contains-append_left, Contains-append_right, Contains-append_cases, Contains-get_or}
use Rattle.ga_tallies.specs.Tallies.{row_pairs, pairs_from, pairs_in}

pub contains-map : {X Y : Type 0} (f : X → Y) (xs : List X) (x : X) → Contains xs x → Contains (map f xs) (f x)
contains-map f xs x (k, lt, e) = (k, omega (arith, length-map xs f), get_or-map f xs k x (f x) lt ∙ ap f e)

pub from-map : {X Y : Type 0} (f : X → Y) (xs : List X) (y : Y) → Contains (map f xs) y → (x : X) × Contains xs x × (f x ≡ y)
from-map f [] y (k, lt, e) = absurd (omega arith)
from-map f (z ∷ xs) y (k, lt, e) =
    let long : length (map f (z ∷ xs)) ≡ length (z ∷ xs) = length-map (z ∷ xs) f in
    let within : k < length (z ∷ xs) = omega arith in
    (get_or (z ∷ xs) k z, Contains-get_or (z ∷ xs) k z within, sym (get_or-map f (z ∷ xs) k z y within) ∙ e)

-- the row of a key, and none after the last
abbrev pub row_at : List (List ℕ) → ℕ → List ℕ
row_at rows k = get_or rows k []

pub nothing-there : {X : Type 0} (x : X) → Contains [] x → ⊥
nothing-there x (k, lt, e) = omega arith

pub of-row : (s : ℕ) (rows : List (List ℕ)) (k v : ℕ) → Contains (pairs_from s rows) (k, v) → (i : ℕ) × (k ≡ s + i) × Contains (row_at rows i) v
of-row s [] k v at = absurd (nothing-there (k, v) at)
of-row s (row ∷ rows) k v at =
    ⊎_elim
    (λ left.
    let from = from-map (λ (visitor : ℕ). (s, visitor)) row (k, v) left in
    let key : s ≡ k = ap (λ (p : ℕ × ℕ). p.0) from.2 in
    (0, omega (arith, key), subst (λ n. Contains row n) (ap (λ (p : ℕ × ℕ). p.1) from.2) from.1))
    (λ right.
    let from = of-row (s + 1) rows k v right in
    let is : k ≡ (s + 1) + from.0 = from.1 in
    (suc from.0, omega (arith, is), from.2))
    (Contains-append_cases (row_pairs s row) (pairs_from (s + 1) rows) (k, v) at)

pub in-rows : (s i : ℕ) (rows : List (List ℕ)) (v : ℕ) → Contains (row_at rows i) v → Contains (pairs_from s rows) (s + i, v)
in-rows s i [] v at = absurd (nothing-there v at)
in-rows s zero (row ∷ rows) v at =
    let here = Contains-append_left (row_pairs s row) (pairs_from (s + 1) rows) (s, v) (contains-map (λ (visitor : ℕ). (s, visitor)) row v at) in
    let is : s ≡ s + 0 = omega arith in
    subst (λ n. Contains (pairs_from s (row ∷ rows)) (n, v)) is here
in-rows s (suc i) (row ∷ rows) v at =
    let there = Contains-append_right (row_pairs s row) (pairs_from (s + 1) rows) ((s + 1) + i, v) (in-rows (s + 1) i rows v at) in
    let is : (s + 1) + i ≡ s + suc i = omega arith in
    subst (λ n. Contains (pairs_from s (row ∷ rows)) (n, v)) is there

-- a pair that is there is in its key's row
pub row-of-pair : (rows : List (List ℕ)) (k v : ℕ) → Contains (pairs_in rows) (k, v) → Contains (row_at rows k) v
row-of-pair rows k v at =
    let from = of-row 0 rows k v at in
    let is : from.0 ≡ k = omega (arith, from.1) in
    subst (λ i. Contains (row_at rows i) v) is from.2

-- and what is in a key's row is a pair that is there
pub pair-of-row : (rows : List (List ℕ)) (k v : ℕ) → Contains (row_at rows k) v → Contains (pairs_in rows) (k, v)
pair-of-row rows k v at =
    let is : 0 + k ≡ k = omega arith in
    subst (λ n. Contains (pairs_in rows) (n, v)) is (in-rows 0 k rows v at)
