-- What many calls gave, once none of them wanted memory.
use Rattle.std.proofs.Common.{◌≡◌, ℕ, ◌<◌, List, [], ◌∷◌, length, get_or, map, refl, sym, ap, ◌∙◌, subst, arith, Result, Ok, Err, IfOk}
use Rattle.std.proofs.lemmas.List.{get_or-map, length-map, same_lists}

-- each value is what its call gave
pub gathered-each : {X E : Type 0} (P : ℕ → X → Type 0) (n : ℕ) (rs : List (Result X E)) (vs : List X) (d : X) → rs ≡ map Ok vs → length rs ≡ n
    → ((i : ℕ) (r : Result X E) → i < n → IfOk (get_or rs i r) (P i)) → (i : ℕ) → i < n → P i (get_or vs i d)
gathered-each P n rs vs d is long each i lt =
    let many : length rs ≡ length vs = ap length is ∙ length-map vs Ok in
    let same : get_or rs i (Ok d) ≡ Ok (get_or vs i d) = ap (λ (l : List (Result _ _)). get_or l i (Ok d)) is ∙ get_or-map Ok vs i d (Ok d) (omega (arith, lt, many, long)) in
    subst (λ (r : Result _ _). IfOk r (P i)) same (each i (Ok d) lt)

-- the same of an answer
pub each-of : {V X E F : Type 0} (items : V → List X) (P : ℕ → X → Type 0) (n : ℕ) (rs : List (Result X E)) (d : X) → length rs ≡ n
    → ((i : ℕ) (r : Result X E) → i < n → IfOk (get_or rs i r) (P i)) → (answer : Result V F) → IfOk answer (λ v. rs ≡ map Ok (items v))
    → IfOk answer (λ v. (i : ℕ) → i < n → P i (get_or (items v) i d))
each-of items P n rs d long each (Ok v) is = λ i lt. gathered-each P n rs (items v) d is long each i lt
each-of items P n rs d long each (Err e) is = tt

-- rows that are known place by place
pub rows-of : {V X E F A B : Type 0} (items : V → List X) (row : X → List B) (g : A → List B) (lists : List A) (none : A) (rs : List (Result X E)) → length rs ≡ length lists
    → ((i : ℕ) (r : Result X E) → i < length lists → IfOk (get_or rs i r) (λ x. row x ≡ g (get_or lists i none))) → (answer : Result V F) → IfOk answer (λ v. rs ≡ map Ok (items v))
    → IfOk answer (λ v. map row (items v) ≡ map g lists)
rows-of items row g lists none rs long each (Err e) is = tt
rows-of items row g lists none rs long each (Ok v) is =
    let many : length rs ≡ length (items v) = ap length is ∙ length-map (items v) Ok in
    same_lists (map row (items v)) (map g lists) (omega (arith, many, long, length-map (items v) row, length-map lists g)) (λ k d lt.
    let within : k < length (items v) = omega (arith, lt, length-map (items v) row) in
    let inside : k < length lists = omega (arith, within, many, long) in
    by k d within inside)
  where
    by : (k : ℕ) (d : List _) → k < length (items v) → k < length lists → get_or (map row (items v)) k d ≡ get_or (map g lists) k d
    by k d within inside = at (items v) refl within
      where
        at : (xs : List _) → items v ≡ xs → k < length xs → get_or (map row (items v)) k d ≡ get_or (map g lists) k d
        at [] e lt = absurd (omega arith)
        at (x ∷ xs) e lt =
            get_or-map row (items v) k x d within
            ∙ gathered-each (λ i y. row y ≡ g (get_or lists i none)) (length lists) rs (items v) x is long each k inside
            ∙ sym (get_or-map g lists k none d inside)
