-- Places in a row of cells, counted from a pair's home, round the row.
use Rattle.std.proofs.Common.{◌≡◌, ◌≢◌, ℕ, ◌+◌, ◌-◌, ◌*◌, ◌/◌, ◌^◌, ◌<◌, ◌≤◌, ◌⊎◌, inl, inr, cond, sym, ap, ◌∙◌, subst, arith, mul-le-mul_right}
use Rattle.std.proofs.lemmas.Bool.{lt-ltb, le-ltb}
use native.Mathlib.Decide.{dec_lt}
use Rattle.ga_pairs.specs.Homes.{IsPair, word_of, spread, home, round}
use Rattle.ga_pairs.specs.Pairs.{place_after}
use Rattle.ga_pairs.specs.declared.view.Pair.{Pair}

scaled : (x cells : ℕ) → x < 2 ^ 64 → 0 < cells → x / 4294967296 * cells / 4294967296 < cells
scaled x cells small more =
    let h : ℕ = x / 4294967296 in
    let upper : h ≤ 4294967295 = omega arith in
    let most : h * cells ≤ 4294967295 * cells = mul-le-mul_right cells upper in
    let t : ℕ = h * cells in
    let most' : t ≤ 4294967295 * cells = most in
    let answer : t / 4294967296 < cells = omega arith in answer

pub spread-below : (n : ℕ) → spread n < 2 ^ 64
unfolding spread
spread-below n = omega arith

pub home-below : (cells word : ℕ) → 0 < cells → home cells word < cells
unfolding home
home-below cells word more = scaled _ cells (spread-below _) more

pub same-word : (p q : Pair) → IsPair p → IsPair q → word_of p ≡ word_of q → p ≡ q
same-word p q one two e =
    let v = one.visitor in
    let w = two.visitor in
    let key : p.key ≡ q.key = omega arith in
    let visitor : p.visitor ≡ q.visitor = omega arith in
    λ i. record { key = key i; visitor = visitor i }

module _ (cells : ℕ) where
  round-cases : (at : ℕ) → ((at < cells) × (round cells at ≡ at)) ⊎ ((cells ≤ at) × (round cells at ≡ at - cells))
  round-cases at = by-order (dec_lt at cells)
    where
      by-order : Dec (at < cells) → ((at < cells) × (round cells at ≡ at)) ⊎ ((cells ≤ at) × (round cells at ≡ at - cells))
      by-order (yes less) = inl (less, ap (λ b. cond b at (at - cells)) (lt-ltb at cells less))
      by-order (no more) = inr (omega arith, ap (λ b. cond b at (at - cells)) (le-ltb at cells (omega arith)))

  pub round-below : (h k : ℕ) → h < cells → k < cells → round cells (h + k) < cells
  round-below h k within in' = by-case (round-cases (h + k))
    where
      by-case : ((h + k < cells) × (round cells (h + k) ≡ h + k)) ⊎ ((cells ≤ h + k) × (round cells (h + k) ≡ h + k - cells)) → round cells (h + k) < cells
      by-case (inl c) = omega (arith, c.0, c.1)
      by-case (inr c) = omega (arith, c.0, c.1)

  -- different numbers of steps end at different places
  pub round-one : (h j k : ℕ) → h < cells → j < cells → k < cells → round cells (h + j) ≡ round cells (h + k) → j ≡ k
  round-one h j k within in-j in-k e = by-case (round-cases (h + j)) (round-cases (h + k))
    where
      by-case : ((h + j < cells) × (round cells (h + j) ≡ h + j)) ⊎ ((cells ≤ h + j) × (round cells (h + j) ≡ h + j - cells))
          → ((h + k < cells) × (round cells (h + k) ≡ h + k)) ⊎ ((cells ≤ h + k) × (round cells (h + k) ≡ h + k - cells)) → j ≡ k
      by-case (inl c) (inl d) = omega (arith, c.0, c.1, d.0, d.1)
      by-case (inl c) (inr d) = omega (arith, c.0, c.1, d.0, d.1)
      by-case (inr c) (inl d) = omega (arith, c.0, c.1, d.0, d.1)
      by-case (inr c) (inr d) = omega (arith, c.0, c.1, d.0, d.1)

  -- each place is reached
  pub round-onto : (h i : ℕ) → h < cells → i < cells → (k : ℕ) × (k < cells) × (round cells (h + k) ≡ i)
  round-onto h i within in-i = by-order (dec_lt i h)
    where
      by-order : Dec (i < h) → (k : ℕ) × (k < cells) × (round cells (h + k) ≡ i)
      by-order (yes less) = let k : ℕ = i + cells - h in (k, omega arith, by-case (round-cases (h + k)))
        where
          by-case : ((h + (i + cells - h) < cells) × (round cells (h + (i + cells - h)) ≡ h + (i + cells - h)))
              ⊎ ((cells ≤ h + (i + cells - h)) × (round cells (h + (i + cells - h)) ≡ h + (i + cells - h) - cells)) → round cells (h + (i + cells - h)) ≡ i
          by-case (inl c) = absurd (omega (arith, c.0))
          by-case (inr c) = omega (arith, c.0, c.1)
      by-order (no more) = (i - h, omega arith, by-case (round-cases (h + (i - h))))
        where
          by-case : ((h + (i - h) < cells) × (round cells (h + (i - h)) ≡ h + (i - h)))
              ⊎ ((cells ≤ h + (i - h)) × (round cells (h + (i - h)) ≡ h + (i - h) - cells)) → round cells (h + (i - h)) ≡ i
          by-case (inl c) = omega (arith, c.0, c.1)
          by-case (inr c) = absurd (omega (arith, c.0))

  -- the next place, within the row and at its end
  pub round-next : (h k at : ℕ) → h < cells → k + 1 < cells → at ≡ round cells (h + k) → at + 1 ≢ cells → at + 1 ≡ round cells (h + (k + 1))
  round-next h k at within in-k is more = by-case (round-cases (h + k)) (round-cases (h + (k + 1)))
    where
      by-case : ((h + k < cells) × (round cells (h + k) ≡ h + k)) ⊎ ((cells ≤ h + k) × (round cells (h + k) ≡ h + k - cells))
          → ((h + (k + 1) < cells) × (round cells (h + (k + 1)) ≡ h + (k + 1))) ⊎ ((cells ≤ h + (k + 1)) × (round cells (h + (k + 1)) ≡ h + (k + 1) - cells)) → at + 1 ≡ round cells (h + (k + 1))
      by-case (inl c) (inl d) = omega (arith, c.0, c.1, d.0, d.1)
      by-case (inl c) (inr d) = absurd (omega (arith, c.0, c.1, d.0, d.1, more))
      by-case (inr c) (inl d) = absurd (omega (arith, c.0, c.1, d.0, d.1))
      by-case (inr c) (inr d) = omega (arith, c.0, c.1, d.0, d.1)

  pub round-end : (h k at : ℕ) → h < cells → k + 1 < cells → at ≡ round cells (h + k) → at + 1 ≡ cells → 0 ≡ round cells (h + (k + 1))
  round-end h k at within in-k is end = by-case (round-cases (h + k)) (round-cases (h + (k + 1)))
    where
      by-case : ((h + k < cells) × (round cells (h + k) ≡ h + k)) ⊎ ((cells ≤ h + k) × (round cells (h + k) ≡ h + k - cells))
          → ((h + (k + 1) < cells) × (round cells (h + (k + 1)) ≡ h + (k + 1))) ⊎ ((cells ≤ h + (k + 1)) × (round cells (h + (k + 1)) ≡ h + (k + 1) - cells)) → 0 ≡ round cells (h + (k + 1))
      by-case (inl c) (inl d) = absurd (omega (arith, c.0, c.1, d.0, d.1))
      by-case (inl c) (inr d) = omega (arith, c.0, c.1, d.0, d.1)
      by-case (inr c) (inl d) = absurd (omega (arith, c.0, c.1, d.0, d.1))
      by-case (inr c) (inr d) = absurd (omega (arith, c.0, c.1, d.0, d.1))

  -- the first place is the home
  pub round-start : (h : ℕ) → h < cells → round cells (h + 0) ≡ h
  round-start h within = by-case (round-cases (h + 0))
    where
      by-case : ((h + 0 < cells) × (round cells (h + 0) ≡ h + 0)) ⊎ ((cells ≤ h + 0) × (round cells (h + 0) ≡ h + 0 - cells)) → round cells (h + 0) ≡ h
      by-case (inl c) = omega (arith, c.0, c.1)
      by-case (inr c) = absurd (omega (arith, c.0))

-- what the loop of a search keeps, for the word of a pair that is told
pub place-first : (cells n at word : ℕ) (p q : Pair) → 0 < n → n ≡ cells → at ≡ home n word → word ≡ word_of q → p ≡ q → at ≡ place_after cells p 0
place-first cells n at word p q more is-cells is-home is-word told =
    let at-word : at ≡ home n (word_of p) = is-home ∙ ap (home n) (is-word ∙ ap word_of (sym told)) in
    subst (λ (c : ℕ). at ≡ place_after c p 0) is-cells (at-word ∙ sym (round-start n (home n (word_of p)) (home-below n (word_of p) more)))

pub place-below : (cells n at k : ℕ) (p : Pair) → n ≡ cells → k < cells → at ≡ place_after cells p k → at < n
place-below cells n at k p is-cells within is =
    let below = round-below cells (home cells (word_of p)) k (home-below cells (word_of p) (omega arith)) within in omega arith

pub place-next : (cells n at k : ℕ) (p : Pair) → n ≡ cells → k + 1 < cells → at ≡ place_after cells p k → at + 1 ≢ n → at + 1 ≡ place_after cells p (k + 1)
place-next cells n at k p is-cells within is more =
    round-next cells (home cells (word_of p)) k at (home-below cells (word_of p) (omega arith)) within is (λ e. more (e ∙ sym is-cells))

pub place-end : (cells n at k : ℕ) (p : Pair) → n ≡ cells → k + 1 < cells → at ≡ place_after cells p k → at + 1 ≡ n → 0 ≡ place_after cells p (k + 1)
place-end cells n at k p is-cells within is end =
    round-end cells (home cells (word_of p)) k at (home-below cells (word_of p) (omega arith)) within is (end ∙ is-cells)
