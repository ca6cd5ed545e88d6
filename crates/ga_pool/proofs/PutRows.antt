-- Rows of sums put under numbers that are apart.
use Rattle.std.proofs.Common.{◌≡◌, ℕ, suc, ◌+◌, ◌*◌, ◌<◌, ◌≤◌, max, List, [], ◌∷◌, ◌++◌, length, take, get_or, refl, ap, ◌∙◌, arith, length-take}
use Rattle.std.proofs.lemmas.List.{take_more}
use Rattle.std.proofs.lemmas.Bool.Decides.{nat_tests}
use Rattle.ga_base.specs.declared.counts.Sums.{Sums}
use Rattle.ga_counts.specs.Counts.{tally_at}
use Rattle.ga_counts.specs.declared.view.CountView.{CountView}
use Rattle.ga_pool.specs.Steps.Filling.{CanAdd, Gains, IsBlank, added_at, at_place, at_word, raised_to}

added-none : (word : ℕ) (numbers : List ℕ) → added_at word numbers [] ≡ 0
added-none word [] = refl
added-none word (k ∷ numbers) = refl

raised-none : (place : ℕ) (numbers : List ℕ) → raised_to place numbers [] ≡ 0
raised-none place [] = refl
raised-none place (k ∷ numbers) = refl

-- one row more
added-push : (word : ℕ) (row : Sums) (numbers : List ℕ) (rows : List Sums) → length rows < length numbers
    → added_at word numbers (rows ++ row ∷ []) ≡ added_at word numbers rows + at_word word (get_or numbers (length rows) 0) row
added-push word row [] rows lt = absurd (omega arith)
added-push word row (k ∷ numbers) [] lt = omega (arith, added-none word numbers)
added-push word row (k ∷ numbers) (r ∷ rows) lt = omega (arith, added-push word row numbers rows (omega arith))

raised-push : (place : ℕ) (row : Sums) (numbers : List ℕ) (rows : List Sums) → length rows < length numbers
    → raised_to place numbers (rows ++ row ∷ []) ≡ max (raised_to place numbers rows) (at_place place (get_or numbers (length rows) 0) row)
raised-push place row [] rows lt = absurd (omega arith)
raised-push place row (k ∷ numbers) [] lt = omega (arith, raised-none place numbers)
raised-push place row (k ∷ numbers) (r ∷ rows) lt = omega (arith, raised-push place row numbers rows (omega arith))

-- a word of another number
pub at-other : (word k j x : ℕ) (sums : Sums) → word ≡ 3 * k + j → j < 3 → (x ≡ k → ⊥) → at_word word x sums ≡ 0
at-other word k j x sums is lt other = grind (arith, nat_tests)

-- to a word of a number that none of the rows has, they add nothing
pub added-absent : (word k j : ℕ) → word ≡ 3 * k + j → j < 3 → (numbers : List ℕ) (rows : List Sums) → ((i : ℕ) → i < length rows → get_or numbers i 0 ≡ k → ⊥) → added_at word numbers rows ≡ 0
added-absent word k j is lt [] rows none = refl
added-absent word k j is lt (x ∷ numbers) [] none = refl
added-absent word k j is lt (x ∷ numbers) (r ∷ rows) none =
    omega (arith, at-other word k j x r is lt (none 0 (omega arith)), added-absent word k j is lt numbers rows (λ i within same. none (suc i) (omega arith) same))

module _ (keys allowance : ℕ) (numbers : List ℕ) (rows : List Sums) (can : CanAdd keys allowance numbers rows) (i : ℕ) (within : i < length rows) where
  long : length (take i rows) ≡ i
  long = omega (arith, length-take i rows)

  -- nothing was added to the words of the next number
  pub none-yet : (word j : ℕ) → word ≡ 3 * get_or numbers i 0 + j → j < 3 → added_at word numbers (take i rows) ≡ 0
  none-yet word j is lt = added-absent word (get_or numbers i 0) j is lt numbers (take i rows) (λ n before same.
      let e = can.apart n i (omega (arith, before, long, within)) within same in
      omega (arith, e, before, long))

  -- the next row
  pub added-next : (word : ℕ) (d : Sums) → added_at word numbers (take (i + 1) rows) ≡ added_at word numbers (take i rows) + at_word word (get_or numbers i 0) (get_or rows i d)
  added-next word d =
      ap (added_at word numbers) (take_more rows i d within) ∙ added-push word (get_or rows i d) numbers (take i rows) (omega (arith, long, within, can.many))
      ∙ ap (λ (n : ℕ). added_at word numbers (take i rows) + at_word word (get_or numbers n 0) (get_or rows i d)) long

  pub raised-next : (place : ℕ) (d : Sums) → raised_to place numbers (take (i + 1) rows) ≡ max (raised_to place numbers (take i rows)) (at_place place (get_or numbers i 0) (get_or rows i d))
  raised-next place d =
      ap (raised_to place numbers) (take_more rows i d within) ∙ raised-push place (get_or rows i d) numbers (take i rows) (omega (arith, long, within, can.many))
      ∙ ap (λ (n : ℕ). max (raised_to place numbers (take i rows)) (at_place place (get_or numbers n 0) (get_or rows i d))) long

  -- what is added next is within the allowance
  pub room : (old now : CountView) (words places word j amount : ℕ) → IsBlank words places old → Gains old now (λ w. added_at w numbers (take i rows)) (λ p. raised_to p numbers (take i rows))
      → old.allowance ≡ allowance → word ≡ 3 * get_or numbers i 0 + j → j < 3 → amount ≤ allowance → tally_at word now + amount ≤ now.allowance
  room old now words places word j amount blank gains same is lt small =
      omega (arith, gains.tallies word, blank.tallies word, none-yet word j is lt, gains.allowance, same, small)

  -- the next row was put in
  pub gains-next : (old now new : CountView) (k : ℕ) (d : Sums) → get_or numbers i 0 ≡ k → Gains old now (λ w. added_at w numbers (take i rows)) (λ p. raised_to p numbers (take i rows))
      → Gains now new (λ w. at_word w k (get_or rows i d)) (λ p. at_place p k (get_or rows i d)) → Gains old new (λ w. added_at w numbers (take (i + 1) rows)) (λ p. raised_to p numbers (take (i + 1) rows))
  gains-next old now new k d is before more = record {
    share = more.share ∙ before.share;
    allowance = more.allowance ∙ before.allowance;
    words = more.words ∙ before.words;
    places = more.places ∙ before.places;
    tallies = λ word. omega (arith, more.tallies word, before.tallies word, added-next word d, ap (λ (n : ℕ). at_word word n (get_or rows i d)) is);
    peaks = λ place. omega (arith, more.peaks place, before.peaks place, raised-next place d, ap (λ (n : ℕ). at_place place n (get_or rows i d)) is);
  }

take-none : (rows : List Sums) → take 0 rows ≡ []
take-none [] = refl
take-none (r ∷ rows) = refl

-- nothing was put in yet
pub gains-none : (v : CountView) (numbers : List ℕ) (rows : List Sums) → Gains v v (λ w. added_at w numbers (take 0 rows)) (λ p. raised_to p numbers (take 0 rows))
gains-none v numbers rows = record {
  share = refl;
  allowance = refl;
  words = refl;
  places = refl;
  tallies = λ word. omega (arith, ap (added_at word numbers) (take-none rows), added-none word numbers);
  peaks = λ place. omega (arith, ap (raised_to place numbers) (take-none rows), raised-none place numbers);
}
