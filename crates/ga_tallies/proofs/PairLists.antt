-- Lists that are read as sets, and rows of visitors in which one more was put.
use Rattle.std.proofs.Common.{◌≡◌, ◌≢◌, ℕ, ◌+◌, ◌<◌, ◌==◌, ◌⊎◌, zero, suc, inl, inr, List, [], ◌∷◌, ◌++◌, get_or, set, take, length, Option, Some, IfSome, refl, sym, ap, ◌∙◌, subst, arith, eq-eqb, ⊎_elim}
use Rattle.std.specs.Prelude.{slice_set}
use Rattle.std.specs.List.{Contains, dedup}
use Rattle.std.specs.List.Sorted.{IsPermutation}
use Rattle.std.proofs.lemmas.Bool.{eqb-true, cases_eq}
use Rattle.std.proofs.lemmas.List.{get_or-set_same, get_or-set_other, get_or-map, length-map, length-take, map-set, map_push, take_more, append-nil, append_assoc}
use Rattle.std.proofs.lemmas.List.Elements.{All-set, All-weaker, Contains-append_left, Contains-push, Contains-push_cases}
use Rattle.std.proofs.lemmas.List.Kept.{Contains-dedup, Contains-from_dedup}
use Rattle.std.proofs.lemmas.List.Sorted.{Contains-permutation, IsPermutation-sym}
use Rattle.std.proofs.lemmas.Option.{IfSome_then}
use Rattle.smallvec.specs.SmallVec.{SmallVec}
use Rattle.ga_tallies.specs.Steps.Adding.{AddsOne, AreThere, HoldTheSame, KeepsAll}
use Rattle.ga_tallies.specs.Tallies.{lists_in, pair_of, pairs_from, pairs_in, row_pairs}
use Rattle.ga_tallies.specs.declared.pairs.Pair.{Pair}
use Rattle.ga_tallies.proofs.PairRows.{row_at, row-of-pair, pair-of-row}
use Rattle.ga_numbers.proofs.Same.{exact-laws}

-- numbers of which the same are one hold the same as before
pub equals-dropped : (xs ys : List ℕ) → IsPermutation xs ys → HoldTheSame xs (dedup (λ a b. a == b) ys)
equals-dropped xs ys remapped = record {
  kept = λ x at. Contains-dedup (exact-laws (λ a b. a == b) (λ a. eq-eqb a a refl) eqb-true) eqb-true ys x (Contains-permutation xs ys x remapped at);
  only = λ x at. Contains-permutation ys xs x (IsPermutation-sym xs ys remapped) (Contains-from_dedup (λ a b. a == b) ys x at);
}

pub holds-itself : {T : Type 0} (xs : List T) → HoldTheSame xs xs
holds-itself xs = record { kept = λ x at. at; only = λ x at. at }

pub holds-after : {T : Type 0} (xs ys zs : List T) → HoldTheSame xs ys → HoldTheSame ys zs → HoldTheSame xs zs
holds-after xs ys zs one two = record { kept = λ x at. two.kept x (one.kept x at); only = λ x at. one.only x (two.only x at) }

pub one-added : {T : Type 0} (old mid : List T) (x : T) → HoldTheSame old mid → AddsOne x old (mid ++ x ∷ [])
one-added old mid x same = record {
  kept = λ y at. Contains-append_left mid (x ∷ []) y (same.kept y at);
  there = Contains-push mid x;
  only = λ y at. ⊎_elim (λ there. inl (same.only y there)) (λ it. inr it) (Contains-push_cases mid x y at);
}

-- what is there comes to no others
pub already-there : {T : Type 0} (old : List T) (x : T) → Contains old x → AddsOne x old old
already-there old x at = record { kept = λ y there. there; there = at; only = λ y there. inl there }

-- what came to lists that hold the same
pub added-after : {T : Type 0} (old mid new : List T) (x : T) → HoldTheSame old mid → AddsOne x mid new → AddsOne x old new
added-after old mid new x same adds = record {
  kept = λ y at. adds.kept y (same.kept y at);
  there = adds.there;
  only = λ y at. ⊎_elim (λ there. inl (same.only y there)) (λ it. inr it) (adds.only y at);
}

-- pairs that are among others stay there where all of those are kept
pub still-there : (old new : List (ℕ × ℕ)) (places : List (Option Pair)) → KeepsAll old new → AreThere old places → AreThere new places
still-there old new places kept =
    All-weaker (λ place. IfSome place (λ pair. Contains old (pair_of pair))) (λ place. IfSome place (λ pair. Contains new (pair_of pair)))
    (λ place at. IfSome_then place at (λ pair there. kept (pair_of pair) there)) places

-- a pair that is there now, and was put at a place
pub put-there : (old new : List (ℕ × ℕ)) (pair : Pair) (made places : List (Option Pair)) (place : ℕ) → AddsOne (pair_of pair) old new → places ≡ slice_set made place (Some pair)
    → AreThere old made → AreThere new places
put-there old new pair made places place adds put are = subst (AreThere new) (sym put) (All-set there made place (Some pair) adds.there (still-there old new made adds.kept are))
  where
    there : Option Pair → Type 0
    there one = IfSome one (λ pair. Contains new (pair_of pair))

-- ---- rows

pub both-numbers : (k j v w : ℕ) → k ≡ j → v ≡ w → ◌≡◌ {A = ℕ × ℕ} (k, v) (j, w)
both-numbers k j v w e f = λ i. (e i, f i)

module _ (rows : List (List ℕ)) (k : ℕ) (row : List ℕ) where
  abbrev pub after : List (List ℕ)
  after = set rows k row

  other-row : (j : ℕ) → j ≢ k → row_at after j ≡ row_at rows j
  other-row j apart = get_or-set_other rows k j row [] apart

  -- what a row keeps, the pairs keep
  pub row-kept : k < length rows → KeepsAll (row_at rows k) row → KeepsAll (pairs_in rows) (pairs_in after)
  row-kept within kept (j, v) at = pair-of-row after j v (⊎_elim same other (cases_eq j k))
    where
      was : Contains (row_at rows j) v
      was = row-of-pair rows j v at

      same : j ≡ k → Contains (row_at after j) v
      same e =
          let here : row_at after k ≡ row = get_or-set_same rows k row [] within in
          let now : Contains row v = kept v (subst (λ n. Contains (row_at rows n) v) e was) in
          subst (λ (l : List ℕ). Contains l v) (sym (ap (row_at after) e ∙ here)) now

      other : j ≢ k → Contains (row_at after j) v
      other apart = subst (λ (l : List ℕ). Contains l v) (sym (other-row j apart)) was

  -- a visitor came to the row, and so a pair to the others
  pub row-added : (v : ℕ) → k < length rows → AddsOne v (row_at rows k) row → AddsOne (k, v) (pairs_in rows) (pairs_in after)
  row-added v within adds = record { kept = row-kept within adds.kept; there = pair-of-row after k v (subst (λ (l : List ℕ). Contains l v) (sym here) adds.there); only = only }
    where
      here : row_at after k ≡ row
      here = get_or-set_same rows k row [] within

      only : (p : ℕ × ℕ) → Contains (pairs_in after) p → Contains (pairs_in rows) p ⊎ ((k, v) ≡ p)
      only (j, w) at = ⊎_elim same other (cases_eq j k)
        where
          now : Contains (row_at after j) w
          now = row-of-pair after j w at

          same : j ≡ k → Contains (pairs_in rows) (j, w) ⊎ ◌≡◌ {A = ℕ × ℕ} (k, v) (j, w)
          same e =
              let new : Contains row w = subst (λ (l : List ℕ). Contains l w) (ap (row_at after) e ∙ here) now in
              ⊎_elim
              (λ was. inl (pair-of-row rows j w (subst (λ n. Contains (row_at rows n) w) (sym e) was)))
              (λ it. inr (both-numbers k j v w (sym e) it))
              (adds.only w new)

          other : j ≢ k → Contains (pairs_in rows) (j, w) ⊎ ◌≡◌ {A = ℕ × ℕ} (k, v) (j, w)
          other apart = inl (pair-of-row rows j w (subst (λ (l : List ℕ). Contains l w) (other-row j apart) now))

one-more : (rows : List (List ℕ)) (k : ℕ) → row_at (rows ++ [] ∷ []) k ≡ row_at rows k
one-more [] zero = refl
one-more [] (suc k) = refl
one-more (row ∷ rows) zero = refl
one-more (row ∷ rows) (suc k) = one-more rows k

-- a row with nothing in it adds no pair
pub empty-pushed : (rows : List (List ℕ)) → HoldTheSame (pairs_in rows) (pairs_in (rows ++ [] ∷ []))
empty-pushed rows = record {
  kept = λ (k, v) at. pair-of-row (rows ++ [] ∷ []) k v (subst (λ (l : List ℕ). Contains l v) (sym (same k)) (row-of-pair rows k v at));
  only = λ (k, v) at. pair-of-row rows k v (subst (λ (l : List ℕ). Contains l v) (same k) (row-of-pair (rows ++ [] ∷ []) k v at));
}
  where
    same : (k : ℕ) → row_at (rows ++ [] ∷ []) k ≡ row_at rows k
    same = one-more rows

-- ---- rows as they are kept

pub at-row : (rows : List (SmallVec ℕ)) (k : ℕ) (row : SmallVec ℕ) → k < length rows → row ≡ get_or rows k row → row_at (lists_in rows) k ≡ row.items
at-row rows k row within is = get_or-map (λ (r : SmallVec ℕ). r.items) rows k row [] within ∙ ap (λ (r : SmallVec ℕ). r.items) (sym is)

pub lists-set : (rows : List (SmallVec ℕ)) (k : ℕ) (new : SmallVec ℕ) → lists_in (set rows k new) ≡ set (lists_in rows) k new.items
lists-set rows k new = map-set (λ (r : SmallVec ℕ). r.items) rows k new

-- a row was written in the place of another, and keeps what that one had
pub written-kept : (rows : List (SmallVec ℕ)) (k : ℕ) (row new : SmallVec ℕ) → k < length rows → row ≡ get_or rows k row → KeepsAll row.items new.items
    → KeepsAll (pairs_in (lists_in rows)) (pairs_in (lists_in (set rows k new)))
written-kept rows k row new within is kept =
    let long : k < length (lists_in rows) = omega (arith, within, length-map rows (λ (r : SmallVec ℕ). r.items)) in
    let from : KeepsAll (row_at (lists_in rows) k) new.items = subst (λ (l : List ℕ). KeepsAll l new.items) (sym (at-row rows k row within is)) kept in
    subst (λ (l : List (List ℕ)). KeepsAll (pairs_in (lists_in rows)) (pairs_in l)) (sym (lists-set rows k new)) (row-kept (lists_in rows) k new.items long from)

-- and one visitor more
pub written-added : (rows : List (SmallVec ℕ)) (k v : ℕ) (row new : SmallVec ℕ) → k < length rows → row ≡ get_or rows k row → AddsOne v row.items new.items
    → AddsOne (k, v) (pairs_in (lists_in rows)) (pairs_in (lists_in (set rows k new)))
written-added rows k v row new within is adds =
    let long : k < length (lists_in rows) = omega (arith, within, length-map rows (λ (r : SmallVec ℕ). r.items)) in
    let from : AddsOne v (row_at (lists_in rows) k) new.items = subst (λ (l : List ℕ). AddsOne v l new.items) (sym (at-row rows k row within is)) adds in
    subst (λ (l : List (List ℕ)). AddsOne (k, v) (pairs_in (lists_in rows)) (pairs_in l)) (sym (lists-set rows k new)) (row-added (lists_in rows) k new.items v long from)

-- ---- the pairs of one row more

-- the pairs of some rows, and those of the rows after them
pub pairs-append : (s : ℕ) (rows more : List (List ℕ)) → pairs_from s (rows ++ more) ≡ pairs_from s rows ++ pairs_from (s + length rows) more
pairs-append s [] more = let is : s ≡ s + 0 = omega arith in ap (λ n. pairs_from n more) is
pairs-append s (row ∷ rows) more =
    let is : (s + 1) + length rows ≡ s + suc (length rows) = omega arith in
    ap (λ l. row_pairs s row ++ l) (pairs-append (s + 1) rows more ∙ ap (λ n. pairs_from (s + 1) rows ++ pairs_from n more) is)
    ∙ sym (append_assoc (row_pairs s row) (pairs_from (s + 1) rows) (pairs_from (s + suc (length rows)) more))

-- the pairs of the first rows, and those of the next
pub next-row : (rows : List (SmallVec ℕ)) (k : ℕ) (d : SmallVec ℕ) → k < length rows
    → pairs_in (lists_in (take (k + 1) rows)) ≡ pairs_in (lists_in (take k rows)) ++ row_pairs k (get_or rows k d).items
next-row rows k d within =
    let row = get_or rows k d in
    let more : lists_in (take (k + 1) rows) ≡ lists_in (take k rows) ++ row.items ∷ [] = ap lists_in (take_more rows k d within) ∙ map_push (λ (r : SmallVec ℕ). r.items) (take k rows) row in
    let long : 0 + length (lists_in (take k rows)) ≡ k = omega (arith, length-map (take k rows) (λ (r : SmallVec ℕ). r.items), length-take k rows, within) in
    ap pairs_in more ∙ pairs-append 0 (lists_in (take k rows)) (row.items ∷ [])
    ∙ (λ i. pairs_in (lists_in (take k rows)) ++ append-nil (row_pairs (long i) row.items) i)
