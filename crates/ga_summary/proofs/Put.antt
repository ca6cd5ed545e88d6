-- An item is put into a list that rises by its items' keys: in its place, or joined to the item that has its key.
use Rattle.std.proofs.Common.{◌≡◌, ℕ, zero, suc, ◌+◌, ◌<◌, Result, Ok, Err, MatchResult, add_comm, Bool, true, false, cond, List, [], ◌∷◌, Option, Some, None, Less, Equal, Greater, length, get_or, set, map, refl, sym, ap, ◌∙◌, subst, arith}
use Rattle.std.specs.declared.cmp.Ordering.{Ordering}
use Rattle.std.specs.Ordering.{is_eq, is_lt, match_ordering, ordering_reverse}
use Rattle.std.specs.Cmp.{IsTotalOrder}
use Rattle.std.specs.Option.{option_map}
use Rattle.std.specs.List.{AllByRecursion, find, sum_by, insert}
use Rattle.std.specs.List.Sorted.{IsStrictlySortedBy, IsSearchInRange, IsBinarySearchResult}
use Rattle.ga_summary.specs.Steps.Places.{find_at, Rises, StandsAt, GoesTo, put, put_all}
use Rattle.std.proofs.lemmas.List.{length-map}
use Rattle.std.proofs.lemmas.Bool.{false≢true}
use Rattle.std.proofs.lemmas.List.Sums.{sum_by-cons}
use Rattle.std.proofs.lemmas.List.Sorted.{searchable_from_sorted}
use Rattle.std.proofs.lemmas.Cmp.{alike_right, tied_back}

pub Some≢None : {X : Type 0} {x : X} → Some x ≡ None → ⊥
Some≢None e = cc

pub Less≢Equal : Less ≡ Equal → ⊥
Less≢Equal e = cc

Greater≢Equal : Greater ≡ Equal → ⊥
Greater≢Equal e = cc

-- what is there at a key, once an item came to what was there
abbrev pub joined_to : {X : Type 0} → (X → X → X) → Option X → X → X
joined_to join None y = y
joined_to join (Some x) y = join x y

-- what two lists have at a key together
abbrev pub both_at : {X : Type 0} → (X → X → X) → Option X → Option X → Option X
both_at join None y = y
both_at join (Some x) None = Some x
both_at join (Some x) (Some y) = Some (join x y)

module _ {X K : Type 0} (R : K → K → Ordering) (key : X → K) where
  -- every item's key is above k
  abbrev pub Above : K → List X → Type 0
  Above k xs = AllByRecursion (λ y. R k y ≡ Less) (map key xs)

  pub rises_none : Rises R key []
  unfolding IsStrictlySortedBy
  rises_none = tt

  pub rises_head : (x : X) (xs : List X) → Rises R key (x ∷ xs) → Above (key x) xs
  unfolding IsStrictlySortedBy
  rises_head x xs s = s.0

  pub rises_tail : (x : X) (xs : List X) → Rises R key (x ∷ xs) → Rises R key xs
  unfolding IsStrictlySortedBy
  rises_tail x xs s = s.1

  pub rises_cons : (x : X) (xs : List X) → Above (key x) xs → Rises R key xs → Rises R key (x ∷ xs)
  unfolding IsStrictlySortedBy
  rises_cons x xs a s = (a, s)

cond_twice : {A : Type 0} (b : Bool) (u v w : A) → cond b u w ≡ cond b u (cond b v w)
cond_twice true u v w = refl
cond_twice false u v w = refl

cond_swap : {A : Type 0} (a b : Bool) (u v w : A) → (a ≡ true → b ≡ true → ⊥) → cond a u (cond b v w) ≡ cond b v (cond a u w)
cond_swap true true u v w apart = absurd (apart refl refl)
cond_swap true false u v w apart = refl
cond_swap false b u v w apart = refl

both_at_none : {X : Type 0} (join : X → X → X) (x : Option X) → both_at join x None ≡ x
both_at_none join None = refl
both_at_none join (Some x) = refl

both_at_some : {X : Type 0} (join : X → X → X) (x : Option X) (y : X) → both_at join (Some (joined_to join x y)) None ≡ both_at join x (Some y)
both_at_some join None y = refl
both_at_some join (Some x) y = refl

pub equal_from_is_eq : (v : Ordering) → is_eq v ≡ true → v ≡ Equal
equal_from_is_eq Less e = absurd (false≢true e)
equal_from_is_eq Equal e = refl
equal_from_is_eq Greater e = absurd (false≢true e)

module _ {X K : Type 0} (R : K → K → Ordering) (o : IsTotalOrder R) (key : X → K) where
  pub above_more : (k l : K) (xs : List X) → R k l ≡ Less → Above R key l xs → Above R key k xs
  above_more k l [] e a = tt
  above_more k l (x ∷ xs) e a = (o.trans _ _ _ e a.0, above_more k l xs e a.1)

  pub above_same : (k l : K) (xs : List X) → R k l ≡ Equal → Above R key l xs → Above R key k xs
  above_same k l [] e a = tt
  above_same k l (x ∷ xs) e a = (o.congr k l (key x) e ∙ a.0, above_same k l xs e a.1)

  -- a key that is below all is not there
  pub find_above : (k : K) (xs : List X) → Above R key k xs → find_at R key k xs ≡ None
  find_above k [] a = refl
  find_above k (x ∷ xs) a = rw (a.0) (find_above k xs a.1)

  -- keys that compare as equal find the same
  pub find_same : (k l : K) (xs : List X) → R k l ≡ Equal → find_at R key k xs ≡ find_at R key l xs
  find_same k l [] e = refl
  find_same k l (x ∷ xs) e = rw (o.congr k l (key x) e, find_same k l xs e)

  turned : (k l : K) → R k l ≡ Greater → R l k ≡ Less
  turned k l e = o.antisymm l k ∙ ap ordering_reverse e

  apart : (q : K) (x y : X) → R (key y) (key x) ≡ Greater → is_eq (R q (key x)) ≡ true → is_eq (R q (key y)) ≡ true → ⊥
  apart q x y e a b =
      let to_x : R q (key x) ≡ Equal = equal_from_is_eq _ a in
      let to_y : R q (key y) ≡ Equal = equal_from_is_eq _ b in
      Greater≢Equal (sym e ∙ sym (o.congr q (key y) (key x) to_y) ∙ to_x)

  module _ (join : X → X → X) (keeps : (x y : X) → key (join x y) ≡ key x) where
    above_put : (k : K) (y : X) (xs : List X) → R k (key y) ≡ Less → Above R key k xs → Above R key k (put R key join y xs)
    above_put k y [] e a = (e, tt)
    above_put k y (x ∷ xs) e a =
        elim (R (key y) (key x)) as (λ v. Above R key k (match_ordering v (y ∷ x ∷ xs) (join x y ∷ xs) (x ∷ put R key join y xs))) [
          | Less ↦ (e, a)
          | Equal ↦ (rw (keeps x y) a.0, a.1)
          | Greater ↦ (a.0, above_put k y xs e a.1)
        ]

    -- the keys still rise
    pub rises_put : (y : X) (xs : List X) → Rises R key xs → Rises R key (put R key join y xs)
    rises_put y [] s = rises_cons R key y [] tt s
    rises_put y (x ∷ xs) s =
        let above = rises_head R key x xs s in
        let rest = rises_tail R key x xs s in
        elim (R (key y) (key x)) as (λ v. R (key y) (key x) ≡ v → Rises R key (match_ordering v (y ∷ x ∷ xs) (join x y ∷ xs) (x ∷ put R key join y xs))) [
          | Less ↦ λ e. rises_cons R key y (x ∷ xs) (e, above_more _ _ xs e above) s
          | Equal ↦ λ e. rises_cons R key (join x y) xs (rw (keeps x y) above) rest
          | Greater ↦ λ e. rises_cons R key x (put R key join y xs) (above_put (key x) y xs (turned _ _ e) above) (rises_put y xs rest)
        ] refl

    -- what is found at each key
    pub find_put : (q : K) (y : X) (xs : List X) → Rises R key xs → find_at R key q (put R key join y xs) ≡ cond (is_eq (R q (key y))) (Some (joined_to join (find_at R key (key y) xs) y)) (find_at R key q xs)
    find_put q y [] s = refl
    find_put q y (x ∷ xs) s =
        let none : Above R key (key y) (x ∷ xs) → find_at R key (key y) (x ∷ xs) ≡ None = find_above (key y) (x ∷ xs) in
        let above = rises_head R key x xs s in
        let rest = find_put q y xs (rises_tail R key x xs s) in
        elim (R (key y) (key x)) as (λ v. R (key y) (key x) ≡ v → find_at R key q (match_ordering v (y ∷ x ∷ xs) (join x y ∷ xs) (x ∷ put R key join y xs)) ≡ cond (is_eq (R q (key y))) (Some (joined_to join (cond (is_eq v) (Some x) (find_at R key (key y) xs)) y)) (find_at R key q (x ∷ xs))) [
          | Less ↦ λ e. rw (find_above (key y) xs (above_more _ _ xs e above))
          | Equal ↦ λ e. rw (keeps x y, ← alike_right o (key y) (key x) q e) (cond_twice (is_eq (R q (key y))) _ _ _)
          | Greater ↦ λ e. rw rest (cond_swap (is_eq (R q (key x))) (is_eq (R q (key y))) _ _ _ (λ a b. apart q x y e a b))
        ] refl

    -- what the items weigh together, where a joined item weighs what both do
    pub sum_by-put : (w : X → ℕ) (y : X) (adds : (x : X) → R (key y) (key x) ≡ Equal → w (join x y) ≡ w x + w y) → (xs : List X) → sum_by w (put R key join y xs) ≡ sum_by w xs + w y
    sum_by-put w y adds [] = omega (arith, sum_by-cons w y [])
    sum_by-put w y adds (x ∷ xs) =
        elim (R (key y) (key x)) as (λ v. R (key y) (key x) ≡ v → sum_by w (match_ordering v (y ∷ x ∷ xs) (join x y ∷ xs) (x ∷ put R key join y xs)) ≡ sum_by w (x ∷ xs) + w y) [
          | Less ↦ λ e. rw (sum_by-cons w y (x ∷ xs)) (add_comm (w y) (sum_by w (x ∷ xs)))
          | Equal ↦ λ e. let h = adds x e in rw (sum_by-cons w (join x y) xs, sum_by-cons w x xs) (omega arith)
          | Greater ↦ λ e. let h = sum_by-put w y adds xs in rw (sum_by-cons w x (put R key join y xs), sum_by-cons w x xs) (omega arith)
        ] refl

    pub rises_put_all : (ys xs : List X) → Rises R key xs → Rises R key (put_all R key join ys xs)
    rises_put_all [] xs s = s
    rises_put_all (y ∷ ys) xs s = rises_put_all ys (put R key join y xs) (rises_put y xs s)

    -- what is found at each key after one list came to the other
    pub find_put_all : (q : K) (ys xs : List X) → Rises R key ys → Rises R key xs → find_at R key q (put_all R key join ys xs) ≡ both_at join (find_at R key q xs) (find_at R key q ys)
    find_put_all q [] xs t s = sym (both_at_none join (find_at R key q xs))
    find_put_all q (y ∷ ys) xs t s =
        let rest = find_put_all q ys (put R key join y xs) (rises_tail R key y ys t) (rises_put y xs s) in
        let one = find_put q y xs s in
        let above = rises_head R key y ys t in
        rw (rest, one) (elim (R q (key y)) as (λ v. R q (key y) ≡ v → both_at join (cond (is_eq v) (Some (joined_to join (find_at R key (key y) xs) y)) (find_at R key q xs)) (find_at R key q ys) ≡ both_at join (find_at R key q xs) (cond (is_eq v) (Some y) (find_at R key q ys))) [
          | Less ↦ λ e. refl
          | Equal ↦ λ e. rw (find_above q ys (above_same q (key y) ys e above), find_same q (key y) xs e) (both_at_some join (find_at R key (key y) xs) y)
          | Greater ↦ λ e. refl
        ] refl)

    pub sum_by-put_all : (w : X → ℕ) (adds : (x y : X) → R (key y) (key x) ≡ Equal → w (join x y) ≡ w x + w y) → (ys xs : List X) → sum_by w (put_all R key join ys xs) ≡ sum_by w xs + sum_by w ys
    sum_by-put_all w adds [] xs = omega arith
    sum_by-put_all w adds (y ∷ ys) xs =
        let rest = sum_by-put_all w adds ys (put R key join y xs) in
        let one = sum_by-put w y (λ x. adds x y) xs in
        let both = sum_by-cons w y ys in
        omega arith

  -- an item before another is below it
  pub rises_less : (xs : List X) (i j : ℕ) (d : X) → Rises R key xs → i < j → j < length xs → R (key (get_or xs i d)) (key (get_or xs j d)) ≡ Less
  rises_less [] i j d s lt within = absurd (omega arith)
  rises_less (x ∷ xs) i zero d s lt within = absurd (omega arith)
  rises_less (x ∷ xs) zero (suc j) d s lt within = above_get (key x) xs j d (omega arith) (rises_head R key x xs s)
    where
      above_get : (k : K) (xs : List X) (j : ℕ) (d : X) → j < length xs → Above R key k xs → R k (key (get_or xs j d)) ≡ Less
      above_get k [] j d lt a = absurd (omega arith)
      above_get k (x ∷ xs) zero d lt a = a.0
      above_get k (x ∷ xs) (suc j) d lt a = above_get k xs j d (omega arith) a.1
  rises_less (x ∷ xs) (suc i) (suc j) d s lt within = rises_less xs i j d (rises_tail R key x xs s) (omega arith) (omega arith)

  -- what a binary search of rising items answers
  pub searched : (k : K) (xs : List X) (r : Result ℕ ℕ) → Rises R key xs → IsSearchInRange r (length xs) → IsBinarySearchResult (λ x. R (key x) k) xs r → MatchResult r (StandsAt R key k xs) (GoesTo R key k xs)
  searched k xs (Ok i) s within equal = record {
    within = within;
    before = λ j d lt. o.antisymm _ _ ∙ ap ordering_reverse (sym (alike_right o _ _ _ (equal d)) ∙ rises_less xs j i d s lt within);
    here = λ d. tied_back o _ _ (equal d);
  }
  searched k xs (Err i) s within parted =
      let parts = parted (searchable_from_sorted o key xs k (λ n d low high. ap is_lt (o.antisymm _ _ ∙ ap ordering_reverse (rises_less xs n (n + 1) d s (omega arith) high)))) in
      record {
        within = within;
        before = λ j d lt. o.antisymm _ _ ∙ ap ordering_reverse (parts.0 j d (omega arith) lt);
        after = λ d lt. o.antisymm _ _ ∙ ap ordering_reverse (parts.1 i d (omega arith) lt);
      }

  pub stands_tail : (k : K) (x : X) (xs : List X) (i : ℕ) → StandsAt R key k (x ∷ xs) (suc i) → StandsAt R key k xs i
  stands_tail k x xs i h = record { within = omega (arith, h.within); before = λ j d lt. h.before (suc j) d (omega arith); here = h.here }

  goes_tail : (k : K) (x : X) (xs : List X) (i : ℕ) → GoesTo R key k (x ∷ xs) (suc i) → GoesTo R key k xs i
  goes_tail k x xs i h = record { within = omega (arith, h.within); before = λ j d lt. h.before (suc j) d (omega arith); after = λ d lt. h.after d (omega arith) }

  pub find_stands : (k : K) (xs : List X) (i : ℕ) (d : X) → StandsAt R key k xs i → find_at R key k xs ≡ Some (get_or xs i d)
  find_stands k [] i d h = absurd (omega (arith, h.within))
  find_stands k (x ∷ xs) zero d h = rw (h.here d)
  find_stands k (x ∷ xs) (suc i) d h = rw (h.before 0 d (omega arith)) (find_stands k xs i d (stands_tail k x xs i h))

  pub find_goes : (k : K) (xs : List X) (i : ℕ) → Rises R key xs → GoesTo R key k xs i → find_at R key k xs ≡ None
  find_goes k [] i s h = refl
  find_goes k (x ∷ xs) zero s h = find_above k (x ∷ xs) (h.after x (omega arith), above_more k (key x) xs (h.after x (omega arith)) (rises_head R key x xs s))
  find_goes k (x ∷ xs) (suc i) s h = rw (h.before 0 x (omega arith)) (find_goes k xs i (rises_tail R key x xs s) (goes_tail k x xs i h))

  module _ (join : X → X → X) where
    pub put_stands : (y : X) (xs : List X) (i : ℕ) (d : X) → StandsAt R key (key y) xs i → put R key join y xs ≡ set xs i (join (get_or xs i d) y)
    put_stands y [] i d h = absurd (omega (arith, h.within))
    put_stands y (x ∷ xs) zero d h = rw (h.here d)
    put_stands y (x ∷ xs) (suc i) d h = rw (h.before 0 d (omega arith)) (ap (λ (l : List X). x ∷ l) (put_stands y xs i d (stands_tail (key y) x xs i h)))

    pub put_goes : (y : X) (xs : List X) (i : ℕ) → GoesTo R key (key y) xs i → put R key join y xs ≡ insert xs i y
    put_goes y [] zero h = refl
    put_goes y [] (suc i) h = refl
    put_goes y (x ∷ xs) zero h = rw (h.after x (omega arith))
    put_goes y (x ∷ xs) (suc i) h = rw (h.before 0 x (omega arith)) (ap (λ (l : List X). x ∷ l) (put_goes y xs i (goes_tail (key y) x xs i h)))

-- the same places in a list of which another is a map
module _ {X Y K : Type 0} (R : K → K → Ordering) (key : Y → K) (f : X → Y) where
  pub get_or-map_at : (xs : List X) (i : ℕ) (d : X) (e : Y) → i < length xs → get_or (map f xs) i e ≡ f (get_or xs i d)
  get_or-map_at [] i d e lt = absurd (omega arith)
  get_or-map_at (x ∷ xs) zero d e lt = refl
  get_or-map_at (x ∷ xs) (suc i) d e lt = get_or-map_at xs i d e (omega arith)

  some_item : (xs : List X) (i : ℕ) → i < length xs → X
  some_item [] i lt = absurd (omega arith)
  some_item (x ∷ xs) i lt = x

  pub stands_map : (k : K) (xs : List X) (i : ℕ) → StandsAt R (λ x. key (f x)) k xs i → StandsAt R key k (map f xs) i
  stands_map k xs i h =
      let d = some_item xs i h.within in
      record {
        within = omega (arith, h.within, length-map xs f);
        before = λ j e lt. rw (get_or-map_at xs j d e (omega (arith, h.within))) (h.before j d lt);
        here = λ e. rw (get_or-map_at xs i d e h.within) (h.here d);
      }

  pub goes_map : (k : K) (xs : List X) (i : ℕ) → GoesTo R (λ x. key (f x)) k xs i → GoesTo R key k (map f xs) i
  goes_map k xs i h = record {
    within = omega (arith, h.within, length-map xs f);
    before = λ j e lt. let within : j < length xs = omega (arith, h.within) in rw (get_or-map_at xs j (some_item xs j within) e within) (h.before j _ lt);
    after = λ e lt. let within : i < length xs = omega (arith, length-map xs f) in rw (get_or-map_at xs i (some_item xs i within) e within) (h.after _ within);
  }

  -- what is read at a place of the list
  pub read_map : (xs : List X) (i : ℕ) (x : X) → i < length xs → x ≡ get_or xs i x → get_or (map f xs) i (f x) ≡ f x
  read_map xs i x lt e = get_or-map_at xs i x (f x) lt ∙ ap f (sym e)

  map-map : (xs : List X) → map key (map f xs) ≡ map (λ x. key (f x)) xs
  map-map [] = refl
  map-map (x ∷ xs) = ap (λ (l : List K). key (f x) ∷ l) (map-map xs)

  pub searched_map : IsTotalOrder R → (k : K) (xs : List X) (r : Result ℕ ℕ) → Rises R key (map f xs) → IsSearchInRange r (length xs) → IsBinarySearchResult (λ x. R (key (f x)) k) xs r → MatchResult r (StandsAt R key k (map f xs)) (GoesTo R key k (map f xs))
  searched_map o k xs (Ok i) s within found = stands_map k xs i (searched R o (λ x. key (f x)) k xs (Ok i) (subst (IsStrictlySortedBy R) (map-map xs) s) within found)
  searched_map o k xs (Err i) s within found = goes_map k xs i (searched R o (λ x. key (f x)) k xs (Err i) (subst (IsStrictlySortedBy R) (map-map xs) s) within found)

  pub stands_unmap : (k : K) (xs : List X) (i : ℕ) → StandsAt R key k (map f xs) i → StandsAt R (λ x. key (f x)) k xs i
  stands_unmap k xs i h =
      let within : i < length xs = omega (arith, h.within, length-map xs f) in
      record {
        within = within;
        before = λ j d lt. rw (← get_or-map_at xs j d (f d) (omega arith)) (h.before j (f d) lt);
        here = λ d. rw (← get_or-map_at xs i d (f d) within) (h.here (f d));
      }

-- a change at one place is not seen by a test that neither the old item there nor the new one passes
module _ {X : Type 0} (test : X → Bool) where
  pub find-set_other : (xs : List X) (i : ℕ) (y x : X) → x ≡ get_or xs i x → i < length xs → test x ≡ false → test y ≡ false → find test (set xs i y) ≡ find test xs
  find-set_other [] i y x e lt p q = refl
  find-set_other (z ∷ xs) zero y x e lt p q = rw (q, ← e, p)
  find-set_other (z ∷ xs) (suc i) y x e lt p q = rw (find-set_other xs i y x e (omega arith) p q)

  pub find-insert_other : (xs : List X) (i : ℕ) (y : X) → test y ≡ false → find test (insert xs i y) ≡ find test xs
  find-insert_other [] zero y q = rw q
  find-insert_other [] (suc i) y q = rw q
  find-insert_other (z ∷ xs) zero y q = rw q
  find-insert_other (z ∷ xs) (suc i) y q = rw (find-insert_other xs i y q)

  -- what is put where an item stands is found
  pub find-set_here : (xs : List X) (i : ℕ) (y : X) → i < length xs → ((j : ℕ) (d : X) → j < i → test (get_or xs j d) ≡ false) → test y ≡ true → find test (set xs i y) ≡ Some y
  find-set_here [] i y lt before q = absurd (omega arith)
  find-set_here (z ∷ xs) zero y lt before q = rw q
  find-set_here (z ∷ xs) (suc i) y lt before q = rw (before 0 z (omega arith)) (find-set_here xs i y (omega arith) (λ j d l. before (suc j) d (omega arith)) q)

  pub none_unmapped : {W : Type 0} (f : W → X) (ws : List W) → find test (map f ws) ≡ None → find (λ w. test (f w)) ws ≡ None
  none_unmapped f [] e = refl
  none_unmapped f (w ∷ ws) e = elim (test (f w)) as (λ b. cond b (Some (f w)) (find test (map f ws)) ≡ None → cond b (Some w) (find (λ w. test (f w)) ws) ≡ None) [
    | true ↦ λ found. absurd (Some≢None found)
    | false ↦ λ rest. none_unmapped f ws rest
  ] e

  pub find-map : {W : Type 0} (f : W → X) (ws : List W) → find test (map f ws) ≡ option_map f (find (λ w. test (f w)) ws)
  find-map f [] = refl
  find-map f (w ∷ ws) = rw (find-map f ws) (split (test (f w)) (find (λ w. test (f w)) ws))
    where
      split : (b : Bool) (o : Option _) → cond b (Some (f w)) (option_map f o) ≡ option_map f (cond b (Some w) o)
      split true o = refl
      split false o = refl

module _ {X K : Type 0} (R : K → K → Ordering) (o : IsTotalOrder R) (key : X → K) (join : X → X → X) where
  -- a first item that is below all others stays first
  pub put_all-below : (ys : List X) (x : X) (xs : List X) → Above R key (key x) ys → put_all R key join ys (x ∷ xs) ≡ x ∷ put_all R key join ys xs
  put_all-below [] x xs above = refl
  put_all-below (y ∷ ys) x xs above = rw (o.antisymm (key y) (key x), above.0) (put_all-below ys x (put R key join y xs) above.1)

  -- the first items of two rising lists: the lower one comes first, and two with one key are joined
  pub put_all-less : (x y : X) (xs ys : List X) → R (key x) (key y) ≡ Less → Rises R key (y ∷ ys) → put_all R key join (y ∷ ys) (x ∷ xs) ≡ x ∷ put_all R key join (y ∷ ys) xs
  put_all-less x y xs ys less t = put_all-below (y ∷ ys) x xs (less, above_more R o key (key x) (key y) ys less (rises_head R key y ys t))

  pub put_all-greater : (x y : X) (xs ys : List X) → R (key x) (key y) ≡ Greater → Rises R key (y ∷ ys) → put_all R key join (y ∷ ys) (x ∷ xs) ≡ y ∷ put_all R key join ys (x ∷ xs)
  put_all-greater x y xs ys greater t = rw (o.antisymm (key y) (key x), greater) (put_all-below ys y (x ∷ xs) (rises_head R key y ys t))

  pub put_all-equal : ((x y : X) → key (join x y) ≡ key x) → (x y : X) (xs ys : List X) → R (key x) (key y) ≡ Equal → Rises R key (y ∷ ys) → put_all R key join (y ∷ ys) (x ∷ xs) ≡ join x y ∷ put_all R key join ys xs
  put_all-equal keeps x y xs ys equal t =
      let above : Above R key (key (join x y)) ys = rw (keeps x y) (above_same R o key (key x) (key y) ys equal (rises_head R key y ys t)) in
      rw (tied_back o (key x) (key y) equal) (put_all-below ys (join x y) xs above)

  -- nothing put into, and put into nothing
  pub put_all-into_none : (ys : List X) → Rises R key ys → put_all R key join ys [] ≡ ys
  put_all-into_none [] t = refl
  put_all-into_none (y ∷ ys) t = put_all-below ys y [] (rises_head R key y ys t) ∙ ap (λ (l : List X). y ∷ l) (put_all-into_none ys (rises_tail R key y ys t))
