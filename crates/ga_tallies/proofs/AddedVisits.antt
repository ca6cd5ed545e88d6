-- Pairs of other tallies that came to those that were there.
use Rattle.std.proofs.Common.{◌≡◌, ◌≢◌, ℕ, ◌+◌, ◌<◌, ◌≤◌, ◌⊎◌, inl, inr, List, [], ◌∷◌, ◌++◌, get_or, length, set, Option, Some, None, Bor, sym, ap, ◌∙◌, subst, arith, ⊎_elim}
use Rattle.std.specs.Prelude.{slice_get, MatchOption}
use Rattle.std.specs.List.{Contains}
use Rattle.std.specs.Slice.{IsItemAt}
use Rattle.std.proofs.lemmas.Bool.{cases_eq, cases_lt}
use Rattle.std.proofs.lemmas.List.{get_or-set_other, get_or-set_same, length-map}
use Rattle.std.proofs.lemmas.List.Elements.{Contains-append_left, Contains-append_right, Contains-append_cases, Contains-push, Contains-push_cases}
use Rattle.std.proofs.lemmas.Option.{slice_get-get_or, slice_get_past}
use Rattle.smallvec.specs.SmallVec.{SmallVec}
use Rattle.ga_tallies.specs.Steps.Adding.{AddsOne, HoldTheSame}
use Rattle.ga_tallies.specs.Steps.Absorbing.{AddsSuch, IsAmong, IsMapped, IsMappedItem}
use Rattle.ga_tallies.specs.Tallies.{lists_in, pairs_from, row_pairs}
use Rattle.ga_tallies.proofs.PairLists.{at-row, both-numbers, lists-set}
use Rattle.ga_tallies.proofs.PairRows.{contains-map, from-map, in-rows, of-row, row_at}

-- what is lent of a list at a place is what is there
pub lent-there : {T : Type 0} (xs : List T) (i : ℕ) (lent : Option (Bor T)) (x : Bor T) → IsItemAt xs i lent → lent ≡ Some x → slice_get xs i ≡ Some x.now
lent-there xs i lent x at is =
    let here : (i < length xs) × ((d : _) → x.now ≡ get_or xs i d) = subst (λ (o : Option (Bor _)). MatchOption o (length xs ≤ i) (λ y. (i < length xs) × ((d : _) → y.now ≡ get_or xs i d))) is at.3 in
    slice_get-get_or xs i x.now here.0 ∙ ap Some (sym (here.1 x.now))

pub none-there : {T : Type 0} (xs : List T) (i : ℕ) (lent : Option (Bor T)) → IsItemAt xs i lent → lent ≡ None → length xs ≤ i
none-there xs i lent at is = subst (λ (o : Option (Bor _)). MatchOption o (length xs ≤ i) (λ y. (i < length xs) × ((d : _) → y.now ≡ get_or xs i d))) is at.3

pub none-lent : {T : Type 0} (xs : List T) (i : ℕ) (lent : Option (Bor T)) → IsItemAt xs i lent → lent ≡ None → slice_get xs i ≡ None
none-lent xs i lent at is = slice_get_past xs i (none-there xs i lent at is)

-- none such came
pub adds-none : {T : Type 0} (P : T → Type 0) (old : List T) → ((x : T) → P x → Contains old x) → AddsSuch P old old
adds-none P old there = record { kept = λ x at. at; there = there; only = λ x at. inl at }

-- some came, and then others
pub adds-both : {T : Type 0} (P Q R : T → Type 0) (old mid new : List T) → ((x : T) → R x → P x ⊎ Q x) → ((x : T) → P x → R x) → ((x : T) → Q x → R x)
    → AddsSuch P old mid → AddsSuch Q mid new → AddsSuch R old new
adds-both P Q R old mid new part left right one two = record {
  kept = λ x at. two.kept x (one.kept x at);
  there = λ x is. ⊎_elim (λ p. two.kept x (one.there x p)) (λ q. two.there x q) (part x is);
  only = λ x at. ⊎_elim (λ was. ⊎_elim (λ old. inl old) (λ p. inr (left x p)) (one.only x was)) (λ q. inr (right x q)) (two.only x at);
}

-- the same items were there before
pub adds-behind : {T : Type 0} (P : T → Type 0) (old mid new : List T) → HoldTheSame old mid → AddsSuch P mid new → AddsSuch P old new
adds-behind P old mid new same adds = record {
  kept = λ x at. adds.kept x (same.kept x at);
  there = adds.there;
  only = λ x at. ⊎_elim (λ was. inl (same.only x was)) (λ is. inr is) (adds.only x at);
}

-- the same is said of them otherwise
pub adds-as : {T : Type 0} (P Q : T → Type 0) (old new : List T) → ((x : T) → Q x → P x) → ((x : T) → P x → Q x) → AddsSuch P old new → AddsSuch Q old new
adds-as P Q old new back on adds = record {
  kept = adds.kept;
  there = λ x is. adds.there x (back x is);
  only = λ x at. ⊎_elim (λ was. inl was) (λ is. inr (on x is)) (adds.only x at);
}

-- one is such as are equal to it
pub adds-one : {T : Type 0} (item : T) (old new : List T) → AddsOne item old new → AddsSuch (λ x. item ≡ x) old new
adds-one item old new one = record {
  kept = one.kept;
  there = λ x e. subst (Contains new) e one.there;
  only = one.only;
}

empty-list : {T : Type 0} (x : T) → Contains [] x → ⊥
empty-list x (k, lt, e) = omega arith

-- ---- a row

module _ (visitors : List ℕ) where
  pub no-item : (old : List ℕ) → AddsSuch (IsMappedItem visitors []) old old
  no-item old = adds-none (IsMappedItem visitors []) old (λ n is. absurd (empty-list is.0 is.1))

  -- a visitor more, which has a number
  pub visitor-more : (row : List ℕ) (v number : ℕ) (old mid new : List ℕ) → slice_get visitors v ≡ Some number
      → AddsSuch (IsMappedItem visitors row) old mid → AddsOne number mid new → AddsSuch (IsMappedItem visitors (row ++ v ∷ [])) old new
  visitor-more row v number old mid new has some one =
      adds-both (IsMappedItem visitors row) (λ n. number ≡ n) (IsMappedItem visitors (row ++ v ∷ [])) old mid new
      (λ n is.
      ⊎_elim
      (λ at. inl (is.0, at, is.2))
      (λ it. let e : Some number ≡ Some n = sym has ∙ ap (slice_get visitors) it ∙ is.2 in inr cc)
      (Contains-push_cases row v is.0 is.1))
      (λ n is. (is.0, Contains-append_left row (v ∷ []) is.0 is.1, is.2))
      (λ n e. (v, Contains-push row v, has ∙ ap Some e))
      some (adds-one number mid new one)

  -- and one that has none
  pub visitor-unknown : (row : List ℕ) (v : ℕ) (old new : List ℕ) → slice_get visitors v ≡ None
      → AddsSuch (IsMappedItem visitors row) old new → AddsSuch (IsMappedItem visitors (row ++ v ∷ [])) old new
  visitor-unknown row v old new none =
      adds-as (IsMappedItem visitors row) (IsMappedItem visitors (row ++ v ∷ [])) old new
      (λ n is.
      ⊎_elim
      (λ at. (is.0, at, is.2))
      (λ it. let off : None ≡ Some n = sym none ∙ ap (slice_get visitors) it ∙ is.2 in absurd (cc off))
      (Contains-push_cases row v is.0 is.1))
      (λ n is. (is.0, Contains-append_left row (v ∷ []) is.0 is.1, is.2))

-- ---- the pairs of a row

-- a pair of this key and the number of a visitor of the row
abbrev pub IsMappedRow : ℕ → List ℕ → List ℕ → ℕ × ℕ → Type 0
IsMappedRow key visitors row pair = (number : ℕ) × IsMappedItem visitors row number × (pair ≡ (key, number))

-- what came to the row at a place came to the pairs
module _ (s : ℕ) (rows : List (List ℕ)) (k : ℕ) (row : List ℕ) (within : k < length rows) (visitors more : List ℕ) (adds : AddsSuch (IsMappedItem visitors more) (row_at rows k) row) where
  abbrev after : List (List ℕ)
  after = set rows k row

  here : row_at after k ≡ row
  here = get_or-set_same rows k row [] within

  other-row : (j : ℕ) → j ≢ k → row_at after j ≡ row_at rows j
  other-row j apart = get_or-set_other rows k j row [] apart

  kept : (p : ℕ × ℕ) → Contains (pairs_from s rows) p → Contains (pairs_from s after) p
  kept (j, v) at =
      let was = of-row s rows j v at in
      let now : Contains (row_at after was.0) v =
      ⊎_elim
      (λ e. subst (λ (l : List ℕ). Contains l v) (sym (ap (row_at after) e ∙ here)) (adds.kept v (subst (λ n. Contains (row_at rows n) v) e was.2)))
      (λ apart. subst (λ (l : List ℕ). Contains l v) (sym (other-row was.0 apart)) was.2)
      (cases_eq was.0 k) in
      subst (λ n. Contains (pairs_from s after) (n, v)) (sym was.1) (in-rows s was.0 after v now)

  there : (p : ℕ × ℕ) → IsMappedRow (s + k) visitors more p → Contains (pairs_from s after) p
  there p is =
      let now : Contains (row_at after k) is.0 = subst (λ (l : List ℕ). Contains l is.0) (sym here) (adds.there is.0 is.1) in
      subst (Contains (pairs_from s after)) (sym is.2) (in-rows s k after is.0 now)

  only : (p : ℕ × ℕ) → Contains (pairs_from s after) p → Contains (pairs_from s rows) p ⊎ IsMappedRow (s + k) visitors more p
  only (j, w) at =
      let now = of-row s after j w at in
      ⊎_elim
      (λ e.
      let at-k : j ≡ s + k = now.1 ∙ ap (λ n. s + n) e in
      ⊎_elim
      (λ was. inl (subst (λ n. Contains (pairs_from s rows) (n, w)) (sym at-k) (in-rows s k rows w was)))
      (λ it. inr (w, it, both-numbers j (s + k) w w at-k (λ i. w)))
      (adds.only w (subst (λ (l : List ℕ). Contains l w) (ap (row_at after) e ∙ here) now.2)))
      (λ apart.
      let was = subst (λ (l : List ℕ). Contains l w) (other-row now.0 apart) now.2 in
      inl (subst (λ n. Contains (pairs_from s rows) (n, w)) (sym now.1) (in-rows s now.0 rows w was)))
      (cases_eq now.0 k)

  row-put : AddsSuch (IsMappedRow (s + k) visitors more) (pairs_from s rows) (pairs_from s after)
  row-put = record { kept = kept; there = there; only = only }

pub written-such : (s : ℕ) (rows : List (SmallVec ℕ)) (k : ℕ) (row new : SmallVec ℕ) (visitors more : List ℕ) → k < length rows → row ≡ get_or rows k row → AddsSuch (IsMappedItem visitors more) row.items new.items
    → AddsSuch (IsMappedRow (s + k) visitors more) (pairs_from s (lists_in rows)) (pairs_from s (lists_in (set rows k new)))
written-such s rows k row new visitors more within is adds =
    let long : k < length (lists_in rows) = omega (arith, within, length-map rows (λ (r : SmallVec ℕ). r.items)) in
    let from = subst (λ (l : List ℕ). AddsSuch (IsMappedItem visitors more) l new.items) (sym (at-row rows k row within is)) adds in
    subst (λ (l : List (List ℕ)). AddsSuch (IsMappedRow (s + k) visitors more) (pairs_from s (lists_in rows)) (pairs_from s l)) (sym (lists-set rows k new))
    (row-put s (lists_in rows) k new.items long visitors more from)

-- ---- the rows of a move

module _ (keys visitors : List ℕ) (pairs : List (ℕ × ℕ)) (k : ℕ) (row : List ℕ) where
  -- a pair of the rows so far or of the next, whose key has a number then
  pub mapped-cases : (p : ℕ × ℕ) → IsMapped keys visitors (pairs ++ row_pairs k row) p
      → IsMapped keys visitors pairs p ⊎ ((number : ℕ) × (slice_get keys k ≡ Some number) × IsMappedRow number visitors row p)
  mapped-cases p is =
      ⊎_elim
      (λ at. inl (is.0, is.1, is.2, is.3, at, is.5, is.6, is.7))
      (λ at.
      let from = from-map (λ v. (k, v)) row (is.0, is.1) at in
      let key : k ≡ is.0 = ap (λ (q : ℕ × ℕ). q.0) from.2 in
      let visitor : from.0 ≡ is.1 = ap (λ (q : ℕ × ℕ). q.1) from.2 in
      inr (is.2, ap (slice_get keys) key ∙ is.5, (is.3, (is.1, subst (Contains row) visitor from.1, is.6), is.7)))
      (Contains-append_cases pairs (row_pairs k row) (is.0, is.1) is.4)

  pub mapped-before : (p : ℕ × ℕ) → IsMapped keys visitors pairs p → IsMapped keys visitors (pairs ++ row_pairs k row) p
  mapped-before p is = (is.0, is.1, is.2, is.3, Contains-append_left pairs (row_pairs k row) (is.0, is.1) is.4, is.5, is.6, is.7)

  pub mapped-last : (number : ℕ) → slice_get keys k ≡ Some number → (p : ℕ × ℕ) → IsMappedRow number visitors row p → IsMapped keys visitors (pairs ++ row_pairs k row) p
  mapped-last number has p is =
      (k, is.1.0, number, is.0, Contains-append_right pairs (row_pairs k row) (k, is.1.0) (contains-map (λ v. (k, v)) row is.1.0 is.1.1), has, is.1.2, is.2)

  module _ (s many : ℕ) (old now : List (ℕ × ℕ)) (so_far : AddsSuch (IsAmong s many (IsMapped keys visitors pairs)) old now) where
    -- the next row is one of those of a part
    pub row-more : (place : ℕ) (new : List (ℕ × ℕ)) → place < many → slice_get keys k ≡ Some (s + place) → AddsSuch (IsMappedRow (s + place) visitors row) now new
        → AddsSuch (IsAmong s many (IsMapped keys visitors (pairs ++ row_pairs k row))) old new
    row-more place new within has one =
        adds-both (IsAmong s many (IsMapped keys visitors pairs)) (IsMappedRow (s + place) visitors row) (IsAmong s many (IsMapped keys visitors (pairs ++ row_pairs k row))) old now new
        (λ p is.
        ⊎_elim
        (λ before. inl (before, is.1, is.2))
        (λ own. let same : own.0 ≡ s + place = let e : Some own.0 ≡ Some (s + place) = sym own.1 ∙ has in cc in inr (subst (λ n. IsMappedRow n visitors row p) same own.2))
        (mapped-cases p is.0))
        (λ p is. (mapped-before p is.0, is.1, is.2))
        (λ p is.
        let at : p.0 ≡ s + place = ap (λ (q : ℕ × ℕ). q.0) is.2 in
        (mapped-last (s + place) has p is, omega (arith, at), omega (arith, at, within)))
        so_far one

    -- or none of those
    pub row-elsewhere : ((number : ℕ) → slice_get keys k ≡ Some number → s ≤ number → number < s + many → ⊥)
        → AddsSuch (IsAmong s many (IsMapped keys visitors (pairs ++ row_pairs k row))) old now
    row-elsewhere off =
        adds-as (IsAmong s many (IsMapped keys visitors pairs)) (IsAmong s many (IsMapped keys visitors (pairs ++ row_pairs k row))) old now
        (λ p is.
        ⊎_elim
        (λ before. (before, is.1, is.2))
        (λ own.
        let at : p.0 ≡ own.0 = ap (λ (q : ℕ × ℕ). q.0) own.2.2 in
        absurd (off own.0 own.1 (omega (arith, at, is.1)) (omega (arith, at, is.2))))
        (mapped-cases p is.0))
        (λ p is. (mapped-before p is.0, is.1, is.2))
        so_far

pub no-rows : (keys visitors : List ℕ) (s many : ℕ) (old : List (ℕ × ℕ)) → AddsSuch (IsAmong s many (IsMapped keys visitors [])) old old
no-rows keys visitors s many old = adds-none (IsAmong s many (IsMapped keys visitors [])) old (λ p is. absurd (empty-list (is.0.0, is.0.1) is.0.4))

-- ---- parts

-- what came to the pairs of some keys and to those of the keys after them came to the pairs of all
pub among-both : (P : ℕ × ℕ → Type 0) (s m n : ℕ) (a more b others : List (ℕ × ℕ)) → AddsSuch (IsAmong s m P) a more → AddsSuch (IsAmong (s + m) n P) b others
    → AddsSuch (IsAmong s (m + n) P) (a ++ b) (more ++ others)
among-both P s m n a more b others one two = record {
  kept = λ p at.
      ⊎_elim (λ left. Contains-append_left more others p (one.kept p left)) (λ right. Contains-append_right more others p (two.kept p right)) (Contains-append_cases a b p at);
  there = λ p is.
      ⊎_elim
      (λ less. Contains-append_left more others p (one.there p (is.0, is.1, less)))
      (λ past. Contains-append_right more others p (two.there p (is.0, past, omega (arith, is.2))))
      (cases_lt p.0 (s + m));
  only = λ p at.
      ⊎_elim
      (λ left. ⊎_elim (λ was. inl (Contains-append_left a b p was)) (λ is. inr (is.0, is.1, omega (arith, is.2))) (one.only p left))
      (λ right. ⊎_elim (λ was. inl (Contains-append_right a b p was)) (λ is. inr (is.0, omega (arith, is.1), omega (arith, is.2))) (two.only p right))
      (Contains-append_cases more others p at);
}
