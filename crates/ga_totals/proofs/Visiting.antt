-- How many different visitors are in the row of a key, by marks.
use Rattle.std.proofs.Common.{◌≡◌, ℕ, zero, suc, ◌+◌, ◌<◌, ◌≤◌, ◌==◌, ◌||◌, Bool, true, false, cond, eqb, List, [], ◌∷◌, ◌++◌, length, get_or, set, take, refl, sym, ap, ◌∙◌, subst, arith, eq-eqb, length-set}
use Rattle.std.specs.List.{All, list_any}
use Rattle.std.specs.Set.{distinct_count, unique_keys}
use Rattle.std.proofs.lemmas.Bool.{eqb-true, false≢true}
use Rattle.std.proofs.lemmas.Cmp.{nat_eq_equiv}
use Rattle.std.proofs.lemmas.Grind.{get_or-set_at}
use Rattle.std.proofs.lemmas.List.{append-nil, get_or-set_other, take_more}
use Rattle.std.proofs.lemmas.List.Elements.{All-set}
use Rattle.std.proofs.lemmas.List.Folds.{list_any-append}
use Rattle.std.proofs.lemmas.Map.Steps.{list_any_congr}
use Rattle.ga_tallies.specs.Tallies.{pairs_from, pairs_in, row_pairs}
use Rattle.ga_totals.specs.Steps.KeyRows.{visitors_at}
use Rattle.ga_totals.specs.Steps.Sources.{visitors_of}

-- the pairs of a key's row have its visitors, and those of another's have none of them
own-row : (key : ℕ) (row : List ℕ) (rest : List (ℕ × ℕ)) → visitors_of key (row_pairs key row ++ rest) ≡ row ++ visitors_of key rest
own-row key [] rest = refl
own-row key (v ∷ row) rest =
    let own : (key == key) ≡ true = eq-eqb key key refl in
    rw own (ap (λ (l : List ℕ). v ∷ l) (own-row key row rest))

other-row : (number key : ℕ) → (key == number) ≡ false → (row : List ℕ) (rest : List (ℕ × ℕ)) → visitors_of number (row_pairs key row ++ rest) ≡ visitors_of number rest
other-row number key other [] rest = refl
other-row number key other (v ∷ row) rest = rw other (other-row number key other row rest)

other : (a b : ℕ) → (a ≡ b → ⊥) → (a == b) ≡ false
other a b off = elim (a == b) as (λ v. (a == b) ≡ v → v ≡ false) [
  | true ↦ λ e. absurd (off (eqb-true a b e))
  | false ↦ λ e. refl
] refl

no-rows : (number key : ℕ) → number < key → (rows : List (List ℕ)) → visitors_of number (pairs_from key rows) ≡ []
no-rows number key past [] = refl
no-rows number key past (row ∷ rows) =
    other-row number key (other key number (λ e. omega arith)) row (pairs_from (key + 1) rows) ∙ no-rows number (key + 1) (omega (arith, past)) rows

behind : (rows : List (List ℕ)) (key place number : ℕ) → number ≡ key + place → visitors_of number (pairs_from key rows) ≡ get_or rows place []
behind [] key place number at = refl
behind (row ∷ rows) key zero number at =
    let own : key ≡ number = omega (arith, at) in
    subst (λ n. visitors_of n (pairs_from key (row ∷ rows)) ≡ row) own
    (own-row key row (pairs_from (key + 1) rows) ∙ ap (λ (l : List ℕ). row ++ l) (no-rows key (key + 1) (omega arith) rows) ∙ append-nil row)
behind (row ∷ rows) key (suc place) number at =
    other-row number key (other key number (λ e. omega arith)) row (pairs_from (key + 1) rows) ∙ behind rows (key + 1) place number (omega (arith, at))

-- the visitors of a key's number in the pairs of rows are those of its row
pub visitors-of-rows : (rows : List (List ℕ)) (number : ℕ) → visitors_of number (pairs_in rows) ≡ visitors_at rows number
visitors-of-rows rows number = behind rows 0 number number (omega arith)

-- one visitor more after a row is a different one where it wasn't there
counted : (b : Bool) (v : ℕ) (row : List ℕ) → length (cond b row (v ∷ row)) ≡ cond b (length row) (suc (length row))
counted true v row = refl
counted false v row = refl

turned : (a b c : Bool) (n m : ℕ) → (b ≡ true → a ≡ c) → m ≡ cond c n (n + 1) → cond (a || (b || false)) m (suc m) ≡ cond (b || c) (cond a n (suc n)) (cond a n (suc n) + 1)
turned true true true n m same is = is
turned true true false n m same is = absurd (false≢true (sym (same refl)))
turned true false true n m same is = is
turned true false false n m same is = is
turned false true true n m same is = absurd (false≢true (same refl))
turned false true false n m same is = omega (arith, is)
turned false false true n m same is = ap suc is
turned false false false n m same is = omega (arith, is)

one-behind : (row : List ℕ) (v : ℕ) → distinct_count eqb (row ++ v ∷ []) ≡ cond (list_any (eqb v) row) (distinct_count eqb row) (distinct_count eqb row + 1)
one-behind [] v = refl
one-behind (w ∷ row) v =
    let n = distinct_count eqb row in
    let m = distinct_count eqb (row ++ v ∷ []) in
    let a = list_any (eqb w) row in
    counted (list_any (eqb w) (row ++ v ∷ [])) w (unique_keys eqb (row ++ v ∷ []))
    ∙ ap (λ b. cond b m (suc m)) (list_any-append (eqb w) row (v ∷ []))
    ∙ turned a (eqb w v) (list_any (eqb v) row) n m (λ e. list_any_congr nat_eq_equiv w v row e) (one-behind row v)
    ∙ (λ i. cond (nat_eq_equiv.symm w v i || list_any (eqb v) row) (sym (counted a w (unique_keys eqb row)) i) (sym (counted a w (unique_keys eqb row)) i + 1))

-- a visitor that is compared with those in front of it is a different one, or isn't
either-way : (v : ℕ) (row : List ℕ) → list_any (λ w. eqb w v) row ≡ list_any (eqb v) row
either-way v [] = refl
either-way v (w ∷ row) = λ i. nat_eq_equiv.symm w v i || either-way v row i

module _ (row : List ℕ) (place : ℕ) (less : place < length row) where
  pub compared : distinct_count eqb (take (place + 1) row)
      ≡ cond (list_any (λ w. eqb w (get_or row place 0)) (take place row)) (distinct_count eqb (take place row)) (distinct_count eqb (take place row) + 1)
  compared =
      ap (λ (l : List ℕ). distinct_count eqb l) (take_more row place 0 less) ∙ one-behind (take place row) (get_or row place 0)
      ∙ ap (λ b. cond b (distinct_count eqb (take place row)) (distinct_count eqb (take place row) + 1)) (sym (either-way (get_or row place 0) (take place row)))

-- the visitors of a row have the mark, and none of the others has it or a higher one
pub record AreMarked (mark : ℕ) (row marks : List ℕ) : Type 0 where
  pub low : All (λ m. m ≤ mark) marks
  pub marked : (v : ℕ) → v < length marks → eqb (get_or marks v 0) mark ≡ list_any (eqb v) row

module _ (mark : ℕ) (row marks : List ℕ) (i : ℕ) (less : i < length row) (own : get_or row i 0 < length marks) (so_far : AreMarked mark (take i row) marks) where
  -- one that had the mark isn't another visitor
  pub count-known : get_or marks (get_or row i 0) 0 ≡ mark → distinct_count eqb (take (i + 1) row) ≡ distinct_count eqb (take i row)
  count-known has =
      let there : list_any (eqb (get_or row i 0)) (take i row) ≡ true = sym (so_far.marked (get_or row i 0) own) ∙ eq-eqb _ _ has in
      ap (λ (l : List ℕ). distinct_count eqb l) (take_more row i 0 less) ∙ one-behind (take i row) (get_or row i 0)
      ∙ ap (λ b. cond b (distinct_count eqb (take i row)) (distinct_count eqb (take i row) + 1)) there

  -- and one that hadn't it is
  pub count-new : (get_or marks (get_or row i 0) 0 ≡ mark → ⊥) → distinct_count eqb (take (i + 1) row) ≡ distinct_count eqb (take i row) + 1
  count-new off =
      let none : list_any (eqb (get_or row i 0)) (take i row) ≡ false = sym (so_far.marked (get_or row i 0) own) ∙ other _ _ off in
      ap (λ (l : List ℕ). distinct_count eqb l) (take_more row i 0 less) ∙ one-behind (take i row) (get_or row i 0)
      ∙ ap (λ b. cond b (distinct_count eqb (take i row)) (distinct_count eqb (take i row) + 1)) none

  -- it has the mark then
  pub marked-more : AreMarked mark (take (i + 1) row) (set marks (get_or row i 0) mark)
  marked-more = record {
    low = All-set (λ m. m ≤ mark) marks (get_or row i 0) mark (omega arith) so_far.low;
    marked = λ w within.
        marked-so w (let e : w < length marks = omega (arith, within, length-set marks (get_or row i 0) mark) in e) (eqb w (get_or row i 0)) refl
        ∙ sym (ap (λ (l : List ℕ). list_any (eqb w) l) (take_more row i 0 less) ∙ list_any-append (eqb w) (take i row) (get_or row i 0 ∷ []));
  }
    where
      either : (a b : Bool) → (a || (b || false)) ≡ cond b true a
      either true true = refl
      either true false = refl
      either false true = refl
      either false false = refl

      marked-so : (w : ℕ) → w < length marks → (b : Bool) → eqb w (get_or row i 0) ≡ b → eqb (get_or (set marks (get_or row i 0) mark) w 0) mark ≡ (list_any (eqb w) (take i row) || (b || false))
      marked-so w within true e =
          eq-eqb _ _ (get_or-set_at marks (get_or row i 0) w mark 0 (eqb-true w (get_or row i 0) e) own) ∙ sym (either (list_any (eqb w) (take i row)) true)
      marked-so w within false e =
          ap (λ m. eqb m mark) (get_or-set_other marks (get_or row i 0) w mark 0 (λ same. false≢true (sym e ∙ eq-eqb _ _ same))) ∙ so_far.marked w within
          ∙ sym (either (list_any (eqb w) (take i row)) false)
