-- The first entries of two lists that are of one log, by the test.
use Rattle.std.proofs.Common.{◌≡◌, ℕ, ◌+◌, ◌<◌, ◌≤◌, Bool, true, false, List, length, map, get_or, Option, Some, None, option_map, ◌⊎◌, ⊎_elim, inl, inr, refl, sym, ap, ◌∙◌, subst, arith}
use Rattle.std.specs.Prelude.{◌==◌, ◌&&◌, slice_get}
use Rattle.std.specs.Cmp.Derive.{both_true}
use Rattle.std.specs.List.{position, position_or_len}
use Rattle.std.specs.Str.{bytes_eq}
use Rattle.std.proofs.lemmas.Bool.{cond-true, eqb-true, lt-ltb, cases_lt}
use Rattle.std.proofs.lemmas.Bool.Decides.{nat_tests}
use Rattle.std.proofs.lemmas.List.Quantifiers.{position-Some}
use Rattle.std.proofs.lemmas.List.Sums.{fails_before_first}
use Rattle.std.proofs.lemmas.Option.{get_or_from_slice_get, slice_get_cases, slice_get-get_or, slice_get-map}
use Rattle.std.proofs.lemmas.Slice.Eq.{bytes_eq-Decides}
use Rattle.ga_base.specs.declared.entry.Entry.{Entry}
use Rattle.ga_codec.specs.Values.{EntryValue, entry_value}
use Rattle.ga_dbtool.specs.Merged.{AreOfOneLog, ShareAt, ShareFirst, ShareNone}
use Rattle.ga_dbtool.specs.Steps.Sharing.{is_one_log}

both-are : (a b : Bool) → (a && b) ≡ true → (a ≡ true) × (b ≡ true)
both-are true b e = (refl, e)
both-are false b e = cc

-- where no element passes a test, each fails it
fails-all : {X : Type 0} (p : X → Bool) (xs : List X) (d : X) → position p xs ≡ None → (k : ℕ) → k < length xs → p (get_or xs k d) ≡ false
fails-all p xs d none k lt = ⊎_elim
    (λ inside. let found : position p xs ≡ Some (position_or_len p xs) = cond-true _ _ _ (lt-ltb (position_or_len p xs) (length xs) inside) in
    let clash : None ≡ Some (position_or_len p xs) = sym none ∙ found in cc)
    (λ outside. fails_before_first p xs k d (omega (arith, outside, lt)))
    (cases_lt (position_or_len p xs) (length xs))

share-true : (x y : Entry) → is_one_log x y ≡ true → AreOfOneLog (entry_value x) (entry_value y)
share-true x y e =
    let both = both-are (x.lead == y.lead) (bytes_eq x.digest y.digest) e in
    record { lead = eqb-true x.lead y.lead both.0; digest = (bytes_eq-Decides x.digest y.digest).0 both.1 }

share-false : (x y : Entry) → is_one_log x y ≡ false → ¬ AreOfOneLog (entry_value x) (entry_value y)
share-false x y e h =
    let lead : (x.lead == y.lead) ≡ true = let same = h.lead in grind (arith, nat_tests) in
    let digest : bytes_eq x.digest y.digest ≡ true = (bytes_eq-Decides x.digest y.digest).1 h.digest in
    let passes : is_one_log x y ≡ true = both_true lead digest in
    let clash : true ≡ false = sym passes ∙ e in cc

-- the entry at a place, and its value
entry-at : (xs : List Entry) (i : ℕ) (v : EntryValue) → slice_get (map entry_value xs) i ≡ Some v
    → (x : Entry) × (i < length xs) × (slice_get xs i ≡ Some x) × (entry_value x ≡ v)
entry-at xs i v e = by (slice_get_cases xs i).1
  where
    by : ((x : Entry) × (i < length xs) × (slice_get xs i ≡ Some x) × (get_or xs i x ≡ x)) ⊎ ((length xs ≤ i) × (slice_get xs i ≡ None))
        → (x : Entry) × (i < length xs) × (slice_get xs i ≡ Some x) × (entry_value x ≡ v)
    by (inl (x, lt, is, at)) =
        let same : Some (entry_value x) ≡ Some v = sym (slice_get-map entry_value xs i ∙ ap (λ (o : Option Entry). option_map entry_value o) is) ∙ e in
        let value : entry_value x ≡ v = cc in (x, lt, is, value)
    by (inr (past, none)) =
        let clash : None ≡ Some v = sym (slice_get-map entry_value xs i ∙ ap (λ (o : Option Entry). option_map entry_value o) none) ∙ e in absurd (cc clash)

value-at : (xs : List Entry) (i : ℕ) (x : Entry) → slice_get xs i ≡ Some x → slice_get (map entry_value xs) i ≡ Some (entry_value x)
value-at xs i x is = slice_get-map entry_value xs i ∙ ap (λ (o : Option Entry). option_map entry_value o) is

-- entries at two places that are of one log pass the test
passes-at : (xs ys : List Entry) (i j : ℕ) (x d : Entry) → slice_get xs i ≡ Some x → is_one_log x (get_or ys j d) ≡ false → j < length ys
    → ¬ ShareAt (map entry_value xs) (map entry_value ys) i j
passes-at xs ys i j x d is fails lt (a, b, ea, eb, one) =
    let left = entry-at xs i a ea in
    let right = entry-at ys j b eb in
    let first : Some left.0 ≡ Some x = sym left.2 ∙ is in
    let same : left.0 ≡ x = cc in
    let second : get_or ys j d ≡ right.0 = get_or_from_slice_get ys j right.0 d right.2 in
    let lead : x.lead ≡ right.0.lead = ap (λ (e : Entry). e.lead) (sym same) ∙ ap (λ (e : EntryValue). e.lead) left.3 ∙ one.lead ∙ sym (ap (λ (e : EntryValue). e.lead) right.3) in
    let digest : x.digest ≡ right.0.digest =
    ap (λ (e : Entry). e.digest) (sym same) ∙ ap (λ (e : EntryValue). e.digest) left.3 ∙ one.digest ∙ sym (ap (λ (e : EntryValue). e.digest) right.3) in
    share-false x right.0 (subst (λ (y : Entry). is_one_log x y ≡ false) second fails) (record { lead = lead; digest = digest })

inside : (xs ys : List Entry) (i j : ℕ) → ShareAt (map entry_value xs) (map entry_value ys) i j → (i < length xs) × (j < length ys)
inside xs ys i j (a, b, ea, eb, one) = ((entry-at xs i a ea).1, (entry-at ys j b eb).1)

-- the element that an index gave
pub item-at : (xs : List Entry) (at : ℕ) (x : Entry) → at < length xs → x ≡ get_or xs at x → slice_get xs at ≡ Some x
item-at xs at x lt is = slice_get-get_or xs at x lt ∙ ap (λ (y : Entry). Some y) (sym is)

pub none-found : (o : Option ℕ) → ((i : ℕ) → o ≡ Some i → ⊥) → o ≡ None
none-found None none = refl
none-found (Some i) none = absurd (none i refl)

module _ (xs ys : List Entry) where
  abbrev pub NoneBefore : ℕ → Type 0
  NoneBefore at = (i j : ℕ) → i < at → ¬ ShareAt (map entry_value xs) (map entry_value ys) i j

  pub none-yet : NoneBefore 0
  none-yet i j lt share = omega (arith, lt)

  pub one-more : (at : ℕ) (x : Entry) → slice_get xs at ≡ Some x → position (is_one_log x) ys ≡ None → NoneBefore at → NoneBefore (at + 1)
  one-more at x is none before i j lt share = ⊎_elim (λ below. before i j below share) (λ here. last (omega (arith, here, lt))) (cases_lt i at)
    where
      last : i ≡ at → ⊥
      last same =
          let there : slice_get xs i ≡ Some x = ap (λ (k : ℕ). slice_get xs k) same ∙ is in
          let within = (inside xs ys i j share).1 in
          passes-at xs ys i j x x there (fails-all (is_one_log x) ys x none j within) within share

  pub all-passed : (at : ℕ) → length xs ≤ at → NoneBefore at → ShareNone (map entry_value xs) (map entry_value ys)
  all-passed at past before i j share = before i j (omega (arith, past, (inside xs ys i j share).0)) share

  pub found-first : (at other : ℕ) (x : Entry) → slice_get xs at ≡ Some x → position (is_one_log x) ys ≡ Some other → NoneBefore at
      → ShareFirst (map entry_value xs) (map entry_value ys) at other
  found-first at other x is found before =
      let some = position-Some (is_one_log x) ys other x found in
      let there : slice_get ys other ≡ Some (get_or ys other x) = slice_get-get_or ys other x some.0 in
      record {
        here = (entry_value x, entry_value (get_or ys other x), value-at xs at x is, value-at ys other (get_or ys other x) there, share-true x (get_or ys other x) some.1);
        least_left = λ l r share lt. before l r lt share;
        least_right = λ r share lt. passes-at xs ys at r x x is (some.2 r lt) (inside xs ys at r share).1 share;
      }
