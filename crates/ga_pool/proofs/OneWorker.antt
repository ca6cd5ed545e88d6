-- What the rows of one worker add under the number of a key: the key's sums over what the worker counted.
use Rattle.std.proofs.Common.{◌≡◌, ℕ, zero, suc, ◌+◌, ◌*◌, ◌<◌, max, Bool, true, false, nat_lt, List, [], ◌∷◌, length, get_or, Some, refl, sym, ap, ◌∙◌, arith, sum_by}
use Rattle.std.specs.Prelude.{slice_get}
use Rattle.std.specs.List.{Contains, list_any}
use Rattle.std.proofs.lemmas.List.{get_or-map, length-map}
use Rattle.std.proofs.lemmas.Bool.Decides.{nat_tests}
use Rattle.std.proofs.lemmas.Map.Views.{Contains-from_any, list_any-from_Contains}
use Rattle.std.proofs.lemmas.Option.{get_or_from_slice_get, slice_get-get_or, slice_get_within}
use Rattle.ga_base.specs.declared.counts.Sums.{Sums}
use Rattle.ga_base.specs.declared.key.Key.{Key}
use Rattle.ga_base.specs.Orders.{is_same_key}
use Rattle.ga_pool.specs.Steps.Filling.{added_at, at_place, at_word, raised_to}
use Rattle.std.proofs.lemmas.Bool.{true≢false}
use Rattle.ga_pool.proofs.Numbered.{one-place}
use Rattle.ga_pool.proofs.PutRows.{added-absent, at-other}
use Rattle.ga_summary.specs.Outcomes.{Hit, Outcome, greatest_time, hits_at, sums_of}
use Rattle.ga_summary.specs.SummaryRows.{no_sums, sums_plus}
use Rattle.ga_tallies.specs.Tallies.{IsTallyOf, TallySeen}
use Rattle.ga_numbers.proofs.Same.{key-itself, key-laws, same-key}

-- where no line has a key, its sums are 0
none-counted : (hits : List Hit) → length hits ≡ 0 → hits ≡ []
none-counted [] e = refl
none-counted (x ∷ hits) e = absurd (omega arith)

pub no-hits : (key : Key) (os : List Outcome) → (sums_of key os).hits ≡ 0 → sums_of key os ≡ no_sums
no-hits key os e = ap (λ (hits : List Hit). record { hits = length hits; bytes = sum_by (λ (h : Hit). h.bytes) hits; micros = sum_by (λ (h : Hit). h.micros) hits; max_micros = greatest_time hits }) (none-counted (hits_at key os) e)

pub at-none : (word k : ℕ) → at_word word k no_sums ≡ 0
at-none word k = grind (arith, nat_tests)

pub at-place-none : (place k : ℕ) → at_place place k no_sums ≡ 0
at-place-none place k = grind (arith, nat_tests)

pub at-plus : (word k : ℕ) (a b : Sums) → at_word word k (sums_plus a b) ≡ at_word word k a + at_word word k b
at-plus word k a b = grind (arith, nat_tests)

pub at-place-plus : (place k : ℕ) (a b : Sums) → at_place place k (sums_plus a b) ≡ max (at_place place k a) (at_place place k b)
at-place-plus place k a b = grind (arith, nat_tests)

at-place-other : (k x : ℕ) (sums : Sums) → (x ≡ k → ⊥) → at_place k x sums ≡ 0
at-place-other k x sums other = grind (arith, nat_tests)

raised-absent : (k : ℕ) (numbers : List ℕ) (rows : List Sums) → ((i : ℕ) → i < length rows → get_or numbers i 0 ≡ k → ⊥) → raised_to k numbers rows ≡ 0
raised-absent k [] rows none = refl
raised-absent k (x ∷ numbers) [] none = refl
raised-absent k (x ∷ numbers) (r ∷ rows) none =
    omega (arith, at-place-other k x r (none 0 (omega arith)), raised-absent k numbers rows (λ i within same. none (suc i) (omega arith) same))

-- where one row alone has the number, it alone adds to the number's words
added-one : (word k j : ℕ) → word ≡ 3 * k + j → j < 3 → (numbers : List ℕ) (rows : List Sums) (l : ℕ) (d : Sums) → l < length rows → l < length numbers → get_or numbers l 0 ≡ k
    → ((i : ℕ) → i < length rows → get_or numbers i 0 ≡ k → i ≡ l) → added_at word numbers rows ≡ at_word word k (get_or rows l d)
added-one word k j is lt [] rows l d within here at one = absurd (omega arith)
added-one word k j is lt (x ∷ numbers) [] l d within here at one = absurd (omega arith)
added-one word k j is lt (x ∷ numbers) (r ∷ rows) zero d within here at one =
    omega (arith, ap (λ (n : ℕ). at_word word n r) at, added-absent word k j is lt numbers rows (λ i less same. let e = one (suc i) (omega arith) same in omega (arith, e)))
added-one word k j is lt (x ∷ numbers) (r ∷ rows) (suc l) d within here at one =
    omega (
      arith,
      at-other word k j x r is lt (λ same. let e = one 0 (omega arith) same in omega (arith, e)),
      added-one word k j is lt numbers rows l d (omega arith) (omega arith) at (λ i less same. let e = one (suc i) (omega arith) same in omega (arith, e)),
    )

raised-one : (k : ℕ) (numbers : List ℕ) (rows : List Sums) (l : ℕ) (d : Sums) → l < length rows → l < length numbers → get_or numbers l 0 ≡ k
    → ((i : ℕ) → i < length rows → get_or numbers i 0 ≡ k → i ≡ l) → raised_to k numbers rows ≡ at_place k k (get_or rows l d)
raised-one k [] rows l d within here at one = absurd (omega arith)
raised-one k (x ∷ numbers) [] l d within here at one = absurd (omega arith)
raised-one k (x ∷ numbers) (r ∷ rows) zero d within here at one =
    omega (arith, ap (λ (n : ℕ). at_place k n r) at, raised-absent k numbers rows (λ i less same. let e = one (suc i) (omega arith) same in omega (arith, e)))
raised-one k (x ∷ numbers) (r ∷ rows) (suc l) d within here at one =
    omega (
      arith,
      at-place-other k x r (λ same. let e = one 0 (omega arith) same in omega (arith, e)),
      raised-one k numbers rows l d (omega arith) (omega arith) at (λ i less same. let e = one (suc i) (omega arith) same in omega (arith, e)),
    )

no-lines : (hits : ℕ) → nat_lt 0 hits ≡ false → hits ≡ 0
no-lines hits e = grind (arith, nat_tests)

-- the numbers of a worker's own items, by the items of all numbers
pub record HasNumbers {T : Type 0} (items : List T) (numbers : List ℕ) (own : List T) : Type 0 where
  pub apart : (i j : ℕ) (x : T) → slice_get items i ≡ Some x → slice_get items j ≡ Some x → i ≡ j
  pub mine : (l : ℕ) (x : T) → slice_get own l ≡ Some x → (k : ℕ) × (slice_get numbers l ≡ Some k) × (slice_get items k ≡ Some x)

module _ (items : List Key) (numbers : List ℕ) (os : List Outcome) (t : TallySeen) (is : IsTallyOf os t) (has : HasNumbers items numbers t.keys) (k : ℕ) (key : Key) (at : slice_get items k ≡ Some key) where
  as-many : length t.sums ≡ length t.keys
  as-many = ap length is.sums ∙ length-map t.keys (λ (x : Key). sums_of x os)

  -- a row under the number is the key's
  is-key : (l : ℕ) → l < length t.sums → get_or numbers l 0 ≡ k → slice_get t.keys l ≡ Some key
  is-key l lt same =
      let inside : l < length t.keys = omega (arith, lt, as-many) in
      let x = get_or t.keys l key in
      let there : slice_get t.keys l ≡ Some x = slice_get-get_or t.keys l key inside in
      let (n, number, item) = has.mine l x there in
      let same-number : n ≡ k = sym (get_or_from_slice_get numbers l n 0 number) ∙ same in
      let mine : Some x ≡ Some key = sym item ∙ ap (slice_get items) same-number ∙ at in
      there ∙ mine

  has-key : (l : ℕ) → slice_get t.keys l ≡ Some key → Contains t.keys key
  has-key l there = (l, slice_get_within t.keys l key there, get_or_from_slice_get t.keys l key key there)

  by-test : (b : Bool) → list_any (is_same_key key) t.keys ≡ b → (word j : ℕ) → word ≡ 3 * k + j → j < 3
      → (added_at word numbers t.sums ≡ at_word word k (sums_of key os)) × (raised_to k numbers t.sums ≡ at_place k k (sums_of key os))
  by-test false e word j w lt =
      let zero-hits : (sums_of key os).hits ≡ 0 = no-lines (sums_of key os).hits (sym (is.counted key) ∙ e) in
      let none = no-hits key os zero-hits in
      let absent : (l : ℕ) → l < length t.sums → get_or numbers l 0 ≡ k → ⊥ = λ l less same.
      true≢false (sym (list_any-from_Contains key-laws key t.keys (has-key l (is-key l less same))) ∙ e) in (
        added-absent word k j w lt numbers t.sums absent ∙ sym (ap (at_word word k) none ∙ at-none word k),
        raised-absent k numbers t.sums absent ∙ sym (ap (at_place k k) none ∙ at-place-none k k),
      )
  by-test true e word j w lt =
      let (l, within, here) = Contains-from_any same-key key t.keys e in
      let there : slice_get t.keys l ≡ Some key = slice_get-get_or t.keys l key within ∙ ap Some here in
      let (n, number, item) = has.mine l key there in
      let mine : get_or numbers l 0 ≡ k = get_or_from_slice_get numbers l n 0 number ∙ has.apart n k key item at in
      let inside : l < length t.sums = omega (arith, within, as-many) in
      let long : l < length numbers = slice_get_within numbers l n number in
      let one : (i : ℕ) → i < length t.sums → get_or numbers i 0 ≡ k → i ≡ l = λ i less same. one-place is_same_key key-itself same-key t.keys is.different_keys i l key (is-key i less same) there in
      let row : get_or t.sums l no_sums ≡ sums_of key os =
      ap (λ (rows : List Sums). get_or rows l no_sums) is.sums ∙ get_or-map (λ (x : Key). sums_of x os) t.keys l key no_sums within ∙ ap (λ (x : Key). sums_of x os) here in (
        added-one word k j w lt numbers t.sums l no_sums inside long mine one ∙ ap (at_word word k) row,
        raised-one k numbers t.sums l no_sums inside long mine one ∙ ap (at_place k k) row,
      )

  -- what the worker's rows add to the words of the number, and to how much they raise its place
  pub worker-adds : (word j : ℕ) → word ≡ 3 * k + j → j < 3 → added_at word numbers t.sums ≡ at_word word k (sums_of key os)
  worker-adds word j w lt = (by-test (list_any (is_same_key key) t.keys) refl word j w lt).0

  pub worker-raises : raised_to k numbers t.sums ≡ at_place k k (sums_of key os)
  worker-raises = (by-test (list_any (is_same_key key) t.keys) refl (3 * k + 0) 0 refl (omega arith)).1
