-- Rows added to their items, a row at a time.
use Rattle.std.proofs.Common.{◌≡◌, ℕ, suc, ◌+◌, ◌<◌, ◌≤◌, ◌||◌, max, Bool, true, false, cond, List, [], ◌∷◌, ◌++◌, length, map, get_or, set, refl, sym, ap, ◌∙◌, subst, arith, zero-add, All}
use Rattle.std.specs.Prelude.{count_by, not}
use Rattle.std.specs.List.{AllByRecursion, list_any, position_or_len}
use Rattle.std.specs.List.Sorted.{IsPermutation}
use Rattle.std.proofs.lemmas.Bool.{false≢true}
use Rattle.std.proofs.lemmas.Cmp.{eq_by_cmp_equiv}
use Rattle.std.proofs.lemmas.List.Elements.{All-from_recursion, recursion_from_All}
use Rattle.std.proofs.lemmas.List.Sorted.{IsPermutation-to_front, IsPermutation-sym, All-permutation, list_any-IsPermutation, sum_by-IsPermutation}
use Rattle.ga_base.specs.declared.key.Key.{Key}
use Rattle.ga_base.specs.declared.panel.Panel.{Panel}
use Rattle.ga_base.specs.Orders.{is_same_key}
use Rattle.ga_base.proofs.OrderLemmas.{key_cmp_total}
use Rattle.ga_shards.specs.Numbers.{noted, place_of}
use Rattle.ga_report.specs.Items.{has_item, is_of, item_of, together, undated}
use Rattle.ga_report.specs.Steps.Summed.{AreSummed, panel_rows, plus, undate, with_row}
use Rattle.ga_report.specs.Source.{SourceRow}
use Rattle.ga_report.proofs.ItemSums.{count-cons, item-cons, item-moved, item-none, onto, onto-nothing, own-item, same-item}
use Rattle.ga_report.proofs.Lists.{all-weaker}

-- items in another order are the items
pub summed-as : (rows items sorted : List SourceRow) → AreSummed rows items → IsPermutation items sorted → AreSummed rows sorted
summed-as rows items sorted are moved = record {
  once = λ key. sum_by-IsPermutation (λ x. cond (is_of key x) 1 0) items sorted moved ∙ are.once key;
  sums = All-permutation (λ item. undate item ≡ item_of item.key rows) items sorted moved are.sums;
}

-- they are those of each row's panel, where all are of one
pub summed-each : (panel : Panel) (source items tops : List SourceRow) → All (λ top. top.key.panel ≡ panel) tops → AreSummed (panel_rows panel source) items
    → All (λ top. AreSummed (panel_rows top.key.panel source) items) tops
summed-each panel source items tops own are =
    All-from_recursion (λ top. AreSummed (panel_rows top.key.panel source) items) tops
    (all-weaker (λ top. top.key.panel ≡ panel) (λ top. AreSummed (panel_rows top.key.panel source) items)
    (λ top e. subst (λ (p : Panel). AreSummed (panel_rows p source) items) (sym e) are) tops (recursion_from_All _ tops own))

-- and so they are of the rows in another order
summed-of : (rows moved items : List SourceRow) → IsPermutation rows moved → AreSummed rows items → AreSummed moved items
summed-of rows moved items same are = record {
  once = λ key. are.once key ∙ ap {B = ℕ} (λ (b : Bool). cond b 1 0) (list_any-IsPermutation (is_of key) rows moved same);
  sums = All-from_recursion (λ item. undate item ≡ item_of item.key moved) items
      (all-weaker (λ item. undate item ≡ item_of item.key rows) (λ item. undate item ≡ item_of item.key moved)
      (λ item own. own ∙ sym (item-moved item.key rows moved same)) items (recursion_from_All _ items are.sums));
}

-- rows of one item are of an item both or not
alike : (key : Key) (x y : SourceRow) → is_of x.key y ≡ true → is_of key y ≡ is_of key x
alike key x y e = ap (λ (k : Key). is_same_key k (undated key)) (same-item x.key y e)

turned : (x y : SourceRow) → is_of x.key y ≡ is_of y.key x
turned x y = (eq_by_cmp_equiv key_cmp_total).symm (undated y.key) (undated x.key)

-- how often an item is there with a row more
abbrev more : Key → SourceRow → List SourceRow → ℕ
more key row items = cond (is_of key row) (cond (list_any (λ item. is_of item.key row) items) 0 1) 0

count-with : (key : Key) (row : SourceRow) (items : List SourceRow) → count_by (is_of key) (with_row row items) ≡ more key row items + count_by (is_of key) items
count-with key row [] = count-cons (is_of key) row []
count-with key row (x ∷ xs) = elim (is_of x.key row) as (λ b. is_of x.key row ≡ b
    → count_by (is_of key) (cond b (plus x row ∷ xs) (x ∷ with_row row xs)) ≡ cond (is_of key row) (cond (b || list_any (λ item. is_of item.key row) xs) 0 1) 0 + count_by (is_of key) (x ∷ xs)) [
      | true ↦ λ e. count-cons (is_of key) (plus x row) xs ∙ sym (count-cons (is_of key) x xs) ∙ sym (none (is_of key row) (count_by (is_of key) (x ∷ xs)))
      | false ↦ λ e. count-cons (is_of key) x (with_row row xs) ∙ behind (count-with key row xs) ∙ ap (λ (n : ℕ). more key row xs + n) (sym (count-cons (is_of key) x xs))
    ] refl
  where
    none : (b : Bool) (n : ℕ) → cond b 0 0 + n ≡ n
    none true n = zero-add n
    none false n = zero-add n

    behind : count_by (is_of key) (with_row row xs) ≡ more key row xs + count_by (is_of key) xs
        → cond (is_of key x) 1 0 + count_by (is_of key) (with_row row xs) ≡ more key row xs + (cond (is_of key x) 1 0 + count_by (is_of key) xs)
    behind e = omega (arith, e)

-- an item of the row's is there as often as one of its key's does
any-turned : (row : SourceRow) (items : List SourceRow) → list_any (λ item. is_of item.key row) items ≡ has_item row.key items
any-turned row [] = refl
any-turned row (x ∷ xs) = λ i. turned x row i || any-turned row xs i

pub counted : (key : Key) (items : List SourceRow) → has_item key items ≡ true → 1 ≤ count_by (is_of key) items
counted key [] e = absurd (false≢true e)
counted key (x ∷ xs) e = elim (is_of key x) as (λ b. is_of key x ≡ b → (b || has_item key xs) ≡ true → 1 ≤ count_by (is_of key) (x ∷ xs)) [
  | true ↦ λ here _. omega (arith, count-cons (is_of key) x xs, ap {B = ℕ} (λ (b : Bool). cond b 1 0) here)
  | false ↦ λ other there. omega (arith, count-cons (is_of key) x xs, counted key xs there)
] refl e

pub not-counted : (key : Key) (items : List SourceRow) → has_item key items ≡ false → count_by (is_of key) items ≡ 0
not-counted key [] e = refl
not-counted key (x ∷ xs) e = elim (is_of key x) as (λ b. is_of key x ≡ b → (b || has_item key xs) ≡ false → count_by (is_of key) (x ∷ xs) ≡ 0) [
  | true ↦ λ here f. absurd (false≢true (sym f))
  | false ↦ λ other f. omega (arith, count-cons (is_of key) x xs, ap {B = ℕ} (λ (b : Bool). cond b 1 0) other, not-counted key xs f)
] refl e

has-none : (key : Key) (rows : List SourceRow) → has_item key rows ≡ false → AllByRecursion (λ y. is_of key y ≡ false) rows
has-none key [] e = tt
has-none key (x ∷ xs) e = elim (is_of key x) as (λ b. is_of key x ≡ b → (b || has_item key xs) ≡ false → AllByRecursion (λ y. is_of key y ≡ false) (x ∷ xs)) [
  | true ↦ λ here f. absurd (false≢true (sym f))
  | false ↦ λ other f. (other, has-none key xs f)
] refl e

module _ (seen : List SourceRow) (row : SourceRow) where
  -- the same item of a row more
  onto-item : (x : SourceRow) → is_of x.key row ≡ true → undate x ≡ item_of x.key seen → undate (plus x row) ≡ item_of x.key (row ∷ seen)
  onto-item x e own =
      let h : x.sums.hits + row.sums.hits ≡ row.sums.hits + x.sums.hits = omega arith in
      let b : x.sums.bytes + row.sums.bytes ≡ row.sums.bytes + x.sums.bytes = omega arith in
      let m : x.sums.micros + row.sums.micros ≡ row.sums.micros + x.sums.micros = omega arith in
      let t : max x.sums.max_micros row.sums.max_micros ≡ max row.sums.max_micros x.sums.max_micros = omega arith in
      let v : x.visitors + row.visitors ≡ row.visitors + x.visitors = omega arith in
      let turn : undate (plus x row) ≡ onto x.key row (undate x) = λ i. record {
        key = undated x.key;
        sums = record { hits = h i; bytes = b i; micros = m i; max_micros = t i };
        visitors = v i;
      } in
      turn ∙ ap (onto x.key row) own ∙ sym (item-cons x.key row seen true e)

  -- other items have what they had
  kept : (xs : List SourceRow) → AllByRecursion (λ x. is_of x.key row ≡ false) xs → AllByRecursion (λ x. undate x ≡ item_of x.key seen) xs
      → AllByRecursion (λ x. undate x ≡ item_of x.key (row ∷ seen)) xs
  kept [] others sums = tt
  kept (x ∷ xs) others sums = (sums.0 ∙ sym (item-cons x.key row seen false others.0), kept xs others.1 sums.1)

  no-other : (xs : List SourceRow) → count_by (is_of row.key) xs ≤ 0 → AllByRecursion (λ x. is_of x.key row ≡ false) xs
  no-other [] none = tt
  no-other (x ∷ xs) none = elim (is_of row.key x) as (λ b. is_of row.key x ≡ b → AllByRecursion (λ y. is_of y.key row ≡ false) (x ∷ xs)) [
    | true ↦ λ e. absurd (omega (arith, none, count-cons (is_of row.key) x xs, ap {B = ℕ} (λ (b : Bool). cond b 1 0) e))
    | false ↦ λ e. (turned x row ∙ e, no-other xs (omega (arith, none, count-cons (is_of row.key) x xs)))
  ] refl

  sums-with : (xs : List SourceRow) → count_by (is_of row.key) xs ≤ 1 → (has_item row.key xs ≡ false → has_item row.key seen ≡ false) → AllByRecursion (λ x. undate x ≡ item_of x.key seen) xs
      → AllByRecursion (λ x. undate x ≡ item_of x.key (row ∷ seen)) (with_row row xs)
  sums-with [] one new sums =
      let none = item-none row.key seen (has-none row.key seen (new refl)) in
      (sym (item-cons row.key row seen true (own-item row) ∙ ap (λ (r : List SourceRow). onto row.key row (together row.key r)) none ∙ onto-nothing row), tt)
  sums-with (x ∷ xs) one new sums = elim (is_of x.key row) as (λ b. is_of x.key row ≡ b → AllByRecursion (λ y. undate y ≡ item_of y.key (row ∷ seen)) (cond b (plus x row ∷ xs) (x ∷ with_row row xs))) [
    | true ↦ λ e.
        let here : cond (is_of row.key x) 1 0 ≡ 1 = ap {B = ℕ} (λ (b : Bool). cond b 1 0) (sym (turned x row) ∙ e) in
        (onto-item x e sums.0, kept xs (no-other xs (omega (arith, one, here, count-cons (is_of row.key) x xs))) sums.1)
    | false ↦ λ e.
        let other : is_of row.key x ≡ false = sym (turned x row) ∙ e in (
          sums.0 ∙ sym (item-cons x.key row seen false e),
          sums-with xs (omega (arith, one, count-cons (is_of row.key) x xs)) (λ f. new (rw other f)) sums.1,
        )
  ] refl

  once-with : (key : Key) (items : List SourceRow) → ((k : Key) → count_by (is_of k) items ≡ cond (has_item k seen) 1 0) → count_by (is_of key) (with_row row items) ≡ cond (is_of key row || has_item key seen) 1 0
  once-with key items once = count-with key row items ∙ go (is_of key row) refl
    where
      one-if : (b : Bool) (n : ℕ) → n ≡ cond b 1 0 → 1 ≤ n → n ≡ 1
      one-if true n e some = e
      one-if false n e some = absurd (omega (arith, e, some))

      same-count : is_of key row ≡ true → count_by (is_of key) items ≡ count_by (is_of row.key) items
      same-count e = ap (λ (k : Key). count_by (λ (x : SourceRow). is_same_key (undated x.key) k) items) (sym (same-item key row e))

      have : is_of key row ≡ true → (b : Bool) → has_item row.key items ≡ b → cond b 0 1 + count_by (is_of key) items ≡ 1
      have e true f = zero-add _ ∙ one-if (has_item key seen) _ (once key) (omega (arith, same-count e, counted row.key items f))
      have e false f = omega (arith, same-count e, not-counted row.key items f)

      go : (b : Bool) → is_of key row ≡ b → cond b (cond (list_any (λ item. is_of item.key row) items) 0 1) 0 + count_by (is_of key) items ≡ cond (b || has_item key seen) 1 0
      go true e = ap (λ (b : Bool). cond b 0 1 + count_by (is_of key) items) (any-turned row items) ∙ have e (has_item row.key items) refl
      go false e = zero-add _ ∙ once key

  at-most : (b : Bool) (n : ℕ) → n ≡ cond b 1 0 → n ≤ 1
  at-most true n e = omega (arith, e)
  at-most false n e = omega (arith, e)

  -- the row's item isn't among those that were seen where it isn't among the items
  not-seen : (items : List SourceRow) → AreSummed seen items → has_item row.key items ≡ false → has_item row.key seen ≡ false
  not-seen items are e = go (has_item row.key seen) refl
    where
      go : (b : Bool) → has_item row.key seen ≡ b → b ≡ false
      go false f = refl
      go true f = absurd (omega (arith, not-counted row.key items e, are.once row.key ∙ ap {B = ℕ} (λ (b : Bool). cond b 1 0) f))

  pub summed-with : (items : List SourceRow) → AreSummed seen items → AreSummed (row ∷ seen) (with_row row items)
  summed-with items are = record {
    once = λ key. once-with key items are.once;
    sums = All-from_recursion (λ item. undate item ≡ item_of item.key (row ∷ seen)) (with_row row items)
        (sums-with items (at-most (has_item row.key seen) _ (are.once row.key)) (not-seen items are) (recursion_from_All _ items are.sums));
  }

-- a row put after those that were seen
pub summed-behind : (seen : List SourceRow) (row : SourceRow) (items : List SourceRow) → AreSummed seen items → AreSummed (seen ++ row ∷ []) (with_row row items)
summed-behind seen row items are = summed-of (row ∷ seen) (seen ++ row ∷ []) (with_row row items) (IsPermutation-sym _ _ (IsPermutation-to_front seen row)) (summed-with seen row items are)

-- ---- by the place that a dictionary of names gives

abbrev pub name_of : SourceRow → Key
name_of item = undated item.key

abbrev place : SourceRow → List SourceRow → ℕ
place row items = position_or_len (is_same_key (undated row.key)) (map name_of items)

names-with : (row : SourceRow) (items : List SourceRow) → map name_of (with_row row items) ≡ noted is_same_key (map name_of items) (undated row.key)
names-with row [] = refl
names-with row (x ∷ xs) = elim (is_of x.key row) as (λ b. map name_of (cond b (plus x row ∷ xs) (x ∷ with_row row xs))
    ≡ cond (b || list_any (is_same_key (undated row.key)) (map name_of xs)) (name_of x ∷ map name_of xs) (name_of x ∷ map name_of xs ++ undated row.key ∷ [])) [
      | true ↦ refl
      | false ↦ ap (λ (ks : List Key). name_of x ∷ ks) (names-with row xs) ∙ turn (list_any (is_same_key (undated row.key)) (map name_of xs))
    ]
  where
    turn : (b : Bool) → name_of x ∷ cond b (map name_of xs) (map name_of xs ++ undated row.key ∷ []) ≡ cond b (name_of x ∷ map name_of xs) (name_of x ∷ map name_of xs ++ undated row.key ∷ [])
    turn true = refl
    turn false = refl

pub names-more : (row : SourceRow) (items items' : List SourceRow) (names names' : List Key) (name : Key) → names ≡ map name_of items → name ≡ undated row.key → items' ≡ with_row row items
    → names' ≡ noted is_same_key names name → names' ≡ map name_of items'
names-more row items items' names names' name e n f g =
    g ∙ ap (λ (ks : List Key). noted is_same_key ks name) e ∙ ap (noted is_same_key (map name_of items)) n ∙ sym (names-with row items) ∙ ap (map name_of) (sym f)

-- the place is an item's: the row is added to it
with-place : (row : SourceRow) (items : List SourceRow) (d : SourceRow) → place row items < length items → set items (place row items) (plus (get_or items (place row items) d) row) ≡ with_row row items
with-place row [] d below = absurd (omega (arith, below))
with-place row (x ∷ xs) d below = elim (is_of x.key row) as (λ b. (n : ℕ) → n ≡ cond (not b) (1 + place row xs) 0 → n < length (x ∷ xs)
    → set (x ∷ xs) n (plus (get_or (x ∷ xs) n d) row) ≡ cond b (plus x row ∷ xs) (x ∷ with_row row xs)) [
      | true ↦ λ n e lt. rw e refl
      | false ↦ λ n e lt.
          let next : n ≡ suc (place row xs) = omega (arith, e) in
          let rest = with-place row xs d (omega (arith, e, lt)) in
          rw next (ap (λ (r : List SourceRow). x ∷ r) rest)
    ] (place row (x ∷ xs)) refl below

-- the place is after the items: the row is put there
with-end : (row : SourceRow) (items : List SourceRow) → length items ≤ place row items → items ++ row ∷ [] ≡ with_row row items
with-end row [] at = refl
with-end row (x ∷ xs) at = elim (is_of x.key row) as (λ b. (n : ℕ) → n ≡ cond (not b) (1 + place row xs) 0 → length (x ∷ xs) ≤ n → x ∷ xs ++ row ∷ [] ≡ cond b (plus x row ∷ xs) (x ∷ with_row row xs)) [
  | true ↦ λ n e le. absurd (omega (arith, e, le))
  | false ↦ λ n e le. ap (λ (r : List SourceRow). x ∷ r) (with-end row xs (omega (arith, e, le)))
] (place row (x ∷ xs)) refl at

pub added-at : (row : SourceRow) (items : List SourceRow) (names : List Key) (name : Key) (at : ℕ) (item sum : SourceRow) → names ≡ map name_of items → name ≡ undated row.key → at ≡ place_of is_same_key names name
    → at < length items → item ≡ get_or items at item → sum ≡ plus item row → set items at sum ≡ with_row row items
added-at row items names name at item sum e n f below own is =
    let here : at ≡ place row items = f ∙ ap (λ (ks : List Key). place_of is_same_key ks name) e ∙ ap (place_of is_same_key (map name_of items)) n in
    let added : sum ≡ plus (get_or items (place row items) item) row = is ∙ ap (λ (x : SourceRow). plus x row) (own ∙ ap (λ (k : ℕ). get_or items k item) here) in
    ap (λ (x : SourceRow). set items at x) added ∙ ap (λ (k : ℕ). set items k (plus (get_or items (place row items) item) row)) here
    ∙ with-place row items item (subst (λ (k : ℕ). k < length items) here below)

pub added-behind : (row copy : SourceRow) (items more : List SourceRow) (names : List Key) (name : Key) (at : ℕ) → names ≡ map name_of items → name ≡ undated row.key → at ≡ place_of is_same_key names name
    → length items ≤ at → copy ≡ row → more ≡ items ++ copy ∷ [] → more ≡ with_row row items
added-behind row copy items more names name at e n f behind same is =
    let here : at ≡ place row items = f ∙ ap (λ (ks : List Key). place_of is_same_key ks name) e ∙ ap (place_of is_same_key (map name_of items)) n in
    is ∙ ap (λ (x : SourceRow). items ++ x ∷ []) same ∙ with-end row items (subst (λ (k : ℕ). length items ≤ k) here behind)
