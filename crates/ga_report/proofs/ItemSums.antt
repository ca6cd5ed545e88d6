-- What the item of a key sums, by the list of rows: one row more, and another order.
use Rattle.std.proofs.Common.{◌≡◌, ℕ, ◌+◌, ◌≤◌, max, Bool, true, false, cond, List, [], ◌∷◌, Less, Equal, Greater, filter, sum_by, refl, sym, ap, ◌∙◌, arith, add-zero, inl, inr}
use Rattle.std.specs.Prelude.{count_by}
use Rattle.std.specs.declared.cmp.Ordering.{Ordering}
use Rattle.std.specs.Ordering.{is_eq}
use Rattle.std.specs.Cmp.{IsTotalOrder}
use Rattle.std.specs.List.{AllByRecursion}
use Rattle.std.specs.List.Sorted.{IsPermutation}
use Rattle.std.proofs.lemmas.Bool.{false≢true}
use Rattle.std.proofs.lemmas.Cmp.{tied_itself, on_total}
use Rattle.std.proofs.lemmas.List.Sorted.{sum_by-IsPermutation, IsPermutation-sym}
use Rattle.std.proofs.lemmas.List.Sums.{sum_by-cons}
use Rattle.ga_base.specs.declared.key.Key.{Key}
use Rattle.ga_base.proofs.OrderLemmas.{key_cmp_total, key_cmp_exact}
use Rattle.ga_report.specs.Source.{SourceRow}
use Rattle.ga_report.specs.Items.{undated, item_order, is_of, of_item, greatest_time, together, item_of}
use Rattle.ga_report.specs.Steps.Summed.{undate}
use Rattle.ga_report.proofs.Lists.{In, sum_by-filter, in-filter, filter-in, in-permutation}

equal-by : (v : Ordering) → is_eq v ≡ true → v ≡ Equal
equal-by Less e = absurd (false≢true e)
equal-by Equal e = refl
equal-by Greater e = absurd (false≢true e)

-- rows of an item have its key, but for the day
pub same-item : (key : Key) (row : SourceRow) → is_of key row ≡ true → undated row.key ≡ undated key
same-item key row e = key_cmp_exact (undated row.key) (undated key) (equal-by _ e)

pub own-item : (row : SourceRow) → is_of row.key row ≡ true
own-item row = ap is_eq (tied_itself key_cmp_total (undated row.key))

pub item_order_total : IsTotalOrder item_order
item_order_total = on_total (λ (row : SourceRow). undated row.key) key_cmp_total

-- a row of the item in front of the others
abbrev pub onto : Key → SourceRow → SourceRow → SourceRow
onto key a b = record {
  key = undated key;
  sums = record {
    hits = a.sums.hits + b.sums.hits;
    bytes = a.sums.bytes + b.sums.bytes;
    micros = a.sums.micros + b.sums.micros;
    max_micros = max a.sums.max_micros b.sums.max_micros;
  };
  visitors = a.visitors + b.visitors;
}

pub together-cons : (key : Key) (x : SourceRow) (xs : List SourceRow) → together key (x ∷ xs) ≡ onto key x (together key xs)
together-cons key x xs =
    let h = sum_by-cons (λ (row : SourceRow). row.sums.hits) x xs in
    let b = sum_by-cons (λ (row : SourceRow). row.sums.bytes) x xs in
    let m = sum_by-cons (λ (row : SourceRow). row.sums.micros) x xs in
    let v = sum_by-cons (λ (row : SourceRow). row.visitors) x xs in
    λ i. record { key = undated key; sums = record { hits = h i; bytes = b i; micros = m i; max_micros = greatest_time (x ∷ xs) }; visitors = v i }

pub item-cons : (key : Key) (x : SourceRow) (xs : List SourceRow) (b : Bool) → is_of key x ≡ b → item_of key (x ∷ xs) ≡ cond b (onto key x (item_of key xs)) (item_of key xs)
item-cons key x xs true e = rw e (together-cons key x (filter (is_of key) xs))
item-cons key x xs false e = rw e refl

pub count-cons : (p : SourceRow → Bool) (x : SourceRow) (xs : List SourceRow) → count_by p (x ∷ xs) ≡ cond (p x) 1 0 + count_by p xs
count-cons p x xs = sum_by-cons (λ (y : SourceRow). cond (p y) 1 0) x xs

-- where no row is of the item, it has nothing
pub item-none : (key : Key) (xs : List SourceRow) → AllByRecursion (λ y. is_of key y ≡ false) xs → of_item key xs ≡ []
item-none key [] none = refl
item-none key (x ∷ xs) none = rw none.0 (item-none key xs none.1)

pub onto-nothing : (x : SourceRow) → onto x.key x (together x.key []) ≡ undate x
onto-nothing x =
    let t : max x.sums.max_micros 0 ≡ x.sums.max_micros = omega arith in
    λ i. record {
      key = undated x.key;
      sums = record { hits = add-zero x.sums.hits i; bytes = add-zero x.sums.bytes i; micros = add-zero x.sums.micros i; max_micros = t i };
      visitors = add-zero x.visitors i;
    }

-- the order of rows is nothing to their sums
sum-moved : (f : SourceRow → ℕ) (key : Key) (xs ys : List SourceRow) → IsPermutation xs ys → sum_by f (of_item key ys) ≡ sum_by f (of_item key xs)
sum-moved f key xs ys moved =
    sum_by-filter f (is_of key) ys ∙ sum_by-IsPermutation (λ x. cond (is_of key x) (f x) 0) xs ys moved ∙ sym (sum_by-filter f (is_of key) xs)

greatest-within : (xs : List SourceRow) (n : ℕ) → ((x : SourceRow) → In x xs → x.sums.max_micros ≤ n) → greatest_time xs ≤ n
greatest-within [] n h = omega arith
greatest-within (x ∷ xs) n h = omega (arith, h x (inl refl), greatest-within xs n (λ y there. h y (inr there)))

in-greatest : (x : SourceRow) (xs : List SourceRow) → In x xs → x.sums.max_micros ≤ greatest_time xs
in-greatest x [] there = absurd there
in-greatest x (y ∷ ys) (inl e) = let same : x.sums.max_micros ≡ y.sums.max_micros = ap (λ (r : SourceRow). r.sums.max_micros) e in omega (arith, same)
in-greatest x (y ∷ ys) (inr there) = omega (arith, in-greatest x ys there)

greatest-moved : (key : Key) (xs ys : List SourceRow) → IsPermutation xs ys → greatest_time (of_item key ys) ≡ greatest_time (of_item key xs)
greatest-moved key xs ys moved = omega (arith, below xs ys moved, below ys xs (IsPermutation-sym xs ys moved))
  where
    below : (us ws : List SourceRow) → IsPermutation us ws → greatest_time (of_item key us) ≤ greatest_time (of_item key ws)
    below us ws moves = greatest-within (of_item key us) (greatest_time (of_item key ws))
        (λ x there. let r = in-filter (is_of key) x us there in in-greatest x (of_item key ws) (filter-in (is_of key) x ws r.0 (in-permutation x us ws moves r.1)))

pub item-moved : (key : Key) (xs ys : List SourceRow) → IsPermutation xs ys → item_of key ys ≡ item_of key xs
item-moved key xs ys moved =
    let h = sum-moved (λ (row : SourceRow). row.sums.hits) key xs ys moved in
    let b = sum-moved (λ (row : SourceRow). row.sums.bytes) key xs ys moved in
    let m = sum-moved (λ (row : SourceRow). row.sums.micros) key xs ys moved in
    let t = greatest-moved key xs ys moved in
    let v = sum-moved (λ (row : SourceRow). row.visitors) key xs ys moved in
    λ i. record { key = undated key; sums = record { hits = h i; bytes = b i; micros = m i; max_micros = t i }; visitors = v i }
