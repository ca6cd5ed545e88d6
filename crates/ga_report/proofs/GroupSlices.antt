-- Where the items of a group stand among items of a panel that are sorted by group.
use Rattle.std.proofs.Common.{◌≡◌, ℕ, ◌+◌, zero, suc, ◌-◌, ◌<◌, ◌≤◌, ◌&&◌, Bool, true, false, cond, List, [], ◌∷◌, Less, Equal, Greater, length, get_or, take, drop, filter, refl, sym, ap, ◌∙◌, arith}
use Rattle.std.specs.Prelude.{not}
use Rattle.std.specs.declared.cmp.Ordering.{Ordering}
use Rattle.std.specs.Ordering.{is_eq, is_lt, is_le, is_gt, ordering_reverse}
use Rattle.std.specs.Cmp.{IsTotalOrder}
use Rattle.std.specs.List.Sorted.{IsSorted, IsPartitionedBy, IsPartitionPoint}
use Rattle.std.specs.Str.{bytes_eq}
use Rattle.std.proofs.lemmas.Bool.{false≢true, and_parts}
use Rattle.std.proofs.lemmas.Cmp.{on_total, nat_list_cmp_total, upto}
use Rattle.std.proofs.lemmas.List.{get_or-take, length-take, take_rest}
use Rattle.std.proofs.lemmas.List.Sorted.{ranks_by, sorted_far}
use Rattle.std.proofs.lemmas.Map.Text.{is_eq-slice_cmp}
use Rattle.ga_base.specs.declared.key.Key.{Key}
use Rattle.ga_base.specs.Layers.{has_groups, is_empty}
use Rattle.ga_base.specs.Orders.{text_cmp}
use Rattle.ga_base.specs.Panels.{is_same_panel}
use Rattle.ga_report.specs.Source.{SourceRow}
use Rattle.ga_report.specs.Items.{is_child}
use Rattle.ga_report.specs.Steps.Summed.{by_parent}

pub by_parent_total : IsTotalOrder by_parent
by_parent_total = on_total (λ (x : SourceRow). x.key.parent) nat_list_cmp_total

-- what isn't less than another comes after it
not-less : (x y : SourceRow) → is_lt (by_parent y x) ≡ false → is_gt (text_cmp x.key.parent y.key.parent) ≡ false
not-less x y e = go (text_cmp y.key.parent x.key.parent) refl e
  where
    go : (o : Ordering) → text_cmp y.key.parent x.key.parent ≡ o → is_lt o ≡ false → is_gt (text_cmp x.key.parent y.key.parent) ≡ false
    go Less at less = absurd (false≢true (sym less))
    go Equal at less = ap is_gt (nat_list_cmp_total.antisymm x.key.parent y.key.parent ∙ ap ordering_reverse at)
    go Greater at less = ap is_gt (nat_list_cmp_total.antisymm x.key.parent y.key.parent ∙ ap ordering_reverse at)

le-by : (o : Ordering) → is_gt o ≡ false → is_le o ≡ true
le-by Less e = refl
le-by Equal e = refl
le-by Greater e = absurd (false≢true (sym e))

not-gt : (o : Ordering) → is_le o ≡ true → is_gt o ≡ false
not-gt Less e = refl
not-gt Equal e = refl
not-gt Greater e = absurd (false≢true e)

lt-by : (o p : Ordering) → o ≡ ordering_reverse p → (is_gt p ≡ false → ⊥) → is_lt o ≡ true
lt-by o Less e no-way = absurd (no-way refl)
lt-by o Equal e no-way = absurd (no-way refl)
lt-by o Greater e no-way = ap is_lt e

not-back : (o p : Ordering) → o ≡ ordering_reverse p → is_lt o ≡ true → is_gt p ≡ false → ⊥
not-back o Less e less back = false≢true (sym (ap is_lt e) ∙ less)
not-back o Equal e less back = false≢true (sym (ap is_lt e) ∙ less)
not-back o Greater e less back = false≢true (sym back)

abbrev pub up-to : Key → SourceRow → Bool
up-to group item = is_le (text_cmp item.key.parent group.parent)

abbrev pub before : Key → SourceRow → Bool
before group item = is_lt (text_cmp item.key.parent group.parent)

up-to-falls : (group : Key) (x y : SourceRow) → is_lt (by_parent y x) ≡ false → up-to group y ≡ true → up-to group x ≡ true
up-to-falls group x y e here = le-by _ (upto nat_list_cmp_total x.key.parent y.key.parent group.parent (not-less x y e) (not-gt _ here))

before-falls : (group : Key) (x y : SourceRow) → is_lt (by_parent y x) ≡ false → before group y ≡ true → before group x ≡ true
before-falls group x y e here =
    lt-by (text_cmp x.key.parent group.parent) (text_cmp group.parent x.key.parent) (nat_list_cmp_total.antisymm x.key.parent group.parent)
    (λ back. not-back (text_cmp y.key.parent group.parent) (text_cmp group.parent y.key.parent) (nat_list_cmp_total.antisymm y.key.parent group.parent) here
    (upto nat_list_cmp_total group.parent x.key.parent y.key.parent back (not-less x y e)))

partitioned : (p : SourceRow → Bool) → ((x y : SourceRow) → is_lt (by_parent y x) ≡ false → p y ≡ true → p x ≡ true) → (xs : List SourceRow) → IsSorted by_parent xs → IsPartitionedBy p xs
partitioned p falls xs up i j d low high here =
    falls (get_or xs i d) (get_or xs j d) (sorted_far (λ a b. is_lt (by_parent a b)) (ranks_by by_parent_total (λ x. x)) xs up i j d low high) here

pub up-to-partition : (group : Key) (xs : List SourceRow) → IsSorted by_parent xs → IsPartitionedBy (up-to group) xs
up-to-partition group xs up = partitioned (up-to group) (up-to-falls group) xs up

pub before-partition : (group : Key) (xs : List SourceRow) → IsSorted by_parent xs → IsPartitionedBy (before group) xs
before-partition group xs up = partitioned (before group) (before-falls group) xs up

pub sorted-take : (n : ℕ) (xs : List SourceRow) → IsSorted by_parent xs → IsSorted by_parent (take n xs)
sorted-take n xs up k d low high =
    let long = length-take n xs in
    let a : get_or (take n xs) (k + 1) d ≡ get_or xs (k + 1) d = get_or-take n xs (k + 1) d (omega (arith, high, long)) in
    let b : get_or (take n xs) k d ≡ get_or xs k d = get_or-take n xs k d (omega (arith, high, long)) in
    rw (a, b) (up k d low (omega (arith, high, long)))

-- what fails a test at the front or at the end is nothing to those that pass
filter-front : {X : Type 0} (test : X → Bool) (n : ℕ) (xs : List X) → ((k : ℕ) (d : X) → k < n → k < length xs → test (get_or xs k d) ≡ false) → filter test (drop n xs) ≡ filter test xs
filter-front test zero xs fail = refl
filter-front test (suc n) [] fail = refl
filter-front test (suc n) (x ∷ xs) fail =
    let here : test x ≡ false = fail 0 x (omega arith) (omega arith) in
    rw here (filter-front test n xs (λ k d low high. fail (suc k) d (omega (arith, low)) (omega (arith, high))))

filter-none : {X : Type 0} (test : X → Bool) (xs : List X) → ((k : ℕ) (d : X) → k < length xs → test (get_or xs k d) ≡ false) → filter test xs ≡ []
filter-none test [] fail = refl
filter-none test (x ∷ xs) fail =
    let here : test x ≡ false = fail 0 x (omega arith) in
    rw here (filter-none test xs (λ k d high. fail (suc k) d (omega (arith, high))))

filter-end : {X : Type 0} (test : X → Bool) (n : ℕ) (xs : List X) → ((k : ℕ) (d : X) → n ≤ k → k < length xs → test (get_or xs k d) ≡ false) → filter test (take n xs) ≡ filter test xs
filter-end test zero xs fail = sym (filter-none test xs (λ k d high. fail k d (omega arith) high))
filter-end test (suc n) [] fail = refl
filter-end {X} test (suc n) (x ∷ xs) fail =
    ap (λ (r : List X). cond (test x) (x ∷ r) r) (filter-end test n xs (λ k d low high. fail (suc k) d (omega (arith, low)) (omega (arith, high))))

equal-by : (o : Ordering) → is_eq o ≡ true → o ≡ Equal
equal-by Less e = absurd (false≢true e)
equal-by Equal e = refl
equal-by Greater e = absurd (false≢true e)

-- an entry of a group has its parent
same-parent : (group key : Key) → is_child group key ≡ true → text_cmp key.parent group.parent ≡ Equal
same-parent group key e =
    let both = and_parts (is_same_panel key.panel group.panel && has_groups group.panel) (bytes_eq key.parent group.parent && not (is_empty key.label)) e in
    equal-by _ (is_eq-slice_cmp key.parent group.parent ∙ (and_parts (bytes_eq key.parent group.parent) (not (is_empty key.label)) both.1).0)

other-child : (group key : Key) (o : Ordering) → text_cmp key.parent group.parent ≡ o → (o ≡ Equal → ⊥) → is_child group key ≡ false
other-child group key o at other = elim (is_child group key) as (λ v. is_child group key ≡ v → v ≡ false) [
  | true ↦ λ e. absurd (other (sym at ∙ same-parent group key e))
  | false ↦ λ e. refl
] refl

behind : (group : Key) (item : SourceRow) → up-to group item ≡ false → is_child group item.key ≡ false
behind group item e = other-child group item.key (text_cmp item.key.parent group.parent) refl (λ same. false≢true (sym e ∙ ap is_le same))

ahead : (group : Key) (item : SourceRow) → before group item ≡ true → is_child group item.key ≡ false
ahead group item e = other-child group item.key (text_cmp item.key.parent group.parent) refl (λ same. false≢true (sym (ap is_lt same) ∙ e))

pub cut-end : (group : Key) (xs : List SourceRow) (n : ℕ) → IsPartitionPoint (λ y. up-to group y ≡ true) (λ y. up-to group y ≡ false) xs n
    → filter (λ item. is_child group item.key) (take n xs) ≡ filter (λ item. is_child group item.key) xs
cut-end group xs n point = filter-end (λ item. is_child group item.key) n xs (λ k d low high. behind group (get_or xs k d) (point.1 k d low high))

cut-front : (group : Key) (xs : List SourceRow) (n : ℕ) → IsPartitionPoint (λ y. before group y ≡ true) (λ y. before group y ≡ false) xs n
    → filter (λ item. is_child group item.key) (drop n xs) ≡ filter (λ item. is_child group item.key) xs
cut-front group xs n point = filter-front (λ item. is_child group item.key) n xs (λ k d low high. ahead group (get_or xs k d) (point.0 k d (omega arith) low))

-- what is left is a part of the list
pub cut-all : (group : Key) (xs : List SourceRow) (n : ℕ) → IsPartitionPoint (λ y. before group y ≡ true) (λ y. before group y ≡ false) xs n
    → filter (λ item. is_child group item.key) (take (length xs - n) (drop n xs)) ≡ filter (λ item. is_child group item.key) xs
cut-all group xs n point = ap (λ (r : List SourceRow). filter (λ (item : SourceRow). is_child group item.key) r) (take_rest xs n) ∙ cut-front group xs n point
