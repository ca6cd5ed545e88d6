-- The first of a list's elements in their order.
use Rattle.std.proofs.Common.{◌≡◌, ℕ, zero, suc, ◌<◌, ◌≤◌, min, Bool, true, false, not, List, [], ◌∷◌, ◌++◌, length, get_or, take, map, filter, refl, sym, ap, ◌∙◌, subst, arith, All}
use Rattle.std.specs.declared.cmp.Ordering.{Ordering}
use Rattle.std.specs.Ordering.{is_lt}
use Rattle.std.specs.Cmp.{IsTotalOrder}
use Rattle.std.specs.List.{AllByRecursion}
use Rattle.std.specs.List.Sorted.{IsPermutation, IsSorted, IsSplitAroundBy}
use Rattle.std.proofs.Math.Bool.{not-not}
use Rattle.std.proofs.Math.Seq.{take-append_seam}
use Rattle.std.proofs.lemmas.List.{append-nil, append_assoc}
use Rattle.std.proofs.lemmas.List.Elements.{All-append, All-filter, All-take, filter_passes, recursion_from_All}
use Rattle.std.proofs.lemmas.List.Sorted.{All-permutation, IsPermutation-append_left, IsPermutation-append_right, IsPermutation-filter_both, IsPermutation-refl, IsPermutation-trans, length_permutation, ranks_by}
use Rattle.ga_base.specs.declared.key.Key.{Key}
use Rattle.ga_base.specs.declared.panel.Panel.{Panel}
use Rattle.ga_shards.proofs.Room.{filter-short}
use Rattle.ga_report.specs.Items.{order}
use Rattle.ga_report.specs.Steps.Summed.{AreFirst, AreSummed, AreTop, StandFirst, is_up_to, panel_rows, undate}
use Rattle.ga_report.specs.Source.{SourceRow}
use Rattle.ga_report.proofs.Arrangement.{ForItems, InPanel, are-items}
use Rattle.ga_report.proofs.Lists.{all-weaker}
use Rattle.ga_report.proofs.Pairs.{map-take}
use Rattle.ga_report.proofs.Sorting.{in-order, in-order-same, in-order-sorted, sorted-cons, sorted-head, sorted-tail}

take-first : (xs ys : List SourceRow) (most : ℕ) → length xs ≡ min most (length (xs ++ ys)) → xs ≡ take most (xs ++ ys)
take-first [] [] zero long = refl
take-first [] [] (suc most) long = refl
take-first [] (y ∷ ys) zero long = refl
take-first [] (y ∷ ys) (suc most) long = absurd (omega (arith, long))
take-first (x ∷ xs) ys zero long = absurd (omega (arith, long))
take-first (x ∷ xs) ys (suc most) long = ap (λ (r : List SourceRow). x ∷ r) (take-first xs ys most (omega (arith, long)))

module _ {R : SourceRow → SourceRow → Ordering} (o : IsTotalOrder R) where
  -- one that isn't less than those of a sorted list stands after them
  abbrev Behind : SourceRow → List SourceRow → Type 0
  Behind x ys = AllByRecursion (λ y. is_lt (R y x) ≡ false) ys

  sorted-join : (xs ys : List SourceRow) → IsSorted R xs → IsSorted R ys → AllByRecursion (λ x. Behind x ys) xs → IsSorted R (xs ++ ys)
  sorted-join [] ys up up' before = up'
  sorted-join (x ∷ []) [] up up' before = up
  sorted-join (x ∷ []) (y ∷ ys) up up' before = sorted-cons R o x (y ∷ ys) before.0.0 up'
  sorted-join (x ∷ y ∷ xs) ys up up' before =
      sorted-cons R o x (y ∷ xs ++ ys) (sorted-head R o x (y ∷ xs) up) (sorted-join (y ∷ xs) ys (sorted-tail R o x (y ∷ xs) up) up' before.1)

  -- what is split around an element: those in front of it come first
  pub come-first : (most : ℕ) (all front back : List SourceRow) (x : SourceRow) → IsPermutation all (front ++ x ∷ back) → length front ≡ most → most < length all
      → IsSplitAroundBy (λ a b. is_lt (R a b)) front x back → StandFirst R most all front
  come-first most all front back x moved long less split = record {
    rest = x ∷ back;
    are_all = moved;
    before = λ k d at. behind k d at;
    many = omega (arith, long, less);
  }
    where
      behind : (k : ℕ) (d : SourceRow) → k < length front → (j : ℕ) (e : SourceRow) → j < length (x ∷ back) → is_lt (R (get_or (x ∷ back) j e) (get_or front k d)) ≡ false
      behind k d at zero e there = split.0 k d at
      behind k d at (suc j) e there = (ranks_by o (λ y. y)).chain (get_or back j e) x (get_or front k d) (split.1 j e (omega (arith, there))) (split.0 k d at)

  -- where no more are wanted than there are, all come first
  pub come-first-all : (most : ℕ) (all : List SourceRow) → length all ≤ most → StandFirst R most all all
  come-first-all most all few = record {
    rest = [];
    are_all = subst (IsPermutation all) (sym (append-nil all)) (IsPermutation-refl all);
    before = λ k d at j e there. absurd (omega (arith, there));
    many = omega (arith, few);
  }

  -- those that come first of what doesn't come after a threshold, where that is enough, come first of all
  pub come-first-of : (most : ℕ) (all first : List SourceRow) (threshold : SourceRow) → most ≤ length (filter (is_up_to R threshold) all) → StandFirst R most (filter (is_up_to R threshold) all) first → StandFirst R most all first
  come-first-of most all first threshold enough come =
      let near = filter (is_up_to R threshold) all in
      let far = filter (λ x. is_lt (R threshold x)) all in
      let split : IsPermutation all (near ++ far) = IsPermutation-filter_both (is_up_to R threshold) (λ x. is_lt (R threshold x)) (λ x. sym (not-not (is_lt (R threshold x)))) all in
      let moved : IsPermutation all (first ++ come.rest ++ far) = IsPermutation-trans _ _ _ split (IsPermutation-append_left far near (first ++ come.rest) come.are_all) in
      let near-all : All (λ x. is_up_to R threshold x ≡ true) (first ++ come.rest) = All-permutation (λ x. is_up_to R threshold x ≡ true) near (first ++ come.rest) come.are_all (filter_passes (is_up_to R threshold) all) in
      let near-first : All (λ x. is_up_to R threshold x ≡ true) first = subst (λ (xs : List SourceRow). All (λ x. is_up_to R threshold x ≡ true) xs) (take-append_seam first come.rest)
      (All-take (λ x. is_up_to R threshold x ≡ true) (length first) (first ++ come.rest) near-all) in
      record {
        rest = come.rest ++ far;
        are_all = subst (λ (xs : List SourceRow). IsPermutation all xs) (append_assoc first come.rest far) moved;
        before = λ k d at. All-append (λ y. is_lt (R y (get_or first k d)) ≡ false) come.rest far (come.before k d at) (behind-far (get_or first k d) (near-first k d at));
        many = come.many ∙ few;
      }
    where
      few : min most (length (filter (is_up_to R threshold) all)) ≡ min most (length all)
      few = omega (arith, enough, filter-short (is_up_to R threshold) all)

      behind : (y : SourceRow) → is_lt (R threshold y) ≡ true → is_lt (R y threshold) ≡ false
      behind y less = (ranks_by o (λ y. y)).one_way threshold y less

      behind-far : (x : SourceRow) → is_up_to R threshold x ≡ true → All (λ y. is_lt (R y x) ≡ false) (filter (λ y. is_lt (R threshold y)) all)
      behind-far x near j e there =
          let far = filter (λ y. is_lt (R threshold y)) all in
          (ranks_by o (λ y. y)).chain (get_or far j e) threshold x (behind (get_or far j e) (filter_passes (λ y. is_lt (R threshold y)) all j e there)) (sym (not-not (is_lt (R threshold x))) ∙ ap not near)

  -- those that come first, sorted, are the first
  pub are-first : (most : ℕ) (all first sorted : List SourceRow) → StandFirst R most all first → IsPermutation first sorted → IsSorted R sorted → AreFirst R most all sorted
  are-first most all first sorted come moved up =
      let rest = in-order R o come.rest in
      let rest-moved = in-order-same R o come.rest in
      let long : length sorted ≡ length first = length_permutation first sorted moved in
      let many : length sorted ≡ min most (length all) = long ∙ come.many in
      let whole = IsPermutation-trans _ _ _ come.are_all
      (IsPermutation-trans _ (sorted ++ come.rest) _ (IsPermutation-append_left come.rest first sorted moved) (IsPermutation-append_right sorted come.rest rest rest-moved)) in
      let behind = λ (x : SourceRow) (h : All (λ y. is_lt (R y x) ≡ false) come.rest). recursion_from_All _ rest (All-permutation (λ y. is_lt (R y x) ≡ false) come.rest rest rest-moved h) in
      let before : AllByRecursion (λ x. Behind x rest) sorted =
      all-weaker (λ x. All (λ y. is_lt (R y x) ≡ false) come.rest) (λ x. Behind x rest) behind sorted
      (recursion_from_All _ sorted (All-permutation (λ x. All (λ y. is_lt (R y x) ≡ false) come.rest) first sorted moved come.before)) in
      record {
        ordered = sorted ++ rest;
        same = whole;
        sorted = sorted-join sorted rest up (in-order-sorted R o come.rest) before;
        front = take-first sorted rest most (many ∙ ap (λ (n : ℕ). min most n) (sym (length_permutation all (sorted ++ rest) whole)));
      }

-- of the items of a panel or of a group, the first
pub are-top : (panel : Panel) (shown : Key → Bool) → ForItems shown → InPanel panel shown → (most : ℕ) (source items among first : List SourceRow) → among ≡ filter (λ item. shown item.key) items
    → AreFirst (order panel) most among first → AreSummed (panel_rows panel source) items → AreTop panel shown most source (map undate first)
are-top panel shown of inside most source items among first is are summed = record {
  items = map undate are.ordered;
  are_items = are-items panel shown of inside source items are.ordered summed (subst (λ (xs : List SourceRow). IsPermutation xs are.ordered) is are.same) are.sorted;
  front = ap (map undate) are.front ∙ map-take undate most are.ordered;
}

-- what holds of all holds of the first
pub all-first : (P : SourceRow → Type 0) (panel : Panel) (most : ℕ) (among first : List SourceRow) → AreFirst (order panel) most among first → All P among → All P first
all-first P panel most among first are all =
    subst (λ (xs : List SourceRow). All P xs) (sym are.front) (All-take P most are.ordered (All-permutation P among are.ordered are.same all))

pub all-first-of : (P : SourceRow → Type 0) (panel : Panel) (p : SourceRow → Bool) (most : ℕ) (items among first : List SourceRow) → among ≡ filter p items → AreFirst (order panel) most among first → All P items → All P first
all-first-of P panel p most items among first is are all =
    all-first P panel most among first are (subst (λ (xs : List SourceRow). All P xs) (sym is) (All-filter p P items all))
