-- The items of a list that are to be shown, sorted, are the arrangement, and no other list is.
use Rattle.std.proofs.Common.{◌≡◌, ℕ, ◌+◌, ◌<◌, ◌&&◌, Bool, true, false, cond, List, [], ◌∷◌, Less, Equal, Greater, length, get_or, filter, map, refl, sym, ap, ◌∙◌, arith, zero-add}
use Rattle.std.specs.Prelude.{count_by}
use Rattle.std.specs.declared.cmp.Ordering.{Ordering}
use Rattle.std.specs.Ordering.{is_lt, ordering_then}
use Rattle.std.specs.Cmp.{IsTotalOrder}
use Rattle.std.specs.List.Sorted.{IsPermutation, IsSorted}
use Rattle.std.specs.List.{AllByRecursion}
use Rattle.std.proofs.lemmas.Bool.{and_parts}
use Rattle.std.proofs.lemmas.Cmp.{then_total, on_total, back_total, nat_cmp_total, nat_list_cmp_total}
use Rattle.std.proofs.lemmas.List.{get_or-map, length-map}
use Rattle.std.proofs.lemmas.List.Elements.{All-from_recursion, recursion_from_All}
use Rattle.std.proofs.lemmas.List.Sorted.{sum_by-IsPermutation, All-permutation}
use Rattle.std.proofs.lemmas.List.Sums.{sum_by-cons}
use Rattle.ga_base.specs.declared.key.Key.{Key}
use Rattle.ga_base.specs.declared.panel.Panel.{Panel}
use Rattle.ga_base.specs.declared.panel.Panel.TheVariants.{Visitors, VisitTimes}
use Rattle.std.specs.Prelude.{not}
use Rattle.std.specs.Str.{bytes_eq}
use Rattle.ga_base.specs.Layers.{has_groups, is_empty}
use Rattle.ga_base.specs.Panels.{is_same_panel}
use Rattle.ga_report.specs.Source.{SourceRow}
use Rattle.ga_report.specs.Items.{undated, is_child, is_row, is_of, has_item, item_of, item_order, last_first, by_hits, order, AreItems}
use Rattle.ga_report.specs.Steps.Summed.{undate, panel_rows, AreSummed}
use Rattle.ga_report.proofs.InPanel.{has-in-panel, item-in-panel, own-panel}
use Rattle.ga_report.proofs.ItemSums.{same-item, item_order_total}
use Rattle.ga_report.proofs.Lists.{all-filter, all-map}

pub last_first_total : IsTotalOrder last_first
last_first_total = then_total (on_total (λ (x : SourceRow). x.key.label) (back_total nat_list_cmp_total)) item_order_total

pub by_hits_total : IsTotalOrder by_hits
by_hits_total = then_total (on_total (λ (x : SourceRow). x.sums.hits) (back_total nat_cmp_total)) item_order_total

pub order_total : (panel : Panel) → IsTotalOrder (order panel)
order_total Visitors = last_first_total
order_total VisitTimes = item_order_total
order_total _ = by_hits_total

second-equal : (o p : Ordering) → ordering_then o p ≡ Equal → p ≡ Equal
second-equal Less p e = cc
second-equal Equal p e = e
second-equal Greater p e = cc

-- items that tie are one
pub order-exact : (panel : Panel) (x y : SourceRow) → order panel x y ≡ Equal → item_order x y ≡ Equal
order-exact Visitors x y e = second-equal _ _ e
order-exact VisitTimes x y e = e
order-exact _ x y e = second-equal _ _ e

-- the day is nothing to the order
order-undate : (panel : Panel) (x y : SourceRow) → order panel (undate x) (undate y) ≡ order panel x y
order-undate Visitors x y = refl
order-undate VisitTimes x y = refl
order-undate _ x y = refl

sorted-undate : (panel : Panel) (xs : List SourceRow) → IsSorted (order panel) xs → IsSorted (order panel) (map undate xs)
sorted-undate panel xs sorted = λ k d low high.
    let n : k + 1 < length xs = omega (arith, high, length-map xs undate) in
    let a = get_or-map undate xs (k + 1) d d n in
    let b = get_or-map undate xs k d d (omega (arith, n)) in
    rw (a, b) (ap is_lt (order-undate panel (get_or xs (k + 1) d) (get_or xs k d)) ∙ sorted k d low n)

count-cons : (p : SourceRow → Bool) (x : SourceRow) (xs : List SourceRow) → count_by p (x ∷ xs) ≡ cond (p x) 1 0 + count_by p xs
count-cons p x xs = sum_by-cons (λ (y : SourceRow). cond (p y) 1 0) x xs

pub count-pass : (p : SourceRow → Bool) (x : SourceRow) (xs : List SourceRow) → p x ≡ true → count_by p (x ∷ xs) ≡ 1 + count_by p xs
count-pass p x xs e = count-cons p x xs ∙ ap (λ (b : Bool). cond b 1 0 + count_by p xs) e

pub count-fail : (p : SourceRow → Bool) (x : SourceRow) (xs : List SourceRow) → p x ≡ false → count_by p (x ∷ xs) ≡ count_by p xs
count-fail p x xs e = count-cons p x xs ∙ ap (λ (b : Bool). cond b 1 0 + count_by p xs) e ∙ zero-add _

count-undate : (key : Key) (xs : List SourceRow) → count_by (is_of key) (map undate xs) ≡ count_by (is_of key) xs
count-undate key [] = refl
count-undate key (x ∷ xs) =
    count-cons (is_of key) (undate x) (map undate xs) ∙ ap (λ (n : ℕ). cond (is_of key x) 1 0 + n) (count-undate key xs) ∙ sym (count-cons (is_of key) x xs)

-- a test that the day is nothing to
abbrev pub ForItems : (Key → Bool) → Type 0
ForItems shown = (key : Key) → shown (undated key) ≡ shown key

count-shown : (shown : Key → Bool) → ForItems shown → (key : Key) (xs : List SourceRow) → count_by (is_of key) (filter (λ x. shown x.key) xs) ≡ cond (shown key) (count_by (is_of key) xs) 0
count-shown shown of key [] = same (shown key)
  where
    same : (b : Bool) → ◌≡◌ {A = ℕ} 0 (cond b 0 0)
    same true = refl
    same false = refl
count-shown shown of key (x ∷ xs) = go (filter (λ y. shown y.key) xs) (is_of key x) (shown x.key) refl refl (count-shown shown of key xs)
  where
    alike : is_of key x ≡ true → shown x.key ≡ shown key
    alike e = sym (of x.key) ∙ ap shown (same-item key x e) ∙ of key

    go : (kept : List SourceRow) (b s : Bool) → is_of key x ≡ b → shown x.key ≡ s → count_by (is_of key) kept ≡ cond (shown key) (count_by (is_of key) xs) 0
        → count_by (is_of key) (cond s (x ∷ kept) kept) ≡ cond (shown key) (count_by (is_of key) (x ∷ xs)) 0
    go kept true true e f rest =
        let k : shown key ≡ true = sym (alike e) ∙ f in
        let r : count_by (is_of key) kept ≡ count_by (is_of key) xs = rest ∙ ap (λ (b : Bool). cond b (count_by (is_of key) xs) 0) k in
        count-pass (is_of key) x kept e ∙ ap (λ (n : ℕ). 1 + n) r ∙ sym (count-pass (is_of key) x xs e) ∙ ap (λ (b : Bool). cond b (count_by (is_of key) (x ∷ xs)) 0) (sym k)
    go kept true false e f rest =
        let k : shown key ≡ false = sym (alike e) ∙ f in
        rest ∙ ap (λ (b : Bool). cond b (count_by (is_of key) xs) 0) k ∙ ap (λ (b : Bool). cond b (count_by (is_of key) (x ∷ xs)) 0) (sym k)
    go kept false true e f rest = count-fail (is_of key) x kept e ∙ rest ∙ ap (λ (n : ℕ). cond (shown key) n 0) (sym (count-fail (is_of key) x xs e))
    go kept false false e f rest = rest ∙ ap (λ (n : ℕ). cond (shown key) n 0) (sym (count-fail (is_of key) x xs e))

-- a test that keys of the panel alone pass
abbrev pub InPanel : Panel → (Key → Bool) → Type 0
InPanel panel shown = (key : Key) → shown key ≡ true → is_same_panel key.panel panel ≡ true

-- the items of a panel's rows that are to be shown, sorted
pub are-items : (panel : Panel) (shown : Key → Bool) → ForItems shown → InPanel panel shown → (rows items sorted : List SourceRow) → AreSummed (panel_rows panel rows) items
    → IsPermutation (filter (λ item. shown item.key) items) sorted → IsSorted (order panel) sorted → AreItems panel shown rows (map undate sorted)
are-items panel shown of inside rows items sorted are moved up = record {
  once = λ key.
      count-undate key sorted ∙ sum_by-IsPermutation (λ x. cond (is_of key x) 1 0) (filter (λ item. shown item.key) items) sorted moved
      ∙ count-shown shown of key items ∙ ap (λ (n : ℕ). cond (shown key) n 0) (are.once key) ∙ once-and key (shown key) refl;
  sums =
      let kept = All-from_recursion (λ item. undate item ≡ item_of item.key rows) (filter (λ item. shown item.key) items)
      (all-filter (λ item. undate item ≡ item_of item.key (panel_rows panel rows)) (λ item. undate item ≡ item_of item.key rows) (λ item. shown item.key)
      (λ item pass own. own ∙ item-in-panel panel item.key (inside item.key pass) rows) items (recursion_from_All _ items are.sums)) in
      All-from_recursion (λ item. item ≡ item_of item.key rows) (map undate sorted)
      (all-map undate (λ item. item ≡ item_of item.key rows) sorted (recursion_from_All _ sorted (All-permutation (λ item. undate item ≡ item_of item.key rows) (filter (λ item. shown item.key) items) sorted moved kept)));
  ordered = sorted-undate panel sorted up;
}
  where
    once-and : (key : Key) (b : Bool) → shown key ≡ b → ◌≡◌ {A = ℕ} (cond b (cond (has_item key (panel_rows panel rows)) 1 0) 0) (cond (b && has_item key rows) 1 0)
    once-and key true e = ap {B = ℕ} (λ (v : Bool). cond v 1 0) (has-in-panel panel key (inside key e) rows)
    once-and key false e = refl

-- the rows of a panel, and a group's entries, are of the panel
pub rows-inside : (panel : Panel) → InPanel panel (is_row panel)
rows-inside panel key e = (and_parts (is_same_panel key.panel panel) _ e).0

pub entries-inside : (group : Key) → InPanel group.panel (is_child group)
entries-inside group key e = (and_parts (is_same_panel key.panel group.panel) (has_groups group.panel) (and_parts _ (bytes_eq key.parent group.parent && not (is_empty key.label)) e).0).0

-- a panel without groups has no entries of a group
pub no-entry : (group key : Key) → has_groups group.panel ≡ false → is_child group key ≡ false
no-entry group key none = neither (is_same_panel key.panel group.panel) (has_groups group.panel) (bytes_eq key.parent group.parent && not (is_empty key.label)) none
  where
    neither : (a b c : Bool) → b ≡ false → ((a && b) && c) ≡ false
    neither true b c e = ap (λ (v : Bool). v && c) e
    neither false b c e = refl

-- so that each of its items is a row
pub all-rows : (panel : Panel) → has_groups panel ≡ false → (items : List SourceRow) → AllByRecursion (λ item. item.key.panel ≡ panel) items → items ≡ filter (λ item. is_row panel item.key) items
all-rows panel none [] all = refl
all-rows panel none (x ∷ xs) all =
    let own : is_same_panel x.key.panel panel ≡ true = ap (λ (p : Panel). is_same_panel p panel) all.0 ∙ own-panel panel in
    let row : is_row panel x.key ≡ true = rw (own, none) refl in
    rw row (ap (λ (r : List SourceRow). x ∷ r) (all-rows panel none xs all.1))
