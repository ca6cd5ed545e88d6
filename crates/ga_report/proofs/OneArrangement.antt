-- The arrangement of items is one list.
use Rattle.std.proofs.Common.{◌≡◌, ℕ, suc, ◌+◌, ◌≤◌, ◌&&◌, Bool, true, false, cond, List, [], ◌∷◌, inl, inr, Less, Equal, Greater, get_or, map, take, refl, sym, ap, ◌∙◌, subst, arith}
use Rattle.std.specs.Prelude.{count_by}
use Rattle.std.specs.declared.cmp.Ordering.{Ordering}
use Rattle.std.specs.Ordering.{is_lt, is_eq, ordering_reverse}
use Rattle.std.specs.List.Sorted.{IsSorted, IsStrictlySortedBy}
use Rattle.std.proofs.lemmas.Bool.{false≢true}
use Rattle.std.proofs.lemmas.List.Elements.{recursion_from_All}
use Rattle.ga_base.specs.declared.date_spec.DateSpec.{DateSpec}
use Rattle.ga_base.specs.declared.key.Key.{Key}
use Rattle.ga_base.specs.declared.panel.Panel.{Panel}
use Rattle.ga_report.specs.declared.report.General.{General}
use Rattle.ga_report.specs.declared.report.Item.{Item}
use Rattle.ga_report.specs.declared.report.PanelList.{PanelList}
use Rattle.ga_report.specs.declared.report.Report.{Report}
use Rattle.ga_report.specs.declared.report.Row.{Row}
use Rattle.ga_report.specs.Source.{SourceRow, SourceValue}
use Rattle.ga_report.specs.Items.{is_of, has_item, item_of, order, shown_rows, AreItems}
use Rattle.ga_report.specs.Reports.{AreChildren, IsRow, IsPanelList, IsReport, Pairwise, general_of, panels_of, shown_as}
use Rattle.ga_report.proofs.Arrangement.{order_total, order-exact, count-pass, count-fail}
use Rattle.ga_report.proofs.ItemSums.{same-item, own-item}
use Rattle.ga_report.proofs.Lists.{In, at-all, all-in, one-list}

pub in-count : (p : SourceRow → Bool) (x : SourceRow) (xs : List SourceRow) → p x ≡ true → In x xs → 1 ≤ count_by p xs
in-count p x [] is there = absurd there
in-count p x (y ∷ ys) is (inl e) = omega (arith, count-pass p y ys (ap p (sym e) ∙ is))
in-count p x (y ∷ ys) is (inr there) = elim (p y) as (λ v. p y ≡ v → 1 ≤ count_by p (y ∷ ys)) [
  | true ↦ λ pass. omega (arith, count-pass p y ys pass)
  | false ↦ λ fail. omega (arith, count-fail p y ys fail, in-count p x ys is there)
] refl

count-in : (p : SourceRow → Bool) (xs : List SourceRow) → 1 ≤ count_by p xs → (x : SourceRow) × In x xs × (p x ≡ true)
count-in p [] h = absurd (omega arith)
count-in p (y ∷ ys) h = elim (p y) as (λ v. p y ≡ v → (x : SourceRow) × In x (y ∷ ys) × (p x ≡ true)) [
  | true ↦ λ is. (y, inl refl, is)
  | false ↦ λ other. let more = count-in p ys (omega (arith, h, count-fail p y ys other)) in (more.0, inr more.1, more.2)
] refl

module _ (panel : Panel) where
  sorted-tail : (x : SourceRow) (xs : List SourceRow) → IsSorted (order panel) (x ∷ xs) → IsSorted (order panel) xs
  sorted-tail x xs s k d low high =
      let next : suc k + 1 ≡ suc (k + 1) = omega arith in
      subst (λ (n : ℕ). is_lt (order panel (get_or (x ∷ xs) n d) (get_or xs k d)) ≡ false) next (s (suc k) d (omega arith) (omega arith))

  -- an item that isn't less than another, and is another, comes after it
  comes-after : (x y : SourceRow) → is_lt (order panel y x) ≡ false → is_of x.key y ≡ false → order panel x y ≡ Less
  comes-after x y before other = go (order panel y x) refl before
    where
      go : (v : Ordering) → order panel y x ≡ v → is_lt v ≡ false → order panel x y ≡ Less
      go Less is e = absurd (false≢true (sym e))
      go Equal is e = absurd (false≢true (sym other ∙ ap is_eq (order-exact panel y x is)))
      go Greater is e = (order_total panel).antisymm x y ∙ ap ordering_reverse is

  next-differs : (x y : SourceRow) (ys : List SourceRow) → count_by (is_of x.key) (x ∷ y ∷ ys) ≤ 1 → is_of x.key y ≡ false
  next-differs x y ys h = go (is_of x.key y) refl
    where
      go : (v : Bool) → is_of x.key y ≡ v → v ≡ false
      go false e = refl
      go true e = absurd (omega (arith, h, count-pass (is_of x.key) x (y ∷ ys) (own-item x), count-pass (is_of x.key) y ys e))

  fewer-behind : (key : Key) (x : SourceRow) (xs : List SourceRow) → count_by (is_of key) (x ∷ xs) ≤ 1 → count_by (is_of key) xs ≤ 1
  fewer-behind key x xs h = elim (is_of key x) as (λ v. is_of key x ≡ v → count_by (is_of key) xs ≤ 1) [
    | true ↦ λ e. omega (arith, h, count-pass (is_of key) x xs e)
    | false ↦ λ e. omega (arith, h, count-fail (is_of key) x xs e)
  ] refl

  -- sorted items, none of which stands twice, rise strictly
  rises : (xs : List SourceRow) → IsSorted (order panel) xs → ((key : Key) → count_by (is_of key) xs ≤ 1) → IsStrictlySortedBy (order panel) xs
  unfolding IsStrictlySortedBy
  rises [] s once = tt
  rises (x ∷ []) s once = (tt, tt)
  rises (x ∷ y ∷ ys) s once =
      let rest = rises (y ∷ ys) (sorted-tail x (y ∷ ys) s) (λ key. fewer-behind key x (y ∷ ys) (once key)) in
      let less = comes-after x y (s 0 x (omega arith) (omega arith)) (next-differs x y ys (once x.key)) in
      let above = all-in (λ z. order panel x z ≡ Less) ys (λ z there. (order_total panel).trans x y z less (at-all (λ w. order panel y w ≡ Less) z ys rest.0 there)) in
      ((less, above), rest)

at-most-one : (b : Bool) {n : ℕ} → n ≡ cond b 1 0 → n ≤ 1
at-most-one true e = omega (arith, e)
at-most-one false e = omega (arith, e)

module _ (panel : Panel) (shown : Key → Bool) (rows : List SourceRow) where
  pub is-its-item : (a : List SourceRow) → AreItems panel shown rows a → (x : SourceRow) → In x a → x ≡ item_of x.key rows
  is-its-item a h x there = at-all (λ item. item ≡ item_of item.key rows) x a (recursion_from_All _ a h.sums) there

  stands : (a b : List SourceRow) → AreItems panel shown rows a → AreItems panel shown rows b → (x : SourceRow) → In x a → In x b
  stands a b h k x there =
      let here = count-in (is_of x.key) b (omega (arith, in-count (is_of x.key) x a (own-item x) there, h.once x.key ∙ sym (k.once x.key))) in
      let key = same-item x.key here.0 here.2 in
      let same : here.0 ≡ x = is-its-item b k here.0 here.1 ∙ ap (λ (y : Key). item_of y rows) key ∙ sym (is-its-item a h x there) in
      subst (λ (y : SourceRow). In y b) same here.1

  pub one-arrangement : (a b : List SourceRow) → AreItems panel shown rows a → AreItems panel shown rows b → a ≡ b
  one-arrangement a b x y =
      one-list (order panel) (order_total panel) a b (rises panel a x.ordered (λ key. at-most-one (shown key && has_item key rows) (x.once key)))
      (rises panel b y.ordered (λ key. at-most-one (shown key && has_item key rows) (y.once key))) (stands a b x y) (stands b a y x)

pairwise-one : {X Y : Type 0} (R : X → Y → Type 0) → ((x : X) (y z : Y) → R x y → R x z → y ≡ z) → (xs : List X) (ys zs : List Y) → Pairwise R xs ys → Pairwise R xs zs → ys ≡ zs
pairwise-one R one [] [] [] p q = refl
pairwise-one R one [] (y ∷ ys) zs p q = absurd p
pairwise-one R one [] [] (z ∷ zs) p q = absurd q
pairwise-one R one (x ∷ xs) [] zs p q = absurd p
pairwise-one R one (x ∷ xs) (y ∷ ys) [] p q = absurd q
pairwise-one R one (x ∷ xs) (y ∷ ys) (z ∷ zs) p q =
    let head = one x y z p.0 q.0 in
    let tail = pairwise-one R one xs ys zs p.1 q.1 in
    λ i. head i ∷ tail i

module _ (general : General) (most : ℕ) (rows : List SourceRow) where
  one-children : (item : SourceRow) (a b : List Item) → AreChildren general most rows item a → AreChildren general most rows item b → a ≡ b
  one-children item a b x y =
      let same = one-arrangement item.key.panel _ rows x.entries y.entries x.are_entries y.are_entries in
      x.shown ∙ ap (λ (es : List SourceRow). map (shown_as general) (take most es)) same ∙ sym y.shown

  one-row : (item : SourceRow) (a b : Row) → IsRow general most rows item a → IsRow general most rows item b → a ≡ b
  one-row item a b x y =
      let same = x.is_item ∙ sym y.is_item in
      let children = one-children item a.children b.children x.children y.children in
      λ i. record { item = same i; children = children i }

  one-panel : (panel : Panel) (a b : PanelList) → IsPanelList general most rows panel a → IsPanelList general most rows panel b → a ≡ b
  one-panel panel a b x y =
      let same = one-arrangement panel _ rows x.items y.items x.are_items y.are_items in
      let panels = x.is_panel ∙ sym y.is_panel in
      let lists = pairwise-one (IsRow general most rows) one-row (take most y.items) a.rows b.rows
      (subst (λ (es : List SourceRow). Pairwise (IsRow general most rows) (take most es) a.rows) same x.shown) y.shown in
      λ i. record { panel = panels i; rows = lists i }

pub one-report : (source : SourceValue) (set : List Bool) (most : ℕ) (spec : DateSpec) (a b : Report) → IsReport source set most spec a → IsReport source set most spec b → a ≡ b
one-report source set most spec a b x y =
    let generals = x.general ∙ sym y.general in
    let rows = shown_rows spec source.rows in
    let lists = pairwise-one (IsPanelList (general_of source) most rows) (one-panel (general_of source) most rows) (panels_of set) a.panels b.panels x.panels y.panels in
    λ i. record { general = generals i; panels = lists i }
