-- A report can be printed: its panels are different, and its items have hits.
use Rattle.std.proofs.Common.{◌≡◌, ℕ, ◌≤◌, ◌&&◌, ◌||◌, ◌==◌, Bool, true, false, cond, List, [], ◌∷◌, Less, map, filter, take, sum_by, refl, sym, ap, subst, arith, All}
use Rattle.std.specs.Prelude.{count_by}
use Rattle.std.specs.declared.cmp.Ordering.{Ordering}
use Rattle.std.specs.Ordering.{nat_cmp}
use Rattle.std.specs.List.{AllByRecursion, IsDistinct, list_any}
use Rattle.std.specs.List.Sorted.{IsStrictlySortedBy}
use Rattle.std.proofs.lemmas.Bool.{false≢true}
use Rattle.std.proofs.lemmas.List.Elements.{All-from_recursion, recursion_from_All, All-take}
use Rattle.std.proofs.lemmas.List.Kept.{IsStrictlySortedBy-filter}
use Rattle.std.proofs.lemmas.List.Sums.{sum_by-cons}
use Rattle.std.proofs.lemmas.Bool.Decides.{Decides-eqb}
use Rattle.std.proofs.lemmas.Cmp.{nat_cmp_total}
use Rattle.ga_base.specs.declared.date_spec.DateSpec.{DateSpec}
use Rattle.ga_base.specs.declared.key.Key.{Key}
use Rattle.ga_base.specs.declared.panel.Panel.{Panel}
use Rattle.ga_base.specs.declared.panel.TheConstants.Panel.{ALL}
use Rattle.ga_base.specs.Panels.{is_same_panel, panel_number, has_panel}
use Rattle.ga_report.specs.declared.report.General.{General}
use Rattle.ga_report.specs.declared.report.Item.{Item}
use Rattle.ga_report.specs.declared.report.PanelList.{PanelList}
use Rattle.ga_report.specs.declared.report.Report.{Report}
use Rattle.ga_report.specs.declared.report.Row.{Row}
use Rattle.ga_report.specs.Source.{SourceRow, SourceValue}
use Rattle.ga_report.specs.Items.{is_of, is_shown, has_item, shown_rows, AreItems}
use Rattle.ga_report.specs.Printable.{HasHits, IsPrintable}
use Rattle.ga_report.specs.Reports.{IsRow, IsPanelList, IsReport, Pairwise, general_of, panels_of, shown_as}
use Rattle.ga_report.specs.SoundRows.{AreSound}
use Rattle.ga_report.proofs.ItemSums.{own-item}
use Rattle.ga_report.proofs.Lists.{In, all-filter, all-in, all-map, all-weaker, not-itself}
use Rattle.ga_report.proofs.OneArrangement.{in-count, is-its-item}

abbrev by_number : Panel → Panel → Ordering
by_number a b = nat_cmp (panel_number a) (panel_number b)

all-rise : IsStrictlySortedBy by_number ALL
unfolding IsStrictlySortedBy
all-rise = ((refl, (refl, (refl, (refl, (refl, (refl, (refl, (refl, (refl, (refl, (refl, (refl, (refl, (refl, (refl, (refl, tt)))))))))))))))), ((refl, (refl, (refl, (refl, (refl, (refl, (refl, (refl, (refl, (refl, (refl, (refl, (refl, (refl, (refl, tt))))))))))))))), ((refl, (refl, (refl, (refl, (refl, (refl, (refl, (refl, (refl, (refl, (refl, (refl, (refl, (refl, tt)))))))))))))), ((refl, (refl, (refl, (refl, (refl, (refl, (refl, (refl, (refl, (refl, (refl, (refl, (refl, tt))))))))))))), ((refl, (refl, (refl, (refl, (refl, (refl, (refl, (refl, (refl, (refl, (refl, (refl, tt)))))))))))), ((refl, (refl, (refl, (refl, (refl, (refl, (refl, (refl, (refl, (refl, (refl, tt))))))))))), ((refl, (refl, (refl, (refl, (refl, (refl, (refl, (refl, (refl, (refl, tt)))))))))), ((refl, (refl, (refl, (refl, (refl, (refl, (refl, (refl, (refl, tt))))))))), ((refl, (refl, (refl, (refl, (refl, (refl, (refl, (refl, tt)))))))), ((refl, (refl, (refl, (refl, (refl, (refl, (refl, tt))))))), ((refl, (refl, (refl, (refl, (refl, (refl, tt)))))), ((refl, (refl, (refl, (refl, (refl, tt))))), ((refl, (refl, (refl, (refl, tt)))), ((refl, (refl, (refl, tt))), ((refl, (refl, tt)), ((refl, tt), (tt, tt)))))))))))))))))

shown-rise : (set : List Bool) → IsStrictlySortedBy by_number (panels_of set)
unfolding panels_of
shown-rise set = IsStrictlySortedBy-filter by_number (has_panel set) ALL all-rise

apart : (a b : Panel) → by_number a b ≡ Less → is_same_panel a b ≡ false
unfolding is_same_panel
apart a b less = go (panel_number a == panel_number b) refl
  where
    go : (v : Bool) → (panel_number a == panel_number b) ≡ v → v ≡ false
    go false e = refl
    go true e = absurd (not-itself nat_cmp nat_cmp_total (panel_number b) (subst (λ (n : ℕ). nat_cmp n (panel_number b) ≡ Less) ((Decides-eqb (panel_number a) (panel_number b)).0 e) less))

rise-distinct : (panels : List Panel) → IsStrictlySortedBy by_number panels → IsDistinct is_same_panel panels
unfolding IsStrictlySortedBy IsDistinct
rise-distinct [] up = tt
rise-distinct (x ∷ xs) up = (all-weaker (λ y. by_number x y ≡ Less) (λ y. is_same_panel x y ≡ false) (apart x) xs up.0, rise-distinct xs up.1)

pairwise-map : {X Y : Type 0} (R : X → Y → Type 0) (f : Y → X) → ((x : X) (y : Y) → R x y → f y ≡ x) → (xs : List X) (ys : List Y) → Pairwise R xs ys → map f ys ≡ xs
pairwise-map R f is [] [] p = refl
pairwise-map R f is [] (y ∷ ys) p = absurd p
pairwise-map R f is (x ∷ xs) [] p = absurd p
pairwise-map R f is (x ∷ xs) (y ∷ ys) p = let head = is x y p.0 in let tail = pairwise-map R f is xs ys p.1 in λ i. head i ∷ tail i

pairwise-all : {X Y : Type 0} (R : X → Y → Type 0) (Q : X → Type 0) (P : Y → Type 0) → ((x : X) (y : Y) → Q x → R x y → P y) → (xs : List X) (ys : List Y)
    → AllByRecursion Q xs → Pairwise R xs ys → AllByRecursion P ys
pairwise-all R Q P h [] [] all p = tt
pairwise-all R Q P h [] (y ∷ ys) all p = absurd p
pairwise-all R Q P h (x ∷ xs) [] all p = absurd p
pairwise-all R Q P h (x ∷ xs) (y ∷ ys) all p = (h x y all.0 p.0, pairwise-all R Q P h xs ys all.1 p.1)

-- rows that have hits, and one of which is of the item, have a hit of it
some-hit : (p : SourceRow → Bool) (rows : List SourceRow) → AllByRecursion (λ row. 1 ≤ row.sums.hits) rows → list_any p rows ≡ true → 1 ≤ sum_by (λ row. row.sums.hits) (filter p rows)
some-hit p [] all e = absurd (false≢true e)
some-hit p (x ∷ xs) all e = elim (p x) as (λ v. (v || list_any p xs) ≡ true → 1 ≤ sum_by (λ (row : SourceRow). row.sums.hits) (cond v (x ∷ filter p xs) (filter p xs))) [
  | true ↦ λ here. omega (arith, all.0, sum_by-cons (λ (row : SourceRow). row.sums.hits) x (filter p xs))
  | false ↦ λ there. some-hit p xs all.1 there
] e

and-right : (a b : Bool) → (a && b) ≡ true → b ≡ true
and-right true b e = e
and-right false b e = absurd (false≢true e)

counted : (b : Bool) (n : ℕ) → n ≡ cond b 1 0 → 1 ≤ n → b ≡ true
counted true n e h = refl
counted false n e h = absurd (omega (arith, e, h))

module _ (rows : List SourceRow) (hits : All (λ row. 1 ≤ row.sums.hits) rows) where
  items-hit : (panel : Panel) (shown : Key → Bool) (items : List SourceRow) → AreItems panel shown rows items → All (λ item. 1 ≤ item.sums.hits) items
  items-hit panel shown items are = All-from_recursion (λ item. 1 ≤ item.sums.hits) items (all-in (λ item. 1 ≤ item.sums.hits) items hit)
    where
      hit : (x : SourceRow) → In x items → 1 ≤ x.sums.hits
      hit x there =
          let has = and-right (shown x.key) (has_item x.key rows) (counted (shown x.key && has_item x.key rows) (count_by (is_of x.key) items) (are.once x.key) (in-count (is_of x.key) x items (own-item x) there)) in
          omega (arith, some-hit (is_of x.key) rows (recursion_from_All _ rows hits) has, ap (λ (r : SourceRow). r.sums.hits) (is-its-item panel shown rows items are x there))

  row-hits : (general : General) (most : ℕ) (item : SourceRow) (row : Row) → 1 ≤ item.sums.hits → IsRow general most rows item row → HasHits row
  row-hits general most item row own is = record {
    own = omega (arith, own, ap (λ (i : Item). i.hits) is.is_item);
    children =
        let c = is.children in
        subst (λ (xs : List Item). All (λ i. 1 ≤ i.hits) xs) (sym c.shown)
        (All-from_recursion (λ i. 1 ≤ i.hits) (map (shown_as general) (take most c.entries)) (all-map (shown_as general) (λ i. 1 ≤ i.hits) (take most c.entries)
        (recursion_from_All _ (take most c.entries) (All-take (λ e. 1 ≤ e.sums.hits) most c.entries (items-hit item.key.panel _ c.entries c.are_entries)))));
  }

  panel-hits : (general : General) (most : ℕ) (panel : Panel) (list : PanelList) → IsPanelList general most rows panel list → All HasHits list.rows
  panel-hits general most panel list is =
      All-from_recursion HasHits list.rows (pairwise-all (IsRow general most rows) (λ item. 1 ≤ item.sums.hits) HasHits (row-hits general most) (take most is.items) list.rows
      (recursion_from_All _ (take most is.items) (All-take (λ e. 1 ≤ e.sums.hits) most is.items (items-hit panel _ is.items is.are_items))) is.shown)

anything : {X : Type 0} (xs : List X) → AllByRecursion (λ _. Unit {0}) xs
anything [] = tt
anything (x ∷ xs) = (tt, anything xs)

-- rows that are shown have hits, as all have
hits-shown : (spec : DateSpec) (rows : List SourceRow) → All (λ row. 1 ≤ row.sums.hits) rows → All (λ row. 1 ≤ row.sums.hits) (shown_rows spec rows)
hits-shown spec rows all =
    All-from_recursion (λ row. 1 ≤ row.sums.hits) (shown_rows spec rows)
    (all-filter (λ row. 1 ≤ row.sums.hits) (λ row. 1 ≤ row.sums.hits) (λ row. is_shown spec row.key) (λ row _ hit. hit) rows (recursion_from_All _ rows all))

pub printable : (source : SourceValue) (set : List Bool) (most : ℕ) (spec : DateSpec) (report : Report) → AreSound source.rows → IsReport source set most spec report → IsPrintable report
printable source set most spec report sound is =
    let rows = shown_rows spec source.rows in
    record {
      different = subst (λ (panels : List Panel). IsDistinct is_same_panel panels)
          (sym (pairwise-map (IsPanelList (general_of source) most rows) (λ list. list.panel) (λ panel list h. h.is_panel) (panels_of set) report.panels is.panels))
          (rise-distinct (panels_of set) (shown-rise set));
      hits = All-from_recursion (λ list. All HasHits list.rows) report.panels
          (pairwise-all (IsPanelList (general_of source) most rows) (λ _. Unit {0}) (λ list. All HasHits list.rows)
          (λ panel list _ h. panel-hits rows (hits-shown spec source.rows sound.hit) (general_of source) most panel list h) (panels_of set) report.panels (anything (panels_of set)) is.panels);
    }
