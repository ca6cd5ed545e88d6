-- Lists that are related pair by pair.
use Rattle.std.proofs.Common.{◌≡◌, ℕ, zero, suc, ◌+◌, ◌<◌, ◌≤◌, ◌&&◌, Bool, true, false, cond, List, [], ◌∷◌, ◌++◌, length, map, filter, take, get_or, refl, sym, ap, ◌∙◌, subst, arith, take_all, All}
use Rattle.std.proofs.lemmas.List.{map-append}
use Rattle.std.proofs.lemmas.List.Elements.{All-from_recursion, recursion_from_All}
use Rattle.ga_base.specs.Layers.{has_groups}
use Rattle.ga_base.specs.Panels.{has_panel}
use Rattle.ga_report.specs.declared.report.General.{General}
use Rattle.ga_report.specs.declared.report.Item.{Item}
use Rattle.ga_base.specs.declared.panel.Panel.{Panel}
use Rattle.ga_base.specs.declared.panel.TheConstants.Panel.{ALL, COUNT}
use Rattle.ga_report.specs.declared.report.PanelList.{PanelList}
use Rattle.ga_report.specs.declared.report.Row.{Row}
use Rattle.ga_report.specs.Items.{has_item, is_child, is_row}
use Rattle.ga_report.specs.Reports.{AreChildren, IsPanelList, IsRow, Pairwise, general_of, panels_of, shown_as}
use Rattle.ga_report.specs.Steps.Summed.{AreTop, undate}
use Rattle.ga_report.specs.Source.{SourceRow, SourceValue}
use Rattle.ga_report.proofs.Arrangement.{no-entry}
use Rattle.ga_report.proofs.Lists.{all-weaker, filter-pass, filter-push, take-get}

pub pairs-push : {X Y : Type 0} (R : X → Y → Type 0) (xs : List X) (ys : List Y) (x : X) (y : Y) → Pairwise R xs ys → R x y → Pairwise R (xs ++ x ∷ []) (ys ++ y ∷ [])
pairs-push R [] [] x y pairs one = (one, tt)
pairs-push R [] (z ∷ zs) x y pairs one = absurd pairs
pairs-push R (z ∷ zs) [] x y pairs one = absurd pairs
pairs-push R (z ∷ zs) (w ∷ ws) x y pairs one = (pairs.0, pairs-push R zs ws x y pairs.1 one)

pub map-take : {X Y : Type 0} (f : X → Y) (n : ℕ) (xs : List X) → map f (take n xs) ≡ take n (map f xs)
map-take f zero [] = refl
map-take f zero (x ∷ xs) = refl
map-take f (suc n) [] = refl
map-take {X} {Y} f (suc n) (x ∷ xs) = ap (λ (ys : List Y). f x ∷ ys) (map-take f n xs)

-- the day is nothing to how items are shown
pub shown-undated : (general : General) (xs : List SourceRow) → map (shown_as general) xs ≡ map (shown_as general) (map undate xs)
shown-undated general [] = refl
shown-undated general (x ∷ xs) = ap (λ (ys : List Item). shown_as general x ∷ ys) (shown-undated general xs)

pub children-are : (general : General) (most : ℕ) (source : List SourceRow) (top : SourceRow) (kept lent : List SourceRow) (children : List Item)
    → lent ≡ kept → children ≡ map (shown_as general) lent → AreTop top.key.panel (is_child top.key) most source (map undate kept)
    → AreChildren general most source (undate top) children
children-are general most source top kept lent children e g are = record {
  entries = are.items;
  are_entries = are.are_items;
  shown = g ∙ ap (map (shown_as general)) e ∙ shown-undated general kept ∙ ap (map (shown_as general)) are.front;
}

pub panel-is : (general : General) (most : ℕ) (source : List SourceRow) (panel : Panel) (kept lent : List SourceRow) (rows : List Row)
    → lent ≡ kept → Pairwise (IsRow general most source) (map undate lent) rows → AreTop panel (is_row panel) most source (map undate kept)
    → IsPanelList general most source panel (record { panel = panel; rows = rows })
panel-is general most source panel kept lent rows e pairs are = record {
  is_panel = refl;
  items = are.items;
  are_items = are.are_items;
  shown = subst (λ (xs : List SourceRow). Pairwise (IsRow general most source) xs rows) (ap (map undate) e ∙ are.front) pairs;
}

-- a row more
pub rows-push : (R : SourceRow → Row → Type 0) (tops : List SourceRow) (n : ℕ) (top : SourceRow) (rows more : List Row) (row : Row) → n < length tops → top ≡ get_or tops n top
    → more ≡ rows ++ row ∷ [] → Pairwise R (map undate (take n tops)) rows → R (undate top) row → Pairwise R (map undate (take (n + 1) tops)) more
rows-push R tops n top rows more row below at e pairs one =
    let taken : take (n + 1) tops ≡ take n tops ++ top ∷ [] = take-get n tops top below ∙ ap (λ (x : SourceRow). take n tops ++ x ∷ []) (sym at) in
    let mapped : map undate (take (n + 1) tops) ≡ map undate (take n tops) ++ undate top ∷ [] = ap (map undate) taken ∙ map-append undate (take n tops) (top ∷ []) in
    subst (λ (ys : List Row). Pairwise R (map undate (take (n + 1) tops)) ys) (sym e)
    (subst (λ (xs : List SourceRow). Pairwise R xs (rows ++ row ∷ [])) (sym mapped) (pairs-push R (map undate (take n tops)) rows (undate top) row pairs one))

-- a panel without groups has rows without children
pub no-children : (general : General) (most : ℕ) (source : List SourceRow) (top : SourceRow) → has_groups top.key.panel ≡ false → AreChildren general most source (undate top) []
no-children general most source top none = record {
  entries = [];
  are_entries = record {
    once = λ key. ap {B = ℕ} (λ (b : Bool). cond (b && has_item key source) 1 0) (sym (no-entry top.key key none));
    sums = All-from_recursion _ [] tt;
    ordered = λ k d low high. absurd (omega (arith, high));
  };
  shown = nothing most;
}
  where
    nothing : (n : ℕ) → [] ≡ map (shown_as general) (take n [])
    nothing zero = refl
    nothing (suc n) = refl

-- and so has each of its items
pub plain-tops : (panel : Panel) → has_groups panel ≡ false → (tops : List SourceRow) → All (λ item. item.key.panel ≡ panel) tops → All (λ top. has_groups top.key.panel ≡ false) tops
plain-tops panel none tops all =
    All-from_recursion (λ top. has_groups top.key.panel ≡ false) tops
    (all-weaker (λ item. item.key.panel ≡ panel) (λ top. has_groups top.key.panel ≡ false) (λ item own. ap has_groups own ∙ none) tops (recursion_from_All _ tops all))

-- a panel more that is shown, or not
pub shown-more : (p : Panel → Bool) (panels : List Panel) (n : ℕ) (d : Panel) (shown more : List Panel) → n < length panels → p (get_or panels n d) ≡ true
    → more ≡ shown ++ get_or panels n d ∷ [] → shown ≡ filter p (take n panels) → more ≡ filter p (take (n + 1) panels)
shown-more p panels n d shown more below pass e is =
    e ∙ ap (λ (ps : List Panel). ps ++ get_or panels n d ∷ []) is ∙ sym (ap (filter p) (take-get n panels d below) ∙ filter-push p (take n panels) (get_or panels n d) pass)

pub shown-pass : (p : Panel → Bool) (panels : List Panel) (n : ℕ) (d : Panel) (shown more : List Panel) → n < length panels → p (get_or panels n d) ≡ false
    → more ≡ shown → shown ≡ filter p (take n panels) → more ≡ filter p (take (n + 1) panels)
shown-pass p panels n d shown more below fail e is =
    e ∙ is ∙ sym (ap (filter p) (take-get n panels d below) ∙ filter-pass p (take n panels) (get_or panels n d) fail)

pub shown-all : (set : List Bool) (n : ℕ) (shown : List Panel) → COUNT ≤ n → shown ≡ filter (has_panel set) (take n ALL) → shown ≡ panels_of set
unfolding panels_of
shown-all set n shown all is = is ∙ ap (filter (has_panel set)) (take_all n ALL all)

-- a list more
pub lists-push : {Y : Type 0} (R : Panel → Y → Type 0) (panels : List Panel) (n : ℕ) (d : Panel) (lists more : List Y) (list : Y) → n < length panels
    → more ≡ lists ++ list ∷ [] → Pairwise R (take n panels) lists → R (get_or panels n d) list → Pairwise R (take (n + 1) panels) more
lists-push {Y} R panels n d lists more list below e pairs one =
    subst (λ (ys : List Y). Pairwise R (take (n + 1) panels) ys) (sym e)
    (subst (λ (xs : List Panel). Pairwise R xs (lists ++ list ∷ [])) (sym (take-get n panels d below)) (pairs-push R (take n panels) lists (get_or panels n d) list pairs one))

pub lists-done : {Y : Type 0} (R : Panel → Y → Type 0) (panels : List Panel) (n : ℕ) (lists : List Y) → length panels ≤ n → Pairwise R (take n panels) lists → Pairwise R panels lists
lists-done {Y} R panels n lists all pairs = subst (λ (xs : List Panel). Pairwise R xs lists) (take_all n panels all) pairs

-- lists of two parts
pub pairs-both : {X Y : Type 0} (R : X → Y → Type 0) (xs us : List X) (ys vs : List Y) → Pairwise R xs ys → Pairwise R us vs → Pairwise R (xs ++ us) (ys ++ vs)
pairs-both R [] us [] vs pairs more = more
pairs-both R [] us (y ∷ ys) vs pairs more = absurd pairs
pairs-both R (x ∷ xs) us [] vs pairs more = absurd pairs
pairs-both R (x ∷ xs) us (y ∷ ys) vs pairs more = (pairs.0, pairs-both R xs us ys vs pairs.1 more)

-- the lists of a report are those of the panels of the set
pub lists-of : (source : SourceValue) (rows : List SourceRow) (set : List Bool) (most : ℕ) (general : General) (panels : List Panel) (lists : List PanelList) → general ≡ general_of source → panels ≡ panels_of set
    → Pairwise (IsPanelList general most rows) panels lists → Pairwise (IsPanelList (general_of source) most rows) (panels_of set) lists
lists-of source rows set most general panels lists e f pairs =
    subst (λ (ps : List Panel). Pairwise (IsPanelList (general_of source) most rows) ps lists) f
    (subst (λ (v : General). Pairwise (IsPanelList v most rows) panels lists) e pairs)
