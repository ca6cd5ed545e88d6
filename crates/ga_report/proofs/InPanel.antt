-- The rows of a panel: an item of the panel has them all.
use Rattle.std.proofs.Common.{◌≡◌, ◌||◌, Bool, true, false, cond, List, [], ◌∷◌, filter, refl, sym, ap, ◌∙◌, eq-eqb}
use Rattle.std.specs.List.{list_any}
use Rattle.std.proofs.lemmas.Bool.{false≢true}
use Rattle.std.proofs.lemmas.Bool.Decides.{Decides-eqb}
use Rattle.ga_base.specs.declared.key.Key.{Key}
use Rattle.ga_base.specs.declared.panel.Panel.{Panel}
use Rattle.ga_base.specs.Panels.{is_same_panel, panel_number}
use Rattle.ga_base.proofs.OrderLemmas.{panel_number_exact}
use Rattle.ga_report.specs.Source.{SourceRow}
use Rattle.ga_report.specs.Items.{has_item, is_of, item_of, together}
use Rattle.ga_report.specs.Steps.Summed.{panel_rows}
use Rattle.ga_report.proofs.ItemSums.{same-item}

pub own-panel : (panel : Panel) → is_same_panel panel panel ≡ true
unfolding is_same_panel
own-panel panel = eq-eqb (panel_number panel) (panel_number panel) refl

pub exact-panel : (a b : Panel) → is_same_panel a b ≡ true → a ≡ b
unfolding is_same_panel
exact-panel a b e = panel_number_exact a b ((Decides-eqb (panel_number a) (panel_number b)).0 e)

module _ {X : Type 0} (p q : X → Bool) (weaker : (x : X) → q x ≡ true → p x ≡ true) where
  fails : (x : X) → p x ≡ false → q x ≡ false
  fails x other = go (q x) refl
    where
      go : (b : Bool) → q x ≡ b → b ≡ false
      go true e = absurd (false≢true (sym other ∙ weaker x e))
      go false e = refl

  -- those that pass a stronger test pass a weaker one
  pub filter-weaker : (xs : List X) → filter q (filter p xs) ≡ filter q xs
  filter-weaker [] = refl
  filter-weaker (x ∷ xs) = elim (p x) as (λ b. p x ≡ b → filter q (cond b (x ∷ filter p xs) (filter p xs)) ≡ cond (q x) (x ∷ filter q xs) (filter q xs)) [
    | true ↦ λ pass. ap (λ (r : List X). cond (q x) (x ∷ r) r) (filter-weaker xs)
    | false ↦ λ other. filter-weaker xs ∙ ap (λ (b : Bool). cond b (x ∷ filter q xs) (filter q xs)) (sym (fails x other))
  ] refl

  pub any-weaker : (xs : List X) → list_any q (filter p xs) ≡ list_any q xs
  any-weaker [] = refl
  any-weaker (x ∷ xs) = elim (p x) as (λ b. p x ≡ b → list_any q (cond b (x ∷ filter p xs) (filter p xs)) ≡ (q x || list_any q xs)) [
    | true ↦ λ pass. ap (λ (b : Bool). q x || b) (any-weaker xs)
    | false ↦ λ other. any-weaker xs ∙ ap (λ (b : Bool). b || list_any q xs) (sym (fails x other))
  ] refl

-- the rows of an item of a panel are the panel's
of-panel : (panel : Panel) (key : Key) → is_same_panel key.panel panel ≡ true → (row : SourceRow) → is_of key row ≡ true → is_same_panel row.key.panel panel ≡ true
of-panel panel key own row of = ap (λ (k : Key). is_same_panel k.panel panel) (same-item key row of) ∙ own

pub has-in-panel : (panel : Panel) (key : Key) → is_same_panel key.panel panel ≡ true → (rows : List SourceRow) → has_item key (panel_rows panel rows) ≡ has_item key rows
has-in-panel panel key own rows = any-weaker (λ (row : SourceRow). is_same_panel row.key.panel panel) (is_of key) (of-panel panel key own) rows

pub item-in-panel : (panel : Panel) (key : Key) → is_same_panel key.panel panel ≡ true → (rows : List SourceRow) → item_of key (panel_rows panel rows) ≡ item_of key rows
item-in-panel panel key own rows = ap (together key) (filter-weaker (λ (row : SourceRow). is_same_panel row.key.panel panel) (is_of key) (of-panel panel key own) rows)
