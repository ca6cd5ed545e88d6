-- How many keys each panel has.
use Rattle.std.proofs.Common.{◌≡◌, ℕ, ◌+◌, ◌<◌, ◌≤◌, true, false, cond, List, [], ◌∷◌, get_or, length, map, set, take, refl, sym, ap, ◌∙◌, arith, rules}
use Rattle.std.specs.Prelude.{count_by}
use Rattle.std.proofs.lemmas.Bool.{false≢true}
use Rattle.std.proofs.lemmas.Bool.Decides.{Decides-eqb}
use Rattle.std.proofs.lemmas.List.{get_or-set_other}
use Rattle.std.proofs.lemmas.List.Sums.{count_by_more_no, count_by_more_yes, sum_by-cons}
use Rattle.std.proofs.lemmas.Grind.{get_or-set_at}
use Rattle.ga_base.specs.declared.counts.Sums.{Sums}
use Rattle.ga_base.specs.declared.key.Key.{Key}
use Rattle.ga_base.specs.declared.panel.Panel.{Panel}
use Rattle.ga_base.specs.declared.panel.TheConstants.Panel.{COUNT}
use Rattle.ga_base.specs.Panels.{is_same_panel, panel_number}
use Rattle.ga_report.specs.Source.{SourceRow}
use Rattle.ga_totals.specs.Steps.Sources.{AreSizes, source_rows}

pub number-below : (panel : Panel) → panel_number panel < COUNT
number-below panel = search rules

number-same : (own panel : Panel) → is_same_panel own panel ≡ true → panel_number panel ≡ panel_number own
unfolding is_same_panel
number-same own panel e = sym ((Decides-eqb (panel_number own) (panel_number panel)).0 e)

number-other : (own panel : Panel) → is_same_panel own panel ≡ false → panel_number panel ≡ panel_number own → ⊥
unfolding is_same_panel
number-other own panel e same = false≢true (sym e ∙ (Decides-eqb (panel_number own) (panel_number panel)).1 (sym same))

module _ (panels : List Panel) (sizes : List ℕ) (n : ℕ) (d : Panel) (less : n < length panels) (are : AreSizes (take n panels) sizes) where
  abbrev own : Panel
  own = get_or panels n d

  -- a panel more
  pub size-more : panel_number own < length sizes → AreSizes (take (n + 1) panels) (set sizes (panel_number own) (get_or sizes (panel_number own) 0 + 1))
  size-more within panel = elim (is_same_panel own panel) as (λ b. is_same_panel own panel ≡ b
      → get_or (set sizes (panel_number own) (get_or sizes (panel_number own) 0 + 1)) (panel_number panel) 0 ≡ count_by (λ p. is_same_panel p panel) (take (n + 1) panels)) [
        | true ↦ λ e.
            let number = number-same own panel e in
            get_or-set_at sizes (panel_number own) (panel_number panel) (get_or sizes (panel_number own) 0 + 1) 0 number within
            ∙ ap (λ (k : ℕ). get_or sizes k 0 + 1) (sym number) ∙ ap (λ (k : ℕ). k + 1) (are panel)
            ∙ sym (count_by_more_yes (λ p. is_same_panel p panel) panels n d less e)
        | false ↦ λ e.
            get_or-set_other sizes (panel_number own) (panel_number panel) (get_or sizes (panel_number own) 0 + 1) 0 (number-other own panel e) ∙ are panel
            ∙ sym (count_by_more_no (λ p. is_same_panel p panel) panels n d less e)
      ] refl

-- no panel has more rows than keys
pub rows-of-panel : (panel : Panel) (keys : List Key) (sums : List Sums) (visits : List ℕ)
    → count_by (λ row. is_same_panel row.key.panel panel) (source_rows keys sums visits) ≤ count_by (λ own. is_same_panel own panel) (map (λ (key : Key). key.panel) keys)
rows-of-panel panel [] sums visits = omega arith
rows-of-panel panel (key ∷ keys) [] visits = omega arith
rows-of-panel panel (key ∷ keys) (own ∷ sums) [] = omega arith
rows-of-panel panel (key ∷ keys) (own ∷ sums) (visitors ∷ visits) =
    let row : SourceRow = record { key = key; sums = own; visitors = visitors } in
    omega (
      arith,
      sum_by-cons (λ (r : SourceRow). cond (is_same_panel r.key.panel panel) 1 0) row (source_rows keys sums visits),
      sum_by-cons (λ (p : Panel). cond (is_same_panel p panel) 1 0) key.panel (map (λ (k : Key). k.panel) keys),
      rows-of-panel panel keys sums visits,
    )
