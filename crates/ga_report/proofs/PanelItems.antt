-- The items of a panel's rows are of the panel, and parts of the whole.
use Rattle.std.proofs.Common.{◌≡◌, ℕ, ◌≤◌, ◌||◌, Bool, true, false, cond, List, [], ◌∷◌, inl, inr, refl, sym, ap, ◌∙◌, arith, All}
use Rattle.std.specs.Prelude.{count_by}
use Rattle.std.specs.List.{list_any}
use Rattle.std.proofs.lemmas.Bool.{false≢true}
use Rattle.std.proofs.lemmas.List.Elements.{All-from_recursion, recursion_from_All}
use Rattle.ga_base.specs.declared.date_spec.DateSpec.{DateSpec}
use Rattle.ga_base.specs.declared.key.Key.{Key}
use Rattle.ga_base.specs.declared.panel.Panel.{Panel}
use Rattle.ga_base.specs.Panels.{is_same_panel}
use Rattle.ga_report.specs.Source.{SourceRow, SourceValue}
use Rattle.ga_report.specs.Items.{has_item, is_of, is_shown, item_of, shown_rows}
use Rattle.ga_report.specs.Reports.{general_of}
use Rattle.ga_report.specs.SoundRows.{AreSound}
use Rattle.ga_report.specs.Steps.Summed.{AreSummed, IsPart, panel_rows, undate}
use Rattle.ga_report.proofs.InPanel.{exact-panel, item-in-panel, own-panel}
use Rattle.ga_report.proofs.ItemSums.{own-item, same-item}
use Rattle.ga_report.proofs.Lists.{In, all-both, all-in, in-filter}
use Rattle.ga_report.proofs.OneArrangement.{in-count}
use Rattle.ga_report.proofs.Shares.{is-part}

any-in : {X : Type 0} (p : X → Bool) (xs : List X) → list_any p xs ≡ true → (x : X) × In x xs × (p x ≡ true)
any-in p [] e = absurd (false≢true e)
any-in {X} p (x ∷ xs) e = elim (p x) as (λ b. p x ≡ b → (b || list_any p xs) ≡ true → (y : X) × In y (x ∷ xs) × (p y ≡ true)) [
  | true ↦ λ pass _. (x, inl refl, pass)
  | false ↦ λ fail there. let more = any-in p xs there in (more.0, inr more.1, more.2)
] refl e

counted : (b : Bool) (n : ℕ) → n ≡ cond b 1 0 → 1 ≤ n → b ≡ true
counted true n e h = refl
counted false n e h = absurd (omega (arith, e, h))

pub are-of-panel : (panel : Panel) (rows items : List SourceRow) → AreSummed (panel_rows panel rows) items → All (λ item. item.key.panel ≡ panel) items
are-of-panel panel rows items are = All-from_recursion (λ item. item.key.panel ≡ panel) items (all-in (λ item. item.key.panel ≡ panel) items own)
  where
    own : (x : SourceRow) → In x items → x.key.panel ≡ panel
    own x there =
        let has = counted (has_item x.key (panel_rows panel rows)) (count_by (is_of x.key) items) (are.once x.key) (in-count (is_of x.key) x items (own-item x) there) in
        let row = any-in (is_of x.key) (panel_rows panel rows) has in
        let of = in-filter (λ (r : SourceRow). is_same_panel r.key.panel panel) row.0 rows row.1 in
        sym (ap (λ (k : Key). k.panel) (same-item x.key row.0 row.2)) ∙ exact-panel row.0.key.panel panel of.0

pub are-parts : (source : SourceValue) (panel : Panel) (spec : DateSpec) (items : List SourceRow) → AreSound source.rows → AreSummed (panel_rows panel (shown_rows spec source.rows)) items
    → All (IsPart (general_of source)) items
are-parts source panel spec items sound are =
    let shown = shown_rows spec source.rows in
    All-from_recursion (IsPart (general_of source)) items
    (all-both (λ item. item.key.panel ≡ panel) (λ item. undate item ≡ item_of item.key (panel_rows panel shown)) (IsPart (general_of source))
    (λ item of own. is-part source (λ row. is_shown spec row.key) sound item (own ∙ item-in-panel panel item.key (ap (λ (p : Panel). is_same_panel p panel) of ∙ own-panel panel) shown)) items
    (recursion_from_All _ items (are-of-panel panel shown items are)) (recursion_from_All _ items are.sums))
