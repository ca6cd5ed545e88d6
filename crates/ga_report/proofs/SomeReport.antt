-- Each source of rows has a report.
use Rattle.std.proofs.Common.{◌≡◌, ℕ, Bool, List, [], ◌∷◌, filter, map, refl, take}
use Rattle.std.proofs.lemmas.List.Elements.{All-from_recursion}
use Rattle.ga_base.specs.declared.date_spec.DateSpec.{DateSpec}
use Rattle.ga_base.specs.declared.key.Key.{Key}
use Rattle.ga_base.specs.declared.panel.Panel.{Panel}
use Rattle.ga_report.specs.declared.report.General.{General}
use Rattle.ga_report.specs.declared.report.Item.{Item}
use Rattle.ga_report.specs.declared.report.PanelList.{PanelList}
use Rattle.ga_report.specs.declared.report.Report.{Report}
use Rattle.ga_report.specs.declared.report.Row.{Row}
use Rattle.ga_report.specs.Source.{SourceRow, SourceValue}
use Rattle.ga_report.specs.Items.{AreItems, is_child, is_row, item_of, order, shown_rows}
use Rattle.ga_report.specs.Reports.{IsPanelList, IsReport, IsRow, Pairwise, general_of, panels_of, shown_as}
use Rattle.ga_report.specs.Steps.Summed.{AreSummed, panel_rows, undate, with_row}
use Rattle.ga_report.proofs.Arrangement.{ForItems, InPanel, are-items, entries-inside, order_total, rows-inside}
use Rattle.ga_report.proofs.RowsAdded.{summed-with}
use Rattle.ga_report.proofs.Sorting.{in-order, in-order-same, in-order-sorted}

-- rows have their items
some-summed : (rows : List SourceRow) → (items : List SourceRow) × AreSummed rows items
some-summed [] = ([], record { once = λ key. refl; sums = All-from_recursion (λ item. undate item ≡ item_of item.key []) [] tt })
some-summed (row ∷ rows) = let rest = some-summed rows in (with_row row rest.0, summed-with rows row rest.0 rest.1)

-- those of a panel that are to be shown can be sorted
some-items : (panel : Panel) (shown : Key → Bool) → ForItems shown → InPanel panel shown → (rows : List SourceRow) → (items : List SourceRow) × AreItems panel shown rows items
some-items panel shown of inside rows =
    let summed = some-summed (panel_rows panel rows) in
    let kept : List SourceRow = filter (λ item. shown item.key) summed.0 in
    let sorted : List SourceRow = in-order (order panel) (order_total panel) kept in
    (map undate sorted, are-items panel shown of inside rows summed.0 sorted summed.1 (in-order-same (order panel) (order_total panel) kept) (in-order-sorted (order panel) (order_total panel) kept))

-- where each element is related to something, a list is related to a list
some-pairs : {X Y : Type 0} (R : X → Y → Type 0) → ((x : X) → (y : Y) × R x y) → (xs : List X) → (ys : List Y) × Pairwise R xs ys
some-pairs R each [] = ([], tt)
some-pairs R each (x ∷ xs) = let first = each x in let rest = some-pairs R each xs in (first.0 ∷ rest.0, (first.1, rest.1))

module _ (general : General) (most : ℕ) (rows : List SourceRow) where
  some-row : (item : SourceRow) → (row : Row) × IsRow general most rows item row
  some-row item =
      let entries = some-items item.key.panel (is_child item.key) (λ key. refl) (entries-inside item.key) rows in
      let children : List Item = map (shown_as general) (take most entries.0) in
      let row : Row = record { item = shown_as general item; children = children } in
      (row, record { is_item = refl; children = record { entries = entries.0; are_entries = entries.1; shown = refl } })

  some-panel : (panel : Panel) → (list : PanelList) × IsPanelList general most rows panel list
  some-panel panel =
      let items = some-items panel (is_row panel) (λ key. refl) (rows-inside panel) rows in
      let lines = some-pairs (IsRow general most rows) some-row (take most items.0) in
      let list : PanelList = record { panel = panel; rows = lines.0 } in
      (list, record { is_panel = refl; items = items.0; are_items = items.1; shown = lines.1 })

pub some-report : (source : SourceValue) (set : List Bool) (most : ℕ) (spec : DateSpec) → (report : Report) × IsReport source set most spec report
some-report source set most spec =
    let rows = shown_rows spec source.rows in
    let lists = some-pairs (IsPanelList (general_of source) most rows) (some-panel (general_of source) most rows) (panels_of set) in
    let report : Report = record { general = general_of source; panels = lists.0 } in
    (report, record { general = refl; panels = lists.1 })
