-- The report on a source of rows: general numbers, and the rows of each panel that is shown.
use Rattle.std.specs.Prelude.{◌≡◌, ◌&&◌, ℕ, Bool, if◌then◌else◌, List, [], ◌∷◌, filter, map, take, sum_by}
use Rattle.ga_base.specs.declared.date_spec.DateSpec.{DateSpec}
use Rattle.ga_base.specs.declared.key.Key.{Key}
use Rattle.ga_base.specs.declared.panel.Panel.{Panel}
use Rattle.ga_base.specs.declared.panel.TheConstants.Panel.{ALL}
use Rattle.ga_base.specs.Layers.{has_groups, is_empty}
use Rattle.ga_base.specs.Panels.{has_panel}
use Rattle.ga_report.specs.declared.report.General.{General}
use Rattle.ga_report.specs.declared.report.Item.{Item}
use Rattle.ga_report.specs.declared.report.PanelList.{PanelList}
use Rattle.ga_report.specs.declared.report.Report.{Report}
use Rattle.ga_report.specs.declared.report.Row.{Row}
use Rattle.ga_report.specs.Items.{AreItems, is_row, is_child, shown_rows}
use Rattle.ga_report.specs.Percents.{hundredths}
use Rattle.ga_report.specs.SoundRows.{day_rows}
use Rattle.ga_report.specs.Source.{SourceRow, SourceValue}

-- two lists of one length, whose elements are related pair by pair
abbrev pub Pairwise : {X Y : Type 0} → (X → Y → Type 0) → List X → List Y → Type 0
Pairwise R [] [] = Unit {0}
Pairwise R [] (y ∷ ys) = ⊥
Pairwise R (x ∷ xs) [] = ⊥
Pairwise R (x ∷ xs) (y ∷ ys) = R x y × Pairwise R xs ys

-- the panels of a set, in their order
unfoldable pub panels_of : List Bool → List Panel
panels_of set = filter (has_panel set) ALL

-- lines, failed and excluded are those of the totals; the others are sums over the days
abbrev pub general_of : SourceValue → General
general_of source = let days = day_rows source.rows in
    record {
      total_requests = source.totals.lines;
      valid_requests = sum_by (λ row. row.sums.hits) days;
      failed_requests = source.totals.failed;
      excluded_hits = source.totals.excluded;
      unique_visitors = sum_by (λ row. row.visitors) days;
      bandwidth = sum_by (λ row. row.sums.bytes) days;
    }

-- a group is named by its parent
abbrev pub data_of : Key → List ℕ
data_of key = if has_groups key.panel && is_empty key.label then key.parent else key.label

-- an item as it is shown
abbrev pub shown_as : General → SourceRow → Item
shown_as general item = record {
  label = data_of item.key;
  method = item.key.method;
  protocol = item.key.protocol;
  hits = item.sums.hits;
  visitors = item.visitors;
  bytes = item.sums.bytes;
  micros = item.sums.micros;
  max_micros = item.sums.max_micros;
  hits_percent = hundredths item.sums.hits general.valid_requests;
  visitors_percent = hundredths item.visitors general.unique_visitors;
  bytes_percent = hundredths item.sums.bytes general.bandwidth;
}

-- an item's children: the first of the entries of its group
pub record AreChildren (general : General) (most : ℕ) (rows : List SourceRow) (item : SourceRow) (children : List Item) : Type 0 where
  pub entries : List SourceRow
  pub are_entries : AreItems item.key.panel (is_child item.key) rows entries
  pub shown : children ≡ map (shown_as general) (take most entries)

pub record IsRow (general : General) (most : ℕ) (rows : List SourceRow) (item : SourceRow) (row : Row) : Type 0 where
  pub is_item : row.item ≡ shown_as general item
  pub children : AreChildren general most rows item row.children

-- a panel's rows: the first of its items
pub record IsPanelList (general : General) (most : ℕ) (rows : List SourceRow) (panel : Panel) (list : PanelList) : Type 0 where
  pub is_panel : list.panel ≡ panel
  pub items : List SourceRow
  pub are_items : AreItems panel (is_row panel) rows items
  pub shown : Pairwise (IsRow general most rows) (take most items) list.rows

-- the report with the panels of a set, with at most this many rows a list, and with days or parts of days in VISITORS
pub record IsReport (source : SourceValue) (set : List Bool) (most : ℕ) (spec : DateSpec) (report : Report) : Type 0 where
  pub general : report.general ≡ general_of source
  pub panels : Pairwise (IsPanelList (general_of source) most (shown_rows spec source.rows)) (panels_of set) report.panels
