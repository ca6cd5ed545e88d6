-- The report as CSV (own profile): the header row, the general numbers, and the rows of the panels, each as `csv` writes
-- it by its defaults.
use Rattle.std.specs.Prelude.{ℕ, List, [], ◌∷◌, ◌++◌, ◌+◌, ◌/◌, codes, decimal, length, suc}
use Rattle.csv.specs.Writing.{row_text, default_writer}
use Rattle.ga_report.specs.declared.report.General.{General}
use Rattle.ga_report.specs.declared.report.Item.{Item}
use Rattle.ga_report.specs.declared.report.PanelList.{PanelList}
use Rattle.ga_report.specs.declared.report.Report.{Report}
use Rattle.ga_report.specs.declared.report.Row.{Row}
use Rattle.ga_print.specs.Names.{panel_name}
use Rattle.ga_print.specs.Percents.{percent_text}

abbrev pub header_fields : List (List ℕ)
header_fields =
    codes "id" ∷ codes "parent_id" ∷ codes "panel" ∷ codes "hits" ∷ codes "hits%" ∷ codes "visitors" ∷ codes "visitors%" ∷ codes "bytes" ∷ codes "bytes%"
    ∷ codes "avgts" ∷ codes "cumts" ∷ codes "maxts" ∷ codes "method" ∷ codes "protocol" ∷ codes "data" ∷ []

-- a general number is in `hits`, its name in `data`
abbrev pub general_fields : ℕ → ℕ → List ℕ → List (List ℕ)
general_fields id n name = decimal id ∷ [] ∷ codes "general" ∷ decimal n ∷ [] ∷ [] ∷ [] ∷ [] ∷ [] ∷ [] ∷ [] ∷ [] ∷ [] ∷ [] ∷ name ∷ []

-- the average time is cut to a whole number
abbrev pub item_fields : List ℕ → ℕ → List ℕ → Item → List (List ℕ)
item_fields panel id parent_id item =
    decimal id ∷ parent_id ∷ panel ∷ decimal item.hits ∷ percent_text item.hits_percent ∷ decimal item.visitors ∷ percent_text item.visitors_percent
    ∷ decimal item.bytes ∷ percent_text item.bytes_percent ∷ decimal (item.micros / item.hits) ∷ decimal item.micros ∷ decimal item.max_micros
    ∷ item.method ∷ item.protocol ∷ item.label ∷ []

abbrev pub line : List (List ℕ) → List ℕ
line fields = row_text default_writer fields

abbrev pub general_lines : General → List ℕ
general_lines general =
    line (general_fields 0 general.total_requests (codes "total_requests"))
    ++ line (general_fields 1 general.valid_requests (codes "valid_requests"))
    ++ line (general_fields 2 general.failed_requests (codes "failed_requests"))
    ++ line (general_fields 3 general.excluded_hits (codes "excluded_hits"))
    ++ line (general_fields 4 general.unique_visitors (codes "unique_visitors"))
    ++ line (general_fields 5 general.bandwidth (codes "bandwidth"))

-- the children of the row with this parent id, whose own ids rise from the first one's
abbrev pub child_lines : List ℕ → ℕ → ℕ → List Item → List ℕ
child_lines panel parent_id id [] = []
child_lines panel parent_id id (child ∷ children) = line (item_fields panel id (decimal parent_id) child) ++ child_lines panel parent_id (suc id) children

-- rows, whose ids rise from the first one's; a row's children follow it directly
abbrev pub row_lines : List ℕ → ℕ → List Row → List ℕ
row_lines panel id [] = []
row_lines panel id (row ∷ rows) =
    line (item_fields panel id [] row.item) ++ child_lines panel id (suc id) row.children ++ row_lines panel (suc id + length row.children) rows

abbrev pub panel_lines : List PanelList → List ℕ
panel_lines [] = []
panel_lines (list ∷ lists) = row_lines (panel_name list.panel) 0 list.rows ++ panel_lines lists

unfoldable pub csv_text : Report → List ℕ
csv_text report = line header_fields ++ general_lines report.general ++ panel_lines report.panels
