-- The report as JSON (own profile): the compact text of one tree, and a line feed.
use Rattle.std.specs.Prelude.{ℕ, Bool, true, false, List, [], ◌∷◌, ◌++◌, ◌/◌, codes, map}
use Rattle.serde_json.specs.Data.{Data, Members, number, unsigned, string, array, object, no_members, put}
use Rattle.serde_json.specs.View.{items_of}
use Rattle.serde_json.specs.Written.{compact_text}
use Rattle.ga_base.specs.Layers.{has_groups}
use Rattle.ga_report.specs.declared.report.General.{General}
use Rattle.ga_report.specs.declared.report.Item.{Item}
use Rattle.ga_report.specs.declared.report.PanelList.{PanelList}
use Rattle.ga_report.specs.declared.report.Report.{Report}
use Rattle.ga_report.specs.declared.report.Row.{Row}
use Rattle.ga_print.specs.Names.{panel_name}
use Rattle.ga_print.specs.Percents.{percent_text}

-- members put into others; keys are in rising byte order
abbrev pub put_all : Members → List (List ℕ × Data) → Members
put_all done [] = done
put_all done (m ∷ ms) = put_all (put m.0 m.1 done) ms

-- the object with these members
unfoldable pub object_of : List (List ℕ × Data) → Data
object_of ms = object (put_all no_members ms)

abbrev pub count_of : ℕ → Data
count_of n = number (unsigned n)

abbrev pub share_of : ℕ → ℕ → Data
share_of n hundredths = object_of ((codes "count", count_of n) ∷ (codes "percent", string (percent_text hundredths)) ∷ [])

-- a text has a member exactly where it isn't empty
abbrev pub where_present : List ℕ → List ℕ → List (List ℕ × Data)
where_present name [] = []
where_present name (byte ∷ bytes) = (name, string (byte ∷ bytes)) ∷ []

-- the average time is cut to a whole number
abbrev pub item_members : Item → List (List ℕ × Data)
item_members item =
    (codes "avgts", count_of (item.micros / item.hits)) ∷ (codes "bytes", share_of item.bytes item.bytes_percent) ∷ (codes "cumts", count_of item.micros)
    ∷ (codes "data", string item.label) ∷ (codes "hits", share_of item.hits item.hits_percent) ∷ (codes "maxts", count_of item.max_micros)
    ∷ (codes "visitors", share_of item.visitors item.visitors_percent) ∷ (where_present (codes "method") item.method ++ where_present (codes "protocol") item.protocol)

unfoldable pub item_tree : Item → Data
item_tree item = object_of (item_members item)

abbrev pub children_of : Bool → List Item → List (List ℕ × Data)
children_of false children = []
children_of true children = (codes "items", array (items_of (map item_tree children))) ∷ []

-- a row of a panel with groups has `items`, the list of its children
unfoldable pub row_tree : Bool → Row → Data
row_tree groups row = object_of (item_members row.item ++ children_of groups row.children)

unfoldable pub panel_tree : PanelList → Data
panel_tree list = object_of ((codes "data", array (items_of (map (row_tree (has_groups list.panel)) list.rows))) ∷ [])

unfoldable pub general_tree : General → Data
general_tree general = object_of (
    (codes "bandwidth", count_of general.bandwidth) ∷ (codes "excluded_hits", count_of general.excluded_hits) ∷ (codes "failed_requests", count_of general.failed_requests)
    ∷ (codes "total_requests", count_of general.total_requests) ∷ (codes "unique_visitors", count_of general.unique_visitors)
    ∷ (codes "valid_requests", count_of general.valid_requests) ∷ [])

abbrev pub panel_member : PanelList → List ℕ × Data
panel_member list = (panel_name list.panel, panel_tree list)

unfoldable pub report_tree : Report → Data
report_tree report = object_of ((codes "general", general_tree report.general) ∷ map panel_member report.panels)

unfoldable pub json_text : Report → List ℕ
json_text report = compact_text (report_tree report) ++ 10 ∷ []
