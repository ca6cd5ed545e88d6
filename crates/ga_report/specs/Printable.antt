-- What a text can be written of: panels that are all different, and items that each have a hit.
use Rattle.std.specs.Prelude.{◌≤◌, map, All}
use Rattle.std.specs.List.{IsDistinct}
use Rattle.ga_base.specs.Panels.{is_same_panel}
use Rattle.ga_report.specs.declared.report.Report.{Report}
use Rattle.ga_report.specs.declared.report.Row.{Row}

-- a row and its children have hits
pub record HasHits (row : Row) : Type 0 where
  pub own : 1 ≤ row.item.hits
  pub children : All (λ item. 1 ≤ item.hits) row.children

pub record IsPrintable (report : Report) : Type 0 where
  pub different : IsDistinct is_same_panel (map (λ list. list.panel) report.panels)
  pub hits : All (λ list. All HasHits list.rows) report.panels
