use Rattle.std.proofs.Common.{All, List, map, take}
use Rattle.ga_report.specs.Reports.{IsRow, Pairwise}
use Rattle.ga_report.specs.Steps.Summed.{AreSummed, panel_rows, undate}
use Rattle.ga_report.specs.Source.{SourceRow}
use Rattle.ga_report.proofs.reporting.row_list.Given as goal

abbrev pub invariant-loop-top : goal.invariant-loop-top
invariant-loop-top l = (source : List SourceRow) → All (λ top. AreSummed (panel_rows top.key.panel source) l.items) l.tops → Pairwise (IsRow l.general l.max_items source) (map undate (take l.top-index l.tops)) l.rows
