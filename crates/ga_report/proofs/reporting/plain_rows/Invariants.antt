use Rattle.std.proofs.Common.{ℕ, List, map, take}
use Rattle.ga_report.specs.Reports.{IsRow, Pairwise}
use Rattle.ga_report.specs.Steps.Summed.{undate}
use Rattle.ga_report.specs.Source.{SourceRow}
use Rattle.ga_report.proofs.reporting.plain_rows.Given as goal

abbrev pub invariant-loop-top : goal.invariant-loop-top
invariant-loop-top l = (most : ℕ) (source : List SourceRow) → Pairwise (IsRow l.general most source) (map undate (take l.top-index l.tops)) l.rows
