-- A summary as a source of rows.
use Rattle.std.specs.Prelude.{map, length}
use Rattle.ga_summary.specs.SummaryRows.{SummaryRow, SummaryValue}
use Rattle.ga_report.specs.Source.{SourceRow, SourceValue}

-- a row, with the number of its names
abbrev pub source_row : SummaryRow → SourceRow
source_row row = record { key = row.key; sums = row.sums; visitors = length row.names }

abbrev pub source_value : SummaryValue → SourceValue
source_value s = record { totals = s.totals; rows = map source_row s.rows }
