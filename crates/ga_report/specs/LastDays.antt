-- The last days of a source of rows.
use Rattle.std.specs.Prelude.{ℕ, Bool, ◌==◌, ◌&&◌, nat_lt, if◌then◌else◌, List, filter, count_by}
use Rattle.std.specs.List.{list_any}
use Rattle.ga_report.specs.SoundRows.{day_rows}
use Rattle.ga_report.specs.Source.{SourceRow, SourceValue}

-- how many of the days of these rows are later than a date
abbrev pub later_days : List SourceRow → ℕ → ℕ
later_days rows date = count_by (λ row. nat_lt date row.key.date) (day_rows rows)

-- the date is one of the last n of these days
abbrev pub is_among_last : ℕ → List SourceRow → ℕ → Bool
is_among_last n rows date = list_any (λ row. date == row.key.date) (day_rows rows) && nat_lt (later_days rows date) n

-- the rows of the last n days
abbrev pub last_rows : ℕ → List SourceRow → List SourceRow
last_rows n rows = filter (λ row. is_among_last n rows row.key.date) rows

-- the source of the last n days: the totals over all lines, and the rows of these days. 0 keeps all
abbrev pub trimmed_source : ℕ → SourceValue → SourceValue
trimmed_source n source = if n == 0 then source else record { totals = source.totals; rows = last_rows n source.rows }
