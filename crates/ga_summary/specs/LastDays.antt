-- The last days of a summary.
use Rattle.std.specs.Prelude.{ℕ, Bool, ◌==◌, ◌&&◌, nat_lt, if◌then◌else◌, List, filter, count_by}
use Rattle.std.specs.List.{list_any}
use Rattle.ga_summary.specs.Sound.{day_rows}
use Rattle.ga_summary.specs.SummaryRows.{SummaryRow, SummaryValue}

-- how many of the days of these rows are later than a date; in a summary a date has one day's row
abbrev pub later_days : List SummaryRow → ℕ → ℕ
later_days rows date = count_by (λ row. nat_lt date row.key.date) (day_rows rows)

-- the date is one of the last n of these days
abbrev pub is_among_last : ℕ → List SummaryRow → ℕ → Bool
is_among_last n rows date = list_any (λ row. date == row.key.date) (day_rows rows) && nat_lt (later_days rows date) n

-- the rows of the last n days
abbrev pub last_rows : ℕ → List SummaryRow → List SummaryRow
last_rows n rows = filter (λ row. is_among_last n rows row.key.date) rows

-- the summary of the last n days: the totals of all lines, and the keys of these days. 0 keeps all
abbrev pub trimmed : ℕ → SummaryValue → SummaryValue
trimmed n s = if n == 0 then s else record s { rows = last_rows n s.rows }
