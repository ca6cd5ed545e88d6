-- How the first of the last days is found.
use Rattle.std.specs.Prelude.{◌≡◌, ℕ, ◌==◌, true, if◌then◌else◌, nat_le, List, length, map, slice_index_or, All}
use Rattle.ga_summary.specs.LastDays.{is_among_last}
use Rattle.ga_summary.specs.Sound.{day_rows}
use Rattle.ga_summary.specs.SummaryRows.{SummaryRow}

-- the dates of the days, which rise
abbrev pub days_of : List SummaryRow → List ℕ
days_of rows = map (λ row. row.key.date) (day_rows rows)

abbrev pub count_days : List SummaryRow → ℕ
count_days rows = length (day_rows rows)

-- the day at a place, or 0
abbrev pub IsDayAt : List SummaryRow → ℕ → ℕ → Type 0
IsDayAt rows place date = date ≡ slice_index_or (days_of rows) place 0

-- the rows from this date on are those of the last n days, or all where n is 0
abbrev pub IsBar : ℕ → List SummaryRow → ℕ → Type 0
IsBar n rows bar = All (λ row. (if n == 0 then true else is_among_last n rows row.key.date) ≡ nat_le bar row.key.date) rows
