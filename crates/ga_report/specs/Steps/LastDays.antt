-- How the first of the last days is found.
use Rattle.std.specs.Prelude.{◌≡◌, ℕ, nat_le, List, map, All}
use Rattle.ga_report.specs.LastDays.{is_among_last}
use Rattle.ga_report.specs.SoundRows.{day_rows}
use Rattle.ga_report.specs.Source.{SourceRow}

-- the dates of the days
abbrev pub days_of : List SourceRow → List ℕ
days_of rows = map (λ row. row.key.date) (day_rows rows)

-- the rows from this date on are those of the last n days
abbrev pub IsBar : ℕ → List SourceRow → ℕ → Type 0
IsBar n rows bar = All (λ row. is_among_last n rows row.key.date ≡ nat_le bar row.key.date) rows
