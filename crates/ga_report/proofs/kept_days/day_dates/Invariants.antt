use Rattle.std.proofs.Common.{◌≡◌, map, take}
use Rattle.ga_report.specs.SoundRows.{day_rows}
use Rattle.ga_report.proofs.kept_days.day_dates.Given as goal

abbrev pub invariant-loop-day : goal.invariant-loop-day
invariant-loop-day g l = l.dates.items ≡ map (λ row. row.key.date) (take l.day-index (day_rows (g.T.RowSource.view l.source).rows))
