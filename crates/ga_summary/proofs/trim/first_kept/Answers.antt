use Rattle.std.proofs.Common.{◌≡◌, ◌<◌, ◌-◌, List, slice_index_or, length, ap, ◌∙◌, arith, eq-eqb}
use Rattle.std.proofs.lemmas.List.{length-map}
use Rattle.ga_summary.specs.Sound.{day_rows}
use Rattle.ga_summary.specs.Steps.Entries.{rows_of}
use Rattle.ga_summary.specs.Steps.LastDays.{days_of}
use Rattle.ga_summary.specs.SummaryRows.{SummaryRow}
use Rattle.ga_summary.proofs.Bars.{from-bar, none-goes, zero-keeps}
use Rattle.ga_summary.proofs.DayPlaces.{not-zero}
use Rattle.ga_summary.proofs.trim.first_kept.Goals.{then-keep-eq0-via-then-keep-eq0, then-keep-eq0-via-else-keep-eq0+then-days-keep}
use Rattle.ga_summary.proofs.trim.first_kept.Goals as goal

many : (rows : List SummaryRow) → length (days_of rows) ≡ length (day_rows rows)
many rows = length-map (day_rows rows) (λ (row : SummaryRow). row.key.date)

pub returns-then-keep-eq0 : goal.returns-then-keep-eq0
returns-then-keep-eq0 c =
    let rows = rows_of c.args.entries.now in
    elim c.then-keep-eq0.branch [
      | then-keep-eq0-via-then-keep-eq0 w ↦ zero-keeps c.args.keep rows c.requires.ordered c.requires.sound (eq-eqb c.args.keep 0 w.if-keep-eq0.true)
      | then-keep-eq0-via-else-keep-eq0+then-days-keep w ↦ none-goes c.args.keep rows c.requires.ordered c.requires.sound (omega (arith, many rows, w.if-days-keep.true, c.count_days-days.ensures))
    ]

pub returns : goal.returns
returns c =
    let rows = rows_of c.args.entries.now in
    let positive : 0 < c.args.keep = omega (arith, c.if-keep-eq0.false) in
    let days : c.count_days-days.result ≡ length (days_of rows) = omega (arith, many rows, c.count_days-days.ensures) in
    from-bar c.args.keep rows c.requires.ordered c.requires.sound (not-zero c.args.keep positive) positive (omega (arith, days, c.if-days-keep.false)) c.day_at.result
    (c.day_at.ensures ∙ ap (λ n. slice_index_or (days_of rows) (n - c.args.keep) 0) days)
