use Rattle.std.proofs.Common.{◌∷◌, [], ◌++◌, map, take_all, ap, refl, sym, ◌∙◌, arith}
use Rattle.ga_report.specs.SoundRows.{day_rows}
use Rattle.ga_report.specs.Source.{SourceRow}
use Rattle.ga_report.proofs.LastRows.{dates-more}
use Rattle.ga_report.proofs.PanelPlaces.{as-many, days-at, row-at, row-there}
use Rattle.ga_report.proofs.kept_days.day_dates.Goals as goal

pub row-requires : goal.row-requires
row-requires g c =
    let rows = (g.T.RowSource.view c.args.source.now).rows in
    let are = days-at rows _ _ c.deref-day-items.ensures.value c.in_ok-days.ensures in
    row-at rows c.deref-day-items.result.now (day_rows rows) c.loop-day.day-index are c.loop-day-test.true

pub loop-day-preserved : goal.loop-day-preserved
loop-day-preserved g c =
    let rows = (g.T.RowSource.view c.args.source.now).rows in
    let are = days-at rows _ _ c.deref-day-items.ensures.value c.in_ok-days.ensures in
    let there = row-there rows c.deref-day-items.result.now (day_rows rows) c.loop-day.day-index c.row.result are c.loop-day-test.true c.row.ensures in
    c.in_ok-push.ensures.items ∙ (λ i. c.loop-day.invariant i ++ c.date.ensures i ∷ []) ∙ sym (dates-more c.loop-day.day-index (day_rows rows) c.row.result there)

pub returns : goal.returns
returns g c =
    let rows = (g.T.RowSource.view c.args.source.now).rows in
    let many = as-many rows c.in_ok-days.days.items (day_rows rows) (days-at rows _ _ refl c.in_ok-days.ensures) in
    c.loop-day.invariant
    ∙ ap (map (λ (row : SourceRow). row.key.date)) (take_all c.loop-day.day-index (day_rows rows) (omega (arith, c.loop-day-test.false, c.deref-day-items.ensures.len, c.in_ok-days.days.ok, many)))
