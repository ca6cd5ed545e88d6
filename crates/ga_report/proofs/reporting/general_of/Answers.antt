use Rattle.std.proofs.Common.{ap, refl, sym, subst, ◌∙◌, arith}
use Rattle.ga_report.specs.declared.report.General.{General}
use Rattle.ga_report.specs.SoundRows.{day_rows}
use Rattle.ga_report.specs.Steps.Summed.{with_day, DayFits}
use Rattle.ga_report.proofs.Generals.{start, next-day, day-fits, so_far-all}
use Rattle.ga_report.proofs.PanelPlaces.{as-many, days-at, row-at, row-there}
use Rattle.ga_report.proofs.reporting.general_of.Goals as goal

pub loop-day-init : goal.loop-day-init
loop-day-init g c = start (g.T.RowSource.view c.args.source.now) c.totals-totals.result c.totals-totals.ensures.totals

pub row-requires : goal.row-requires
row-requires g c =
    let rows = (g.T.RowSource.view c.args.source.now).rows in
    let are = days-at rows _ _ c.deref-day-items.ensures.value c.in_ok-days.ensures in
    row-at rows c.deref-day-items.result.now (day_rows rows) c.loop-day.day-index are c.loop-day-test.true

pub with_day-general-requires : goal.with_day-general-requires
with_day-general-requires g c =
    let source = g.T.RowSource.view c.args.source.now in
    let are = days-at source.rows _ _ c.deref-day-items.ensures.value c.in_ok-days.ensures in
    let there = row-there source.rows c.deref-day-items.result.now (day_rows source.rows) c.loop-day.day-index c.row.result are c.loop-day-test.true c.row.ensures in
    subst (λ (general : General). DayFits general c.row.result) (sym c.loop-day.invariant) (day-fits source c.loop-day.day-index c.row.result there c.totals-totals.ensures.sound)

pub loop-day-preserved : goal.loop-day-preserved
loop-day-preserved g c =
    let source = g.T.RowSource.view c.args.source.now in
    let are = days-at source.rows _ _ c.deref-day-items.ensures.value c.in_ok-days.ensures in
    let there = row-there source.rows c.deref-day-items.result.now (day_rows source.rows) c.loop-day.day-index c.row.result are c.loop-day-test.true c.row.ensures in
    c.with_day-general.ensures ∙ ap (λ (general : General). with_day general c.row.result) c.loop-day.invariant ∙ sym (next-day source c.loop-day.day-index c.row.result there)

pub returns : goal.returns
returns g c =
    let source = g.T.RowSource.view c.args.source.now in
    let many = as-many source.rows c.in_ok-days.days.items (day_rows source.rows) (days-at source.rows _ _ refl c.in_ok-days.ensures) in
    c.loop-day.invariant ∙ so_far-all source c.loop-day.day-index (omega (arith, c.loop-day-test.false, c.deref-day-items.ensures.len, c.in_ok-days.days.ok, many))
