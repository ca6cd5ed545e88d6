use Rattle.std.proofs.Common.{◌≡◌, Bool, true, false, List, arith, filter, subst, take_all}
use Rattle.std.specs.Prelude.{nat_le}
use Rattle.ga_report.specs.Source.{SourceRow}
use Rattle.ga_report.specs.Steps.RowPlaces.{AreAt}
use Rattle.ga_report.proofs.Bars.{is-up-to, not-up-to}
use Rattle.ga_report.proofs.PanelPlaces.{place-more, place-pass}
use Rattle.ga_report.proofs.kept_days.places_from.Goals as goal
use Rattle.ga_report.proofs.kept_days.places_from.Goals.{then-date-bar+in_ok-push, else-date-bar}

pub loop-at-preserved : goal.loop-at-preserved
loop-at-preserved g c =
    let rows = (g.T.RowSource.view c.args.source.now).rows in
    let from = λ (row : SourceRow). nat_le c.args.bar row.key.date in
    let row = c.row.result in
    elim c.if-date-bar.branch [
      | then-date-bar+in_ok-push w ↦
          let own : from row ≡ true = is-up-to c.args.bar row.key.date (omega (arith, c.date.ensures, w.if-date-bar.true)) in
          rw w.places-is (place-more from rows rows c.loop-at.at row c.row.ensures c.loop-at.at c.loop-at.places.items _ c.row.ensures own c.loop-at.invariant w.in_ok-push.ensures.items)
      | else-date-bar w ↦
          let other : from row ≡ false = not-up-to c.args.bar row.key.date (omega (arith, c.date.ensures, w.if-date-bar.false)) in
          rw w.places-is (place-pass from rows rows c.loop-at.at row c.row.ensures c.loop-at.places.items other c.loop-at.invariant)
    ]

pub returns : goal.returns
returns g c =
    let rows = (g.T.RowSource.view c.args.source.now).rows in
    subst (λ (xs : List SourceRow). AreAt rows c.loop-at.places.items (filter (λ row. nat_le c.args.bar row.key.date) xs)) (take_all c.loop-at.at rows (omega (arith, c.len-at-end.ensures, c.loop-at-test.false))) c.loop-at.invariant
