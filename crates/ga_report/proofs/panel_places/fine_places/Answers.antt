use Rattle.std.proofs.Common.{List, arith, ap, sym, subst, ◌∙◌, filter, take_all}
use Rattle.ga_base.specs.declared.panel.Panel.TheVariants.{Visitors}
use Rattle.ga_report.specs.Items.{is_as_fine}
use Rattle.ga_report.specs.Source.{SourceRow}
use Rattle.ga_report.specs.Steps.RowPlaces.{AreAt}
use Rattle.ga_report.specs.Steps.Summed.{panel_rows}
use Rattle.ga_report.proofs.PanelPlaces.{as-many, fine-shown, place-more, place-pass, row-at, row-there}
use Rattle.ga_report.proofs.panel_places.fine_places.Goals as goal
use Rattle.ga_report.proofs.panel_places.fine_places.Goals.{then-is_as_fine+in_ok-push, else-is_as_fine}

pub row-requires : goal.row-requires
row-requires g c =
    let rows = (g.T.RowSource.view c.args.source.now).rows in
    row-at rows c.args.places.now (panel_rows Visitors rows) c.loop-at.at-index c.requires c.loop-at-test.true

pub loop-at-preserved : goal.loop-at-preserved
loop-at-preserved g c =
    let rows = (g.T.RowSource.view c.args.source.now).rows in
    let those = panel_rows Visitors rows in
    let fine = λ (row : SourceRow). is_as_fine c.args.spec row.key in
    let at = c.loop-at.at-index in
    let row = c.row.result in
    let there = row-there rows c.args.places.now those at row c.requires c.loop-at-test.true c.row.ensures in
    elim c.if-is_as_fine.branch [
      | then-is_as_fine+in_ok-push w ↦
          rw w.fine-is (place-more fine rows those at row there _ c.loop-at.fine.items _ c.row.ensures (sym c.is_as_fine.ensures ∙ w.if-is_as_fine.true) c.loop-at.invariant w.in_ok-push.ensures.items)
      | else-is_as_fine w ↦
          rw w.fine-is (place-pass fine rows those at row there c.loop-at.fine.items (sym c.is_as_fine.ensures ∙ w.if-is_as_fine.false) c.loop-at.invariant)
    ]

pub returns : goal.returns
returns g c =
    let rows = (g.T.RowSource.view c.args.source.now).rows in
    let those = panel_rows Visitors rows in
    let fine = λ (row : SourceRow). is_as_fine c.args.spec row.key in
    let all = take_all c.loop-at.at-index those (omega (arith, c.loop-at-test.false, as-many rows c.args.places.now those c.requires)) in
    subst (λ (xs : List SourceRow). AreAt rows c.loop-at.fine.items xs) (ap (filter fine) all ∙ sym (fine-shown c.args.spec rows)) c.loop-at.invariant
