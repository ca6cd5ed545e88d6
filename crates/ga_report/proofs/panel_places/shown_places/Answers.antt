use Rattle.std.proofs.Common.{List, sym, subst, ◌∙◌}
use Rattle.ga_report.specs.Source.{SourceRow}
use Rattle.ga_report.specs.Steps.RowPlaces.{AreAt}
use Rattle.ga_report.proofs.PanelPlaces.{all-shown}
use Rattle.ga_report.proofs.panel_places.shown_places.Goals as goal

pub returns : goal.returns
returns g c =
    let rows = (g.T.RowSource.view c.args.source.now).rows in
    let other = sym (c.panel_order.ensures.same _ _) ∙ sym c.eq.ensures ∙ c.if-eq.false in
    subst (λ (xs : List SourceRow). AreAt rows c.in_ok-places.places.items xs) (sym (all-shown c.args.panel c.args.spec rows other)) c.in_ok-places.ensures
