use Rattle.std.proofs.Common.{◌≡◌, List, sym, subst}
use Rattle.ga_report.specs.Source.{SourceRow}
use Rattle.ga_report.specs.Steps.RowPlaces.{AreAt}
use Rattle.ga_report.proofs.LastRows.{from-first, some-kept}
use Rattle.ga_report.proofs.kept_days.last_days.Goals as goal

pub invariant_of-result : goal.invariant_of-result
invariant_of-result g c =
    let rows = (g.T.RowSource.view c.args.source.now).rows in
    subst (λ (those : List SourceRow). AreAt rows c.in_ok-places.places.items those) (from-first c.args.keep c.in_ok-bar.bar rows c.in_ok-bar.ensures) c.in_ok-places.ensures

pub returns : goal.returns
returns g c = sym (some-kept c.args.keep (g.T.RowSource.view c.args.source.now) c.requires)
