use Rattle.std.proofs.Common.{length, refl, sym, subst}
use Rattle.ga_tallies.specs.Tallies.{IsTallyOf, lists_in, pairs_in}
use Rattle.ga_totals.specs.Steps.Sources.{AreVisits}
use Rattle.ga_totals.proofs.OfOutcomes.{rows-within}
use Rattle.ga_totals.proofs.Sources.{can-tell, tells-sum}
use Rattle.ga_totals.proofs.total.Total.source.Goals as goal

pub visits_and_panels-requires-after_bounds : goal.visits_and_panels-requires-after_bounds
visits_and_panels-requires-after_bounds g c κs within =
    let is = subst (IsTallyOf c.requires.outcomes) (sym c.self.view_is) c.requires.tally in
    rw (c.len-many.ensures.value, c.deref.ensures.value) (rows-within c.requires.outcomes _ (lists_in c.self.inside.parts.visits.items) is refl)

pub of-requires : goal.of-requires
of-requires g c =
    let inside = c.self.inside.parts in
    let is = subst (IsTallyOf c.requires.outcomes) (sym c.self.view_is) c.requires.tally in
    let are_visits : AreVisits (length inside.keys) (pairs_in (lists_in inside.visits.items)) c.in_ok-visits.visits.items = rw (c.deref.ensures.value) at c.in_ok-visits.ensures.visits in
    record {
      can = rw (c.deref-2.ensures.value) (can-tell c.requires.outcomes _ is c.requires.countable _ are_visits c.self.invariant);
      panels = c.in_ok-visits.ensures.panels;
    }

pub returns : goal.returns
returns g c = λ xs tally can.
    let inside = c.self.inside.parts in
    let is = subst (IsTallyOf xs) (sym c.self.view_is) tally in
    let are_visits : AreVisits (length inside.keys) (pairs_in (lists_in inside.visits.items)) c.in_ok-visits.visits.items = rw (c.deref.ensures.value) at c.in_ok-visits.ensures.visits in
    rw (c.of.ensures, c.deref-2.ensures.value) (tells-sum xs _ is can _ are_visits c.self.invariant)
