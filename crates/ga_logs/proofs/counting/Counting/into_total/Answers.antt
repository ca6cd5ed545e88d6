use Rattle.std.proofs.Common.{List, sym, subst}
use Rattle.ga_summary.specs.Outcomes.{Outcome}
use Rattle.ga_tallies.specs.Tallies.{IsTallyOf}
use Rattle.ga_workers.specs.Together.{AreCounted}
use Rattle.ga_logs.proofs.Counts.{unfilled}
use Rattle.ga_logs.specs.Counting.{AreInTotal, CountingSeen, HasCounted}
use Rattle.ga_logs.proofs.counting.Counting.into_total.Goals as goal

pub total_of-requires-clause-some : goal.total_of-requires-clause-some
total_of-requires-clause-some g c κs within = (c.self.inside.start, c.self.invariant.0, c.self.invariant.3 c.in-None.is)

pub returns-in_ok-total_of-in-None-clause-ok : goal.returns-in_ok-total_of-in-None-clause-ok
returns-in_ok-total_of-in-None-clause-ok g c setup all has =
    let inside = c.self.inside in
    let total = c.in_ok-total_of-in-None.field-0 in
    let held = subst (λ (v : CountingSeen). HasCounted setup all v) (sym c.self.view_is) has in
    let was = unfilled inside.full setup inside.start all inside.tallies.items c.in-None.is held in
    let is : AreInTotal setup inside.start all total = record {
      outcomes = was.outcomes;
      have_outcomes = was.have_outcomes;
      tally = c.in_ok-total_of-in-None.ensures was.outcomes was.tallied.counted;
      countable = was.tallied.countable;
      fits = was.tallied.fits;
    } in
    subst (λ (v : CountingSeen). AreInTotal setup v.start.totals all total) c.self.view_is is

pub returns-in_ok-total_of-in-None-clause-together : goal.returns-in_ok-total_of-in-None-clause-together
returns-in_ok-total_of-in-None-clause-together g c =
    let total = c.in_ok-total_of-in-None.field-0 in
    subst (λ (v : CountingSeen). (outcomes : List Outcome) → AreCounted outcomes v.tallies → IsTallyOf outcomes total) c.self.view_is c.in_ok-total_of-in-None.ensures
