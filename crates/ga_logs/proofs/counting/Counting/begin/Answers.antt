use Rattle.std.proofs.Common.{◌∙◌, sym, subst}
use Rattle.std.proofs.lemmas.Bool.{eqb-true}
use Rattle.ga_logs.proofs.Counts.{has-begun, no-items}
use Rattle.ga_logs.specs.Counting.{CountingSeen, HasCounted}
use Rattle.ga_logs.proofs.counting.Counting.begin.Goals as goal

pub returns-in_ok-self-inside-clause-counted : goal.returns-in_ok-self-inside-clause-counted
returns-in_ok-self-inside-clause-counted g c setup before was =
    let inside = c.self.inside in
    let held = subst (λ (v : CountingSeen). HasCounted setup before v) (sym c.self.view_is) was in
    let none = no-items inside.tallies.items (sym inside.tallies.ok.0 ∙ eqb-true _ _ (sym c.is_empty.ensures ∙ c.if-is_empty.true)) in
    has-begun inside.start inside.tallies.items c.in_ok-self-inside.field-0.items none c.in_ok-self-inside.ensures.none setup before inside.full held
