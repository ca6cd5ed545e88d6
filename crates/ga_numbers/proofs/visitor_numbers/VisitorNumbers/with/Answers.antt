use Rattle.std.proofs.Common.{List, ℕ, map, subst}
use Rattle.ga_base.specs.Orders.{is_same_visitor}
use Rattle.ga_base.specs.declared.key.Visitor.{Visitor}
use Rattle.ga_numbers.specs.NotedNumbers.{AreNotedInTurn}
use Rattle.ga_numbers.specs.Steps.ShardRows.{is_same_row, remapped_each}
use Rattle.ga_numbers.specs.Steps.VisitorRows.{visitors_in}
use Rattle.ga_numbers.proofs.Agents.{visitors-in-turn}
use Rattle.ga_numbers.proofs.visitor_numbers.VisitorNumbers.with.Goals as goal

pub invariant_of-known : goal.invariant_of-known
invariant_of-known g c =
    let old = c.self.inside in
    let agents = c.in_ok-agents.agents in
    let rows = c.in_ok-rows.rows in
    let numbers : List (List ℕ) = map (λ l. l.items) c.in_ok-rows.numbers.items in
    let noted = subst (λ l. AreNotedInTurn is_same_row (remapped_each (map (λ n. n.items) l) c.in_ok-more_agents.more_rows.items) numbers old.rows rows) c.deref.ensures.value c.in_ok-rows.ensures in
    (visitors-in-turn c.args.others.items c.in_ok-more_agents.more_agents.items c.in_ok-more_agents.more_rows.items old.agents agents old.rows rows
    (map (λ l. l.items) c.in_ok-agents.places.items) numbers c.in_ok-more_agents.ensures c.self.invariant c.in_ok-agents.ensures noted).1

pub returns : goal.returns
returns g c =
    let old = c.self.inside in
    let agents = c.in_ok-agents.agents in
    let rows = c.in_ok-rows.rows in
    let numbers : List (List ℕ) = map (λ l. l.items) c.in_ok-rows.numbers.items in
    let noted = subst (λ l. AreNotedInTurn is_same_row (remapped_each (map (λ n. n.items) l) c.in_ok-more_agents.more_rows.items) numbers old.rows rows) c.deref.ensures.value c.in_ok-rows.ensures in
    let both = visitors-in-turn c.args.others.items c.in_ok-more_agents.more_agents.items c.in_ok-more_agents.more_rows.items old.agents agents old.rows rows
    (map (λ l. l.items) c.in_ok-agents.places.items) numbers c.in_ok-more_agents.ensures c.self.invariant c.in_ok-agents.ensures noted in
    subst (λ (l : List Visitor). AreNotedInTurn is_same_visitor c.args.others.items numbers l (visitors_in agents rows)) c.self.view_is both.0
