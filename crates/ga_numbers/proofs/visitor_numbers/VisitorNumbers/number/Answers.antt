use Rattle.std.proofs.Common.{List, ◌∙◌, ap, refl, subst}
use Rattle.std.proofs.lemmas.Result.{IfOk-weaker}
use Rattle.ga_base.specs.Orders.{is_same_visitor}
use Rattle.ga_numbers.specs.Steps.Kept.{no_row}
use Rattle.ga_numbers.specs.Steps.ShardRows.{is_same_row}
use Rattle.ga_numbers.specs.Steps.VisitorRows.{IsAgent, agent_of, visitor_at}
use Rattle.ga_numbers.specs.NotedNumbers.{IsNumbered}
use Rattle.ga_numbers.specs.declared.shard_row.ShardRow.{ShardRow}
use Rattle.ga_numbers.proofs.Agents.{agent-noted}
use Rattle.ga_numbers.proofs.Prefixed.{extended, items_in, numbered}
use Rattle.ga_numbers.proofs.Prefixings.{makes-visitors}
use Rattle.ga_numbers.proofs.MergedShards.{on-err-so}
use Rattle.ga_numbers.proofs.visitor_numbers.VisitorNumbers.number.Goals as goal

pub invariant_of-self-2 : goal.invariant_of-self-2
invariant_of-self-2 c =
    let inside = c.self.inside in
    let row : ShardRow = record { prefix = c.in_ok-number.field-0; date = c.args.visitor.now.date; text = c.args.visitor.now.host.now } in
    agent-noted (agent_of c.args.visitor.now) row c.number-2.result inside.agents c.number.new.self inside.rows c.number-2.new.self (refl, refl) c.self.invariant c.in_ok-number.ensures.ok c.number-2.ensures.ok c.number-2.ensures.err

pub returns-clause-ok : goal.returns-clause-ok
returns-clause-ok c =
    let inside = c.self.inside in
    let agents = c.number.new.self in
    let rows = c.number-2.new.self in
    let agent = agent_of c.args.visitor.now in
    let row : ShardRow = record { prefix = c.in_ok-number.field-0; date = c.args.visitor.now.date; text = c.args.visitor.now.host.now } in
    let kept = agent-noted agent row c.number-2.result inside.agents agents inside.rows rows (refl, refl) c.self.invariant c.in_ok-number.ensures.ok c.number-2.ensures.ok c.number-2.ensures.err in
    IfOk-weaker c.number-2.result _ _ (λ number one.
    subst (λ old. IsNumbered is_same_visitor (visitor_at agent row) number old (items_in no_row is_same_row is_same_visitor IsAgent visitor_at makes-visitors agents rows)) c.self.view_is
    (numbered no_row is_same_row is_same_visitor IsAgent visitor_at makes-visitors agent row number inside.agents agents inside.rows rows c.in_ok-number.ensures.ok kept.different kept.plain c.self.invariant.prefixed one)) c.number-2.ensures.ok

pub returns-clause-err : goal.returns-clause-err
returns-clause-err c =
    let inside = c.self.inside in
    let agents = c.number.new.self in
    on-err-so c.number-2.result (λ same.
    ap (items_in no_row is_same_row is_same_visitor IsAgent visitor_at makes-visitors agents) same
    ∙ ap (λ (l : List ShardRow). items_in no_row is_same_row is_same_visitor IsAgent visitor_at makes-visitors l inside.rows) c.in_ok-number.ensures.ok.items
    ∙ extended no_row is_same_row is_same_visitor IsAgent visitor_at makes-visitors inside.agents (agent_of c.args.visitor.now) inside.rows c.self.invariant.prefixed
    ∙ c.self.view_is) c.number-2.ensures.err
