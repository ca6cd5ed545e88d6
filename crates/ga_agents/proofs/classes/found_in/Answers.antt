use Rattle.std.proofs.Common.{sym, subst, ◌++◌, MatchOption}
use Rattle.ga_agents.specs.declared.row.Rule.{Rule}
use Rattle.ga_agents.specs.Occurs.{NoneOccurs}
use Rattle.ga_agents.specs.Steps.{IsFound}
use Rattle.ga_agents.specs.Tables.{builtin_rules}
use Rattle.ga_agents.proofs.ClassLemmas.{found_in_file, found_built_in, found_none}
use Rattle.ga_agents.proofs.classes.found_in.Goals as goal

pub returns-in-Some : goal.returns-in-Some
returns-in-Some c =
    found_in_file c.args.rules.now c.args.agent.now c.in-Some.rule.now _ c.as_str.ensures c.as_str-in-Some.ensures c.in-Some.ensures.0 c.in-Some.ensures.1

pub returns : goal.returns
returns c =
    found_built_in c.args.rules.now c.browsers.result.now c.args.agent.now c.in_ok-entry.entry.now c.in_ok-entry.at c.browsers.ensures
    c.in_default.ensures c.in_ok-entry.ensures.0 c.in_ok-entry.ensures.1

pub returns-in_err-entry : goal.returns-in_err-entry
returns-in_err-entry c =
    let rules = c.args.rules.now ++ builtin_rules in
    subst (λ r. MatchOption r (NoneOccurs (λ (x : Rule). x.token) rules c.args.agent.now) (IsFound rules c.args.agent.now)) (sym c.from_residual.ensures)
    (found_none c.args.rules.now c.browsers.result.now c.args.agent.now c.browsers.ensures c.in_default.ensures c.in_err-entry.ensures)
