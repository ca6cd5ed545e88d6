use Rattle.std.proofs.Common.{Ok}
use Rattle.std.proofs.lemmas.Result.{err_from_is_err_and}
use Rattle.ga_agents.proofs.FileLemmas.{only_list, only_fault, only_list_err, only_fault_err}
use Rattle.ga_agents.proofs.NameLemmas.{file_named}
use Rattle.ga_agents.proofs.rules.Rules.read.Goals as goal

pub invariant_of-result : goal.invariant_of-result
invariant_of-result c = file_named c.args.text.now _ c.in_ok-read_rules.ensures.rules

pub returns-in_err-read_rules-clause-only_rules : goal.returns-in_err-read_rules-clause-only_rules
returns-in_err-read_rules-clause-only_rules c =
    only_list_err c.args.text.now _ _ (err_from_is_err_and c.from_residual.result c.from_residual.ensures.1) c.in_err-read_rules.ensures.fault

pub returns-in_err-read_rules-clause-only_fault : goal.returns-in_err-read_rules-clause-only_fault
returns-in_err-read_rules-clause-only_fault c =
    only_fault_err c.args.text.now _ _ (err_from_is_err_and c.from_residual.result c.from_residual.ensures.1) c.in_err-read_rules.ensures.fault

pub returns-clause-only_rules : goal.returns-clause-only_rules
returns-clause-only_rules c = only_list c.args.text.now (Ok _) c.in_ok-read_rules.ensures.rules tt

pub returns-clause-only_fault : goal.returns-clause-only_fault
returns-clause-only_fault c = only_fault c.args.text.now (Ok _) c.in_ok-read_rules.ensures.rules tt
