use Rattle.std.proofs.Common.{Ok}
use Rattle.std.proofs.lemmas.Result.{err_from_is_err_and}
use Rattle.ga_conf.proofs.FileLemmas.{only_list, only_fault, only_list_err, only_fault_err}
use Rattle.ga_conf.proofs.UnitLemmas.{conf_words}
use Rattle.ga_conf.proofs.conf_file.read_conf.Goals as goal

pub returns-in_err-read_lines-clause-only_words : goal.returns-in_err-read_lines-clause-only_words
returns-in_err-read_lines-clause-only_words c =
    only_list_err c.args.bytes.now _ _ (err_from_is_err_and c.from_residual.result c.from_residual.ensures.1) c.in_err-read_lines.ensures.fault

pub returns-in_err-read_lines-clause-only_fault : goal.returns-in_err-read_lines-clause-only_fault
returns-in_err-read_lines-clause-only_fault c =
    only_fault_err c.args.bytes.now _ _ (err_from_is_err_and c.from_residual.result c.from_residual.ensures.1) c.in_err-read_lines.ensures.fault

pub returns-clause-only_words : goal.returns-clause-only_words
returns-clause-only_words c = only_list c.args.bytes.now (Ok _) c.in_ok-read_lines.ensures.ok tt

pub returns-clause-only_fault : goal.returns-clause-only_fault
returns-clause-only_fault c = only_fault c.args.bytes.now (Ok _) c.in_ok-read_lines.ensures.ok tt

pub returns-clause-units : goal.returns-clause-units
returns-clause-units c = conf_words c.each_value_is_judged.ensures c.args.bytes.now _ c.in_ok-read_lines.ensures.ok
