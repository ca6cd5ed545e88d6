use Rattle.std.proofs.Common.{◌∙◌, sym, inr, subst}
use Rattle.std.proofs.lemmas.List.{take_all}
use Rattle.ga_words.specs.Units.{AddsLogs}
use Rattle.ga_words.proofs.LogLemmas.{adds-next, none-nameless, is-nameless}
use Rattle.ga_words.proofs.words_reading.add_logs.Goals as goal

pub returns-in-Some-clause-fault : goal.returns-in-Some-clause-fault
returns-in-Some-clause-fault c = inr (is-nameless c.args.at c.args.logs.now c.in-Some.named (sym c.first_nameless.ensures ∙ c.in-Some.is))

pub loop-log-preserved : goal.loop-log-preserved
loop-log-preserved c =
    adds-next c.args.logs.now c.loop-log.log-index c.log-item.result c.args.settings.now c.loop-log.settings c.add_log.new.settings
    c.loop-log-test.true c.log-item.is c.loop-log.invariant c.in_ok-add_log.ensures

pub returns-clause-ok : goal.returns-clause-ok
returns-clause-ok c = (
  none-nameless c.args.logs.now (sym c.first_nameless.ensures ∙ c.in_default.is),
  subst (λ logs. AddsLogs logs c.args.settings.now c.loop-log.settings) (take_all c.loop-log.log-index c.args.logs.now c.loop-log-test.false) c.loop-log.invariant,
)
