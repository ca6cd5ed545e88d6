use Rattle.std.proofs.Common.{sym, subst}
use Rattle.ga_format.specs.Named.{StandsFor}
use Rattle.ga_one_run.proofs.FormatLemmas.{refused-log}
use Rattle.ga_one_run.proofs.setups.log_format.Goals as goal

pub returns-clause-fault : goal.returns-clause-fault
returns-clause-fault c =
    refused-log c.args.word.now c.in_ok-of.field-0 c.in-Err.fault c.refusal.result
    (subst (StandsFor c.args.word.now) (sym c.in_ok-of.ensures) c.format_text.ensures) c.in-Err.ensures.fault c.refusal.ensures.refusal
