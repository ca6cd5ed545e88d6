use Rattle.std.proofs.lemmas.Result.{err_from_is_err_and}
use Rattle.ga_summary.specs.SummaryParts.{value_of}
use Rattle.ga_summary.proofs.PrefixRows.{no_break}
use Rattle.ga_summary.proofs.summary.Summary.from_parts.Goals as goal

pub returns-in_err-entries_of-clause-bad : goal.returns-in_err-entries_of-clause-bad
returns-in_err-entries_of-clause-bad c =
    let fault = err_from_is_err_and c.from_residual.result c.from_residual.ensures.1 in
    let sound = rw (c.items.ensures) at c.in_default.ensures in
    rw (fault.1, fault.2) (λ at. (λ e. absurd (cc e), λ bad. absurd (no_break (value_of c.args.parts) at sound bad)))

pub returns-clause-bad : goal.returns-clause-bad
returns-clause-bad c =
    let sound = rw (c.items.ensures) at c.in_default.ensures in
    λ at. (λ e. absurd (cc e), λ bad. absurd (no_break (value_of c.args.parts) at sound bad))
