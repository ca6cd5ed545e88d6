use Rattle.ga_format.proofs.UnitLemmas.{gives_plain, not_front}
use Rattle.std.proofs.Common.{codes}
use Rattle.ga_format.proofs.units.read_unit.Goals as goal

pub returns-clause-unit : goal.returns-clause-unit
returns-clause-unit c =
    let text = c.args.text.now in
    gives_plain text c.in-Some-split_first.byte.now c.in-Some-split_first.after.now c.in-Some-split_first.ensures.cases.0
    (not_front text (codes "%") c.in_default.ensures.cases)
    (not_front text (codes "~h{") c.in_default-strip_prefix.ensures.cases)
    (not_front text (codes "\\t") c.in_default-strip_prefix-2.ensures.cases)
