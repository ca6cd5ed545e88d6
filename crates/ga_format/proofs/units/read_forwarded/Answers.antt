use Rattle.std.proofs.Common.{refl, sym, ◌∙◌, inr}
use Rattle.ga_format.proofs.UnitLemmas.{unclosed, nothing_inside, gives_forwarded}
use Rattle.ga_format.proofs.units.read_forwarded.Goals as goal

pub returns-in_default-clause-fault : goal.returns-in_default-clause-fault
returns-in_default-clause-fault c = inr (refl, unclosed c.args.text.now (sym c.closing_brace.ensures ∙ c.in_default.is))

pub returns-then-end-eq0-clause-fault : goal.returns-then-end-eq0-clause-fault
returns-then-end-eq0-clause-fault c =
    inr (refl, nothing_inside c.args.text.now c.in-Some.end (sym c.closing_brace.ensures ∙ c.in-Some.is) c.if-end-eq0.true)

pub returns-clause-unit : goal.returns-clause-unit
returns-clause-unit c =
    gives_forwarded c.args.text.now c.in-Some.end c.in_ok-separators.separators
    (sym c.closing_brace.ensures ∙ c.in-Some.is) c.if-end-eq0.false c.in_ok-separators.ensures
