use Rattle.std.proofs.Common.{refl, sym, ◌∙◌}
use Rattle.ga_one_run.proofs.run.agree.Goals as goal

pub returns-in-None-clause-agrees : goal.returns-in-None-clause-agrees
returns-in-None-clause-agrees c = sym c.differs.ensures ∙ c.in-None.is

pub returns-in-Some-clause-differs : goal.returns-in-Some-clause-differs
returns-in-Some-clause-differs c = (c.in-Some.number, sym c.differs.ensures ∙ c.in-Some.is, refl)
