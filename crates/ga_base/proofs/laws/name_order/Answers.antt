use Rattle.ga_base.proofs.OrderLemmas.{name_cmp_is, name_cmp_total, name_cmp_exact}
use Rattle.ga_base.proofs.laws.name_order.Goals as goal

pub returns-clause-order : goal.returns-clause-order
returns-clause-order c = name_cmp_is

pub returns-clause-total : goal.returns-clause-total
returns-clause-total c = name_cmp_total

pub returns-clause-exact : goal.returns-clause-exact
returns-clause-exact c = name_cmp_exact
