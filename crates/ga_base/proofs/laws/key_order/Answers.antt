use Rattle.ga_base.proofs.OrderLemmas.{key_cmp_is, key_cmp_total, key_cmp_exact}
use Rattle.ga_base.proofs.laws.key_order.Goals as goal

pub returns-clause-order : goal.returns-clause-order
returns-clause-order c = key_cmp_is

pub returns-clause-total : goal.returns-clause-total
returns-clause-total c = key_cmp_total

pub returns-clause-exact : goal.returns-clause-exact
returns-clause-exact c = key_cmp_exact
