use Rattle.ga_base.proofs.OrderLemmas.{visitor_cmp_is, visitor_cmp_total, visitor_cmp_exact}
use Rattle.ga_base.proofs.laws.visitor_order.Goals as goal

pub returns-clause-order : goal.returns-clause-order
returns-clause-order c = visitor_cmp_is

pub returns-clause-total : goal.returns-clause-total
returns-clause-total c = visitor_cmp_total

pub returns-clause-exact : goal.returns-clause-exact
returns-clause-exact c = visitor_cmp_exact
