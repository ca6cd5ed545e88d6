use Rattle.ga_report.proofs.Arrangement.{order_total}
use Rattle.ga_report.proofs.Firsts.{are-first}
use Rattle.ga_report.proofs.arranging.top_of_many.Goals as goal

pub returns : goal.returns
returns g c =
    are-first (order_total c.args.panel) c.args.most _ _ _ (c.in_ok-items.ensures c.in_ok-rows.rows.items c.in_ok-rows.ensures) c.in_report_order.ensures.same c.in_report_order.ensures.sorted
