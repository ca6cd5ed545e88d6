use Rattle.ga_report.proofs.Arrangement.{order_total}
use Rattle.ga_report.proofs.Firsts.{are-first}
use Rattle.ga_report.proofs.arranging.top_items.Goals as goal

pub returns : goal.returns
returns c =
    are-first (order_total c.args.panel) c.args.most c.args.items.items _ _ c.in_ok-rows.ensures c.in_report_order.ensures.same c.in_report_order.ensures.sorted
