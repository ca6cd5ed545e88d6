use Rattle.std.proofs.Common.{length}
use Rattle.ga_totals.proofs.Ranking.{numbered-moved}
use Rattle.ga_totals.proofs.by_name.by_name.Goals as goal

pub returns : goal.returns
returns c = record {
  numbered = numbered-moved c.args.visitors.now (length c.args.visitors.now) _ c.sort_by_name.result.items c.sort_by_name.ensures.same c.in_ok-number_visitors.ensures;
  sorted = c.sort_by_name.ensures.sorted;
}
