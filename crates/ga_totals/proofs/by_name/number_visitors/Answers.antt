use Rattle.std.proofs.Common.{◌+◌, sym, subst}
use Rattle.ga_totals.specs.Steps.Ranks.{AreNumbered}
use Rattle.ga_totals.proofs.Ranking.{numbered-more}
use Rattle.ga_totals.proofs.by_name.number_visitors.Goals as goal

pub loop-number-preserved : goal.loop-number-preserved
loop-number-preserved c =
    let visitors = c.args.visitors.now in
    let i = c.loop-number.number in
    subst (AreNumbered visitors (i + 1)) (sym c.in_ok-push.ensures.items)
    (numbered-more visitors c.loop-number.all.items i c.index-visitors-number.result c.loop-number-test.true c.index-visitors-number.is c.loop-number.invariant)
