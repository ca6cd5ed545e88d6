use Rattle.std.proofs.Common.{◌+◌, sym, subst, set}
use Rattle.ga_totals.proofs.Ranking.{HaveRanks, ranks-are, ranks-more}
use Rattle.ga_totals.proofs.ranks.rank.Goals as goal

pub loop-entry-preserved : goal.loop-entry-preserved
loop-entry-preserved c =
    let visitors = c.args.visitors.now in
    let order = c.args.order.now in
    let i = c.loop-entry.entry-index in
    let new = c.next_rank.new.firsts.items in
    let more =
    ranks-more visitors order c.requires.by_name i c.entry-item.result c.loop-entry-test.true c.entry-item.is c.loop-entry.firsts.items c.loop-entry.ranks.items c.loop-entry.invariant new c.in_ok-rank.rank c.in_ok-rank.ensures in
    subst (λ n. HaveRanks visitors order (i + 1) new (set c.loop-entry.ranks.items n c.in_ok-rank.rank)) (sym c.number.ensures) more

pub invariant_of-result : goal.invariant_of-result
invariant_of-result c = ranks-are c.args.visitors.now c.args.order.now c.loop-entry.entry-index c.loop-entry.firsts.items c.loop-entry.ranks.items c.loop-entry-test.false c.requires.by_name c.loop-entry.invariant
