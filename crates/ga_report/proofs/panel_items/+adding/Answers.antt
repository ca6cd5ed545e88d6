use Rattle.std.proofs.Common.{List, subst}
use Rattle.ga_report.specs.declared.row_index.RowIndex.{RowIndex}
use Rattle.ga_report.specs.Steps.Alone.{has_none}
use Rattle.ga_report.specs.Steps.RowPlaces.{rows_at}
use Rattle.ga_report.specs.Steps.Summed.{AreSummed}
use Rattle.ga_report.proofs.Alone.{can-add-others, can-add-some, summed-halves}
use Rattle.ga_report.proofs.panel_items.+adding.Goals as goal

pub sum_items-sum_both-requires-clause-low : goal.sum_items-sum_both-requires-clause-low
sum_items-sum_both-requires-clause-low g t c κs within =
    let rows = (g.T.RowSource.view c.args.source.now).rows in
    let those = rows_at rows c.args.indexes.now in
    rw c.deref.ensures.value (can-add-some rows those (has_none c.from.result) _ _ (c.in_ok-halves.ensures rows those c.requires.there) c.requires.fit)

pub sum_items-sum_both-requires-clause-high : goal.sum_items-sum_both-requires-clause-high
sum_items-sum_both-requires-clause-high g t c κs within =
    let rows = (g.T.RowSource.view c.args.source.now).rows in
    let those = rows_at rows c.args.indexes.now in
    rw c.deref-2.ensures.value (can-add-others rows those (has_none c.from.result) _ _ (c.in_ok-halves.ensures rows those c.requires.there) c.requires.fit)

pub sum_items-returns : goal.sum_items-returns
sum_items-returns g t c =
    let rows = (g.T.RowSource.view c.args.source.now).rows in
    let those = rows_at rows c.args.indexes.now in
    let halves = c.in_ok-halves.halves in
    let low = subst (λ (xs : List RowIndex). AreSummed (rows_at rows xs) c.in_ok-items.items.items) c.deref.ensures.value c.in_ok-items.ensures.low in
    let high = subst (λ (xs : List RowIndex). AreSummed (rows_at rows xs) c.in_ok-items.others.items) c.deref-2.ensures.value c.in_ok-items.ensures.high in
    summed-halves rows those (has_none c.from.result) halves.passing.items halves.others.items c.in_ok-items.items.items c.in_ok-items.others.items _
    (c.in_ok-halves.ensures rows those c.requires.there) low high c.in_ok-append.ensures.items
