use Rattle.std.proofs.Common.{List, ◌<◌, length, subst, take_all, arith}
use Rattle.std.proofs.lemmas.List.Elements.{All-get_or}
use Rattle.ga_report.specs.Steps.RowPlaces.{row_at, rows_at}
use Rattle.ga_report.specs.Steps.Summed.{AreSummed}
use Rattle.ga_report.specs.Source.{SourceRow}
use Rattle.ga_report.proofs.Alone.{fits-more, summed-more}
use Rattle.ga_report.proofs.Found.{found-long, found-there}
use Rattle.ga_report.proofs.PanelIndexes.{indexes-inside}
use Rattle.ga_report.proofs.panel_items.sum_in_turn.Goals as goal

pub row-requires : goal.row-requires
row-requires g c =
    let rows = (g.T.RowSource.view c.args.source.now).rows in
    let indexes = c.args.indexes.now in
    All-get_or (λ row_index. row_index.place < length rows) indexes c.loop-row_index.row_index-index (record { place = 0; hash = 0 }) c.loop-row_index-test.true (indexes-inside rows indexes (rows_at rows indexes) c.requires.there)

pub add_row-requires-clause-fit : goal.add_row-requires-clause-fit
add_row-requires-clause-fit g c =
    let rows = (g.T.RowSource.view c.args.source.now).rows in
    let indexes = c.args.indexes.now in
    let there = found-there (row_at rows) indexes (rows_at rows indexes) c.loop-row_index.row_index-index _ c.row.result c.requires.there.at c.loop-row_index-test.true c.row.ensures in
    fits-more (rows_at rows indexes) c.loop-row_index.items.items c.loop-row_index.row_index-index c.row.result there c.loop-row_index.invariant.1 c.requires.fit

pub loop-row_index-preserved : goal.loop-row_index-preserved
loop-row_index-preserved g c =
    let rows = (g.T.RowSource.view c.args.source.now).rows in
    let indexes = c.args.indexes.now in
    let there = found-there (row_at rows) indexes (rows_at rows indexes) c.loop-row_index.row_index-index _ c.row.result c.requires.there.at c.loop-row_index-test.true c.row.ensures in
    (c.in_ok-add_row.ensures.names, summed-more (rows_at rows indexes) c.loop-row_index.items.items c.loop-row_index.row_index-index c.row.result there c.loop-row_index.invariant.1 _ c.in_ok-add_row.ensures.items)

pub returns : goal.returns
returns g c =
    let rows = (g.T.RowSource.view c.args.source.now).rows in
    let indexes = c.args.indexes.now in
    let many = found-long (row_at rows) indexes (rows_at rows indexes) c.requires.there.at in
    subst (λ (xs : List SourceRow). AreSummed xs c.loop-row_index.items.items) (take_all c.loop-row_index.row_index-index (rows_at rows indexes) (omega (arith, c.loop-row_index-test.false, many))) c.loop-row_index.invariant.1
