use Rattle.std.proofs.Common.{◌≡◌, ℕ, List, map, subst, sym}
use Rattle.std.specs.List.{filter_map}
use Rattle.std.proofs.lemmas.Result.{IfOk-weaker}
use Rattle.ga_report.specs.declared.row_index.RowIndex.{RowIndex}
use Rattle.ga_report.specs.Items.{shown_rows}
use Rattle.ga_report.specs.Steps.Alone.{IsAlonePartition, AreBuckets, IsPartition, is_alone}
use Rattle.ga_report.specs.Steps.RowPlaces.{AreIndexes, index_at}
use Rattle.ga_report.specs.Steps.Summed.{panel_rows}
use Rattle.ga_report.specs.Source.{SourceRow}
use Rattle.ga_report.proofs.PanelPlaces.{all-inside}
use Rattle.ga_report.proofs.PanelIndexes.{are-indexes}
use Rattle.ga_report.proofs.panel_items.partition.Goals as goal

pub indexes_at-requires-after_bounds : goal.indexes_at-requires-after_bounds
indexes_at-requires-after_bounds g c κs within =
    let rows = (g.T.RowSource.view c.args.source.now).rows in
    rw c.deref.ensures.value (all-inside rows c.in_ok-places.places.items (panel_rows c.args.panel (shown_rows c.args.spec rows)) c.in_ok-places.ensures)

pub returns : goal.returns
returns g c =
    let rows = (g.T.RowSource.view c.args.source.now).rows in
    let those = panel_rows c.args.panel (shown_rows c.args.spec rows) in
    let places = c.in_ok-places.places.items in
    let indexes = c.in_ok-indexes.indexes.items in
    let is : indexes ≡ filter_map (index_at rows) places = subst (λ (xs : List ℕ). indexes ≡ filter_map (index_at rows) xs) c.deref.ensures.value c.in_ok-indexes.ensures in
    let are : AreIndexes rows indexes those = subst (λ (xs : List RowIndex). AreIndexes rows xs those) (sym is) (are-indexes rows places those c.in_ok-places.ensures) in
    let buckets = subst (λ (xs : List RowIndex). AreBuckets (map (λ (row_index : RowIndex). row_index.hash) xs) c.in_ok-buckets.buckets) c.deref-2.ensures.value c.in_ok-buckets.ensures in
    let apart = subst (λ (xs : List ℕ). AreBuckets xs c.in_ok-buckets.buckets) are.hashes buckets in
    IfOk-weaker c.partition.result (λ partition. (rows those : List SourceRow) → AreIndexes rows c.deref-3.result.now those → IsPartition rows (is_alone c.in_ok-buckets.buckets) those partition.passing.items partition.others.items)
    (λ partition. IsAlonePartition rows those partition.passing.items partition.others.items)
    (λ partition known. record {
      counts = c.in_ok-buckets.buckets;
      are_buckets = apart;
      partition = known rows those (subst (λ (xs : List RowIndex). AreIndexes rows xs those) (sym c.deref-3.ensures.value) are);
    }) c.partition.ensures
