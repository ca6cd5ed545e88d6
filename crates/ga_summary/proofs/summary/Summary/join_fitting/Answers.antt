use Rattle.std.proofs.Common.{◌≡◌, ap}
use Rattle.ga_summary.specs.Steps.Entries.{rows_of}
use Rattle.ga_summary.specs.SummaryRows.{SummaryValue}
use Rattle.ga_base.specs.Totals.{totals_plus}
use Rattle.ga_summary.specs.Steps.Joined.{put_rows}
use Rattle.ga_summary.proofs.Bounds.{entries_can_grow, rows_small}
use Rattle.ga_summary.proofs.Merging.{IsInOrder-put_rows}
use Rattle.ga_summary.proofs.Soundness.{IsSound-merged_value}
use Rattle.ga_summary.proofs.summary.Summary.join_fitting.Goals as goal

pub join_entries-requires-clause-grows_left : goal.join_entries-requires-clause-grows_left
join_entries-requires-clause-grows_left c =
    let mine : SummaryValue = record { totals = c.self.inside.totals; rows = rows_of c.self.inside.entries.items } in
    entries_can_grow c.self.inside.entries.items (rows_small mine c.self.invariant.0.sound) c.self.invariant.0.ordered.names c.self.invariant.1

pub join_entries-requires-clause-grows_right : goal.join_entries-requires-clause-grows_right
join_entries-requires-clause-grows_right c =
    let theirs : SummaryValue = record { totals = c.other.inside.totals; rows = rows_of c.other.inside.entries.items } in
    entries_can_grow c.other.inside.entries.items (rows_small theirs c.other.invariant.0.sound) c.other.invariant.0.ordered.names c.other.invariant.1

pub invariant_of-result : goal.invariant_of-result
invariant_of-result c =
    let mine : SummaryValue = record { totals = c.self.inside.totals; rows = rows_of c.self.inside.entries.items } in
    let theirs : SummaryValue = record { totals = c.other.inside.totals; rows = rows_of c.other.inside.entries.items } in
    let rows : rows_of c.in_ok-join_entries.field-0.items ≡ put_rows theirs.rows mine.rows = c.in_ok-join_entries.ensures.rows in
    let totals : c.args.totals ≡ totals_plus mine.totals theirs.totals = rw (ap (λ (v : SummaryValue). v.totals) c.self.view_is, ap (λ (v : SummaryValue). v.totals) c.other.view_is) c.requires.totals in (
      rw (rows, totals) (record {
        ordered = IsInOrder-put_rows mine.rows theirs.rows c.self.invariant.0.ordered c.other.invariant.0.ordered;
        sound = IsSound-merged_value mine theirs c.self.invariant.0.ordered c.other.invariant.0.ordered c.self.invariant.0.sound c.other.invariant.0.sound (rw (← totals) c.requires.fit);
      }),
      c.in_ok-join_entries.ensures.closed,
    )
