use Rattle.std.specs.List.Sorted.{IsStrictlySortedBy}
use Rattle.ga_base.specs.Orders.{name_cmp}
use Rattle.ga_summary.specs.SummaryRows.{SummaryRow}
use Rattle.ga_summary.specs.Steps.Entries.{rows_of, row_of}
use Rattle.ga_summary.proofs.Merging.{all-row_at}
use Rattle.ga_summary.proofs.summary.Summary.has_pair.Goals as goal

pub holds_visitor-requires : goal.holds_visitor-requires
holds_visitor-requires c =
    let found = rw (c.deref.ensures.value) at c.in-Some.ensures in
    rw c.names.ensures (all-row_at (λ (row : SummaryRow). IsStrictlySortedBy name_cmp row.names) (rows_of c.self.inside.entries.items) c.args.key.now (row_of c.in-Some.entry.now) c.self.invariant.0.ordered.names found)
