use Rattle.ga_summary.specs.Steps.Entries.{rows_of}
use Rattle.ga_summary.proofs.LastDays.{with-rows}
use Rattle.ga_summary.proofs.summary.Summary.trim.Goals as goal

pub invariant_of-self : goal.invariant_of-self
invariant_of-self c = (
  with-rows c.args.keep (record { totals = c.self.inside.totals; rows = rows_of c.self.inside.entries.items }) _ c.self.invariant.0 c.keep_last.ensures.rows,
  c.keep_last.ensures.closed c.self.invariant.1,
)
