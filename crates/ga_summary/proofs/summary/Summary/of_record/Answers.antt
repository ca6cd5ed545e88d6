use Rattle.std.specs.Option.{option_copied}
use Rattle.ga_summary.specs.Outcomes.{hit_of}
use Rattle.ga_summary.proofs.OneLine.{IsSummary-line}
use Rattle.ga_summary.proofs.summary.Summary.of_record.Goals as goal

pub invariant_of-result : goal.invariant_of-result
invariant_of-result c = (rw (c.totals_of_record.ensures, c.in_ok-line_entries.ensures.rows, c.sums_of_record.ensures) (IsSummary-line (hit_of c.args.keys.now (option_copied c.args.visitor) c.args.rec.now) c.args.rec.now.date c.requires), c.in_ok-line_entries.ensures.closed)
