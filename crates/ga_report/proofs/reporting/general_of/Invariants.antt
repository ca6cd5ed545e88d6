use Rattle.std.proofs.Common.{◌≡◌}
use Rattle.ga_report.proofs.Generals.{so_far}
use Rattle.ga_report.proofs.reporting.general_of.Given as goal

abbrev pub invariant-loop-day : goal.invariant-loop-day
invariant-loop-day g l = l.general ≡ so_far (g.T.RowSource.view l.source) l.day-index
