use Rattle.std.proofs.Common.{◌≡◌, ◌+◌}
use Rattle.ga_summary.proofs.DayPlaces.{before}
use Rattle.ga_summary.proofs.trim.day_at.Given as goal

abbrev pub invariant-loop-entry : goal.invariant-loop-entry
invariant-loop-entry l = l.left + before l.entries l.entry-index ≡ l.place
