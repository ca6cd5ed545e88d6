use Rattle.std.proofs.Common.{◌≤◌, length}
use Rattle.ga_resume.specs.Steps.Choosing.{IsBest}
use Rattle.ga_resume.proofs.choosing.best_candidate.Given as goal

abbrev pub invariant-loop-candidate : goal.invariant-loop-candidate
invariant-loop-candidate l = record {
  within : l.candidate-index ≤ length l.candidates;
  best : IsBest l.candidates l.candidate-index l.best;
}
