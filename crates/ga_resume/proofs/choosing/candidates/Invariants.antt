use Rattle.std.proofs.Common.{◌≤◌, length}
use Rattle.ga_resume.specs.Steps.Choosing.{AreCandidates}
use Rattle.ga_resume.proofs.choosing.candidates.Given as goal

abbrev pub invariant-loop-place : goal.invariant-loop-place
invariant-loop-place l = record {
  within : l.place ≤ length l.entries;
  so_far : AreCandidates l.entries l.place l.end l.candidates.items;
}
