use Rattle.std.proofs.Common.{ℕ, ◌≤◌, ◌<◌, length, take, get_or}
use Rattle.sha2.specs.Hashers.{Holds256}
use Rattle.ga_resume.specs.declared.choosing.Candidate.{Candidate}
use Rattle.ga_resume.specs.Steps.Choosing.{AreFitting}
use Rattle.ga_resume.proofs.choosing.fitting_candidates.Given as goal

abbrev pub invariant-loop-candidate : goal.invariant-loop-candidate
invariant-loop-candidate l = record {
  within : l.candidate-index ≤ length l.candidates;
  far : l.hashed ≤ length l.front;
  holds : Holds256 l.hasher (take l.hashed l.front);
  next : (k : ℕ) (d : Candidate) → l.candidate-index ≤ k → k < length l.candidates → l.hashed ≤ (get_or l.candidates k d).entry.lead;
  fits : AreFitting l.front l.candidates l.candidate-index l.fits.items;
}
