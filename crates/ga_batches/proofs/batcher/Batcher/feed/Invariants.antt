use Rattle.std.proofs.Common.{◌≡◌, ℕ, ◌<◌, ◌≤◌, ◌-◌, ◌++◌, length, take}
use Rattle.ga_batches.specs.Lines.{cut_lines}
use Rattle.ga_batches.specs.Batches.{Feeds, IsBatcher, held}
use Rattle.ga_batches.proofs.batcher.Batcher.feed.Given as goal

abbrev pub invariant-loop-at : goal.invariant-loop-at
invariant-loop-at l = record {
  within : l.at ≤ length l.piece;
  batcher : IsBatcher l.self;
  feeds : Feeds (take l.at l.piece) l.initial.self l.self;
  before : (n : ℕ) → n < l.at → length (cut_lines (held l.initial.self ++ take n l.piece)) < l.initial.self.limit;
  begins : l.at ≡ 0 → l.self ≡ l.initial.self;
}

abbrev pub decreases-loop-at : goal.decreases-loop-at
decreases-loop-at l = length l.piece - l.at
