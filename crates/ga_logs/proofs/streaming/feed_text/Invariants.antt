use Rattle.std.proofs.Common.{◌≡◌, ◌-◌, ◌<◌, ◌≤◌, length, take}
use Rattle.ga_batches.specs.Batches.{held}
use Rattle.ga_logs.proofs.StreamSteps.{Waits}
use Rattle.ga_logs.proofs.streaming.feed_text.Given as goal

abbrev pub invariant-loop-at : goal.invariant-loop-at
invariant-loop-at g l = record {
  within : l.at ≤ length l.text;
  small : length l.taken.items ≤ l.counting.start.limit;
  limit : l.batcher.limit ≡ l.counting.start.limit;
  room : length (held l.batcher) < l.batcher.limit;
  waits : Waits l.crew.setup.now (take l.at l.text) l.initial.counting l.counting l.taken.items l.initial.batcher l.batcher;
}

abbrev pub decreases-loop-at : goal.decreases-loop-at
decreases-loop-at g l = length l.text - l.at
