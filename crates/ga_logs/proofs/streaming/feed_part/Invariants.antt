use Rattle.std.proofs.Common.{◌≡◌, ◌-◌, ◌<◌, ◌≤◌, length}
use Rattle.ga_batches.specs.Batches.{held}
use Rattle.ga_ports.specs.Trace.{FilesTrace}
use Rattle.ga_logs.proofs.StreamSteps.{FeedsBehind}
use Rattle.ga_logs.proofs.streaming.feed_part.Given as goal

abbrev pub invariant-loop-at : goal.invariant-loop-at
invariant-loop-at g l =
    let view = g.F.Files.view in
    record {
      within : l.at ≤ l.part.to;
      begun : l.part.from ≤ l.at;
      went : FilesTrace (view l.initial.files) (view l.files);
      some : 0 < length l.buffer;
      small : length l.taken.items ≤ l.counting.start.limit;
      limit : l.batcher.limit ≡ l.counting.start.limit;
      room : length (held l.batcher) < l.batcher.limit;
      feeds : FeedsBehind l.crew.setup.now l.part.from l.at (view l.initial.files) (view l.files) l.initial.counting l.counting l.taken.items l.initial.batcher l.batcher;
    }

abbrev pub decreases-loop-at : goal.decreases-loop-at
decreases-loop-at g l = l.part.to - l.at
