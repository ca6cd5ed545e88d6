use Rattle.std.proofs.Common.{◌≡◌, ◌-◌, ◌≤◌, ◌<◌, length}
use Rattle.ga_ports.specs.Trace.{FilesTrace}
use Rattle.ga_logs.specs.Steps.Streaming.{FillsPart}
use Rattle.ga_logs.proofs.streaming.fill.Given as goal

abbrev pub invariant-loop-at : goal.invariant-loop-at
invariant-loop-at g l =
    let view = g.F.Files.view in
    record {
      within : l.at ≤ l.part.to;
      begun : l.part.from ≤ l.at;
      begins : l.at ≡ l.part.from → l.batcher ≡ l.initial.batcher;
      some : 0 < length l.buffer;
      went : FilesTrace (view l.initial.files) (view l.files);
      fills : FillsPart l.part.from l.at (view l.initial.files) (view l.files) l.initial.batcher l.batcher;
    }

abbrev pub decreases-loop-at : goal.decreases-loop-at
decreases-loop-at g l = l.part.to - l.at
