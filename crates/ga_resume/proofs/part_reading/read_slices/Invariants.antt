use Rattle.std.proofs.Common.{length, take, drop, ◌-◌, ◌≡◌, ◌≤◌, IfSome}
use Rattle.ga_ports.specs.Trace.{FilesTrace}
use Rattle.ga_resume.specs.ReadPart.{after_reads}
use Rattle.ga_resume.proofs.part_reading.read_slices.Given as goal

abbrev pub invariant-loop-at : goal.invariant-loop-at
invariant-loop-at g l = record {
  within : l.at ≤ l.end;
  begun : l.from ≤ l.at;
  so_far : length l.part.items ≡ l.at - l.from;
  went : FilesTrace (g.F.Files.view l.initial.files) (g.F.Files.view l.files);
  files : g.F.Files.view l.files ≡ after_reads (g.F.Files.view l.files).counts.calls (l.at - l.from) (g.F.Files.view l.initial.files);
  bytes : IfSome (g.F.Files.view l.initial.files).bytes (λ bytes. l.part.items ≡ take (l.at - l.from) (drop l.from bytes));
}

abbrev pub decreases-loop-at : goal.decreases-loop-at
decreases-loop-at g l = l.end - l.at
