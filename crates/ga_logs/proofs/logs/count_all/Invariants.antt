use Rattle.std.proofs.Common.{◌≡◌, ◌≤◌, length, take}
use Rattle.ga_ports.specs.Trace.{FilesTrace}
use Rattle.ga_logs.specs.Counting.{begun_with}
use Rattle.ga_logs.specs.Steps.Logs.{HasCountedLogs}
use Rattle.ga_logs.proofs.logs.count_all.Given as goal

abbrev pub invariant-loop-place : goal.invariant-loop-place
invariant-loop-place g l =
    let view = g.F.Files.view in
    record {
      within : l.place ≤ length l.names;
      start : l.counting.start ≡ begun_with l.start.totals l.crew.workers;
      counted : HasCountedLogs l.crew.setup.now l.start l.fn.generated (take l.place l.names) l.initial.entries l.entries (view l.initial.files) (view l.files) l.counting;
      went : FilesTrace (view l.initial.files) (view l.files);
    }
