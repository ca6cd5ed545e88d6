use Rattle.std.proofs.Common.{◌≡◌, true}
use Rattle.ga_disk.specs.MemDisk.{disk_view}
use Rattle.ga_storing_tests.proofs.commits.disk_after.Given as goal

-- the disk stays open
abbrev pub invariant-loop-run : goal.invariant-loop-run
invariant-loop-run l = (disk_view l.disk).is_open ≡ true
