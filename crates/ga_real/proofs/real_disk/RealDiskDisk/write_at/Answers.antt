use Rattle.std.proofs.Common.{length}
use Rattle.ga_real.proofs.AnyImages.{any-write}
use Rattle.ga_real.proofs.real_disk.RealDiskDisk.write_at.Goals as goal

pub returns-clause-leaves : goal.returns-clause-leaves
returns-clause-leaves g c = any-write c.args.side c.args.at (length c.args.piece.now) c.args.self.now.steady c.settle.result
