use Rattle.ga_real.proofs.AnyImages.{any-cut}
use Rattle.ga_real.proofs.real_disk.RealDiskDisk.cut.Goals as goal

pub returns-clause-leaves : goal.returns-clause-leaves
returns-clause-leaves g c = any-cut c.args.side c.args.len c.args.self.now.steady c.settle.result
