use Rattle.ga_store.proofs.CommitSteps.{closes-set}
use Rattle.ga_store.proofs.committing.close_gate.Goals as goal

pub returns : goal.returns
returns g c = closes-set (g.D.Disk.only_now c.args.disk.now) c.in_ok-must_close.ensures c.set_gate.result c.if-not-branch.false c.set_gate.ensures
