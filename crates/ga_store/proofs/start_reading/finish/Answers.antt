use Rattle.std.proofs.Common.{[], refl}
use Rattle.ga_store.proofs.RecoverDisk.{looks-none}
use Rattle.ga_store.proofs.Streaming.{streams-then, took-none}
use Rattle.ga_store.proofs.start_reading.finish.Goals as goal

pub returns-in-Unused : goal.returns-in-Unused
returns-in-Unused g c =
    rw c.in-Unused.is (record { looks = looks-none _ _; took = ([], took-none _ _ _, (tt, λ before rest says at is. (says rest is, refl))); outside = tt })

pub returns-in-Damaged : goal.returns-in-Damaged
returns-in-Damaged g c =
    rw c.in-Damaged.is (record { looks = looks-none _ _; took = ([], took-none _ _ _, (tt, λ before rest says at is. says rest is)); outside = tt })

pub returns-in-Body : goal.returns-in-Body
returns-in-Body g c =
    rw c.in-Body.is (streams-then c.finish_body.result (g.D.Disk.counts_now c.args.disk.now) (took-none _ _ c.args.stream.now) c.finish_body.ensures
    (λ start taken e goes. (goes.0, λ before rest says at is. goes.1 before rest says.0 at is)))
