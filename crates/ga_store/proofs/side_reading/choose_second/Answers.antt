use Rattle.std.proofs.Common.{[], ap, refl}
use Rattle.ga_store.specs.Database.Reading.{stored}
use Rattle.ga_store.proofs.RecoverDisk.{looks-none}
use Rattle.ga_store.proofs.Streaming.{took-none}
use Rattle.ga_store.proofs.side_reading.choose_second.Goals as goal

pub returns-in-Damaged : goal.returns-in-Damaged
returns-in-Damaged g c = rw c.in-Damaged.is (record { looks = looks-none _ _; took = ([], took-none _ _ _, refl); outside = tt })

pub returns-in-Snapshot : goal.returns-in-Snapshot
returns-in-Snapshot g c = rw c.in-Snapshot.is c.read_on.ensures

pub returns-in-Unused : goal.returns-in-Unused
returns-in-Unused g c = rw c.in-Unused.is (record { looks = looks-none _ _; took = ([], took-none _ _ _, ap stored c.empty.ensures); outside = tt })

pub returns-in-Older : goal.returns-in-Older
returns-in-Older g c = rw c.in-Older.is (record { looks = looks-none _ _; took = ([], took-none _ _ _, ap stored c.empty-in-Older.ensures); outside = tt })
