use Rattle.std.proofs.Common.{[], sym}
use Rattle.ga_store.specs.Database.DbOf.{chosen0, lacks1}
use Rattle.ga_store.specs.Database.IsWhole.{used}
use Rattle.ga_store.specs.Database.YieldsTo.{closed, older}
use Rattle.ga_store.proofs.BothReads.{both-none, both-of0, later-is}
use Rattle.ga_store.proofs.RecoverDisk.{looks-none}
use Rattle.ga_store.proofs.side_reading.choose_first.Goals as goal

pub returns-in-Damaged : goal.returns-in-Damaged
returns-in-Damaged g c = rw c.in-Damaged.is (record {
  looks = looks-none _ _;
  took = record {
    taken0 = [];
    taken1 = [];
    took = both-none _ _ _;
    goes = λ own0 own1 before0 rest0 before1 rest1 has0 has1 is0 is1. lacks1 (used has0.0) has1;
  };
  outside = tt;
})

pub returns-in-Snapshot : goal.returns-in-Snapshot
returns-in-Snapshot g c = rw c.in-Snapshot.is c.read_later.ensures

pub returns-in-Unused : goal.returns-in-Unused
returns-in-Unused g c = rw c.in-Unused.is (both-of0 c.args.stream1.now c.read_on.result c.read_on.ensures
    (λ said taken e on own0 own1 before0 rest0 before1 rest1 has0 has1 is0 is1. chosen0 has0.0 (closed has1.0) (on before0 rest0 (sym has0.1) is0)))

pub returns-in-Older : goal.returns-in-Older
returns-in-Older g c = rw c.in-Older.is (both-of0 c.args.stream1.now c.read_on-in-Older.result c.read_on-in-Older.ensures
    (λ said taken e on own0 own1 before0 rest0 before1 rest1 has0 has1 is0 is1.
    chosen0 has0.0 (older has1.has (later-is own0 has1.snapshot.generation c.args.first.snapshot.generation has1.older has0.2)) (on before0 rest0 (sym has0.1) is0)))
