use Rattle.std.proofs.Common.{[]}
use Rattle.ga_store.specs.Database.DbOf.{lacks0}
use Rattle.ga_store.proofs.BothReads.{both-none, both-of1, second-older, second-unused}
use Rattle.ga_store.proofs.RecoverDisk.{looks-none}
use Rattle.ga_store.proofs.side_reading.choose.Goals as goal

pub returns-in-Damaged : goal.returns-in-Damaged
returns-in-Damaged g c = rw c.in-Damaged.is (record {
  looks = looks-none _ _;
  took = record {
    taken0 = [];
    taken1 = [];
    took = both-none _ _ _;
    goes = λ own0 own1 before0 rest0 before1 rest1 has0 has1 is0 is1. lacks0 has0;
  };
  outside = tt;
})

pub returns-in-Snapshot : goal.returns-in-Snapshot
returns-in-Snapshot g c = rw c.in-Snapshot.is c.choose_first.ensures

pub returns-in-Unused : goal.returns-in-Unused
returns-in-Unused g c = rw c.in-Unused.is (both-of1 c.args.stream0.now c.choose_second.result c.choose_second.ensures
    (λ said taken e says. second-unused (record { s0 = c.args.stream0.now; s1 = c.choose_second.new.stream1 }) c.args.start1 said taken says))

pub returns-in-Older : goal.returns-in-Older
returns-in-Older g c = rw c.in-Older.is (both-of1 c.args.stream0.now c.choose_second-in-Older.result c.choose_second-in-Older.ensures
    (λ said taken e says. second-older (record { s0 = c.args.stream0.now; s1 = c.choose_second-in-Older.new.stream1 }) c.args.start1 said taken says))
