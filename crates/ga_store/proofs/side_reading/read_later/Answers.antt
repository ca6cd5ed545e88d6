use Rattle.std.proofs.Common.{◌<◌, [], sym, arith}
use Rattle.ga_store.specs.Database.DbOf.{chosen0, chosen1, equal}
use Rattle.ga_store.specs.Database.YieldsTo.{older}
use Rattle.ga_store.proofs.BothReads.{both-none, both-of0, both-of1}
use Rattle.ga_store.proofs.RecoverDisk.{looks-none}
use Rattle.ga_store.proofs.side_reading.read_later.Goals as goal

pub returns-then-first-second : goal.returns-then-first-second
returns-then-first-second g c = both-of1 c.args.stream0.now c.read_on.result c.read_on.ensures
    (λ said taken e on own0 own1 before0 rest0 before1 rest1 has0 has1 is0 is1.
    chosen1 has1.0 (older has0.0 c.if-first-second.true) (on before1 rest1 (sym has1.1) is1))

pub returns-then-first-second-2 : goal.returns-then-first-second-2
returns-then-first-second-2 g c = record {
  looks = looks-none _ _;
  took = record {
    taken0 = [];
    taken1 = [];
    took = both-none _ _ _;
    goes = λ own0 own1 before0 rest0 before1 rest1 has0 has1 is0 is1. equal has0.0 has1.0 c.if-first-second-2.true;
  };
  outside = tt;
}

pub returns : goal.returns
returns g c =
    let less : c.args.second.snapshot.generation < c.args.first.snapshot.generation = omega arith in
    both-of0 c.args.stream1.now c.read_on-2.result c.read_on-2.ensures
    (λ said taken e on own0 own1 before0 rest0 before1 rest1 has0 has1 is0 is1.
    chosen0 has0.0 (older has1.0 less) (on before0 rest0 (sym has0.1) is0))
