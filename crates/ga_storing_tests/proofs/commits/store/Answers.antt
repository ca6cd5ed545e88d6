use Rattle.ga_storing_tests.proofs.Merges.{agrees}
use Rattle.ga_storing_tests.proofs.commits.store.Goals as goal

pub returns-in_err-db : goal.returns-in_err-db
returns-in_err-db g c = (c.a_disk_stays.ensures _ _ c.in_err-db.ensures.looks.calls).stays_open c.requires

pub returns-in_err-merged : goal.returns-in_err-merged
returns-in_err-merged g c = (c.a_disk_stays.ensures _ _ c.in_ok-db.ensures.looks.calls).stays_open c.requires

pub returns-in_err-work : goal.returns-in_err-work
returns-in_err-work g c = (c.a_disk_stays.ensures _ _ c.in_ok-db.ensures.looks.calls).stays_open c.requires

pub prepare-requires-clause-agrees : goal.prepare-requires-clause-agrees
prepare-requires-clause-agrees g c = agrees c.args.mode c.kept_by-keep.result _ c.kept_by-keep.ensures

pub commit-requires-clause-open : goal.commit-requires-clause-open
commit-requires-clause-open g c = (c.a_disk_stays.ensures _ _ c.in_ok-db.ensures.looks.calls).stays_open c.requires

pub commit-requires-clause-ready : goal.commit-requires-clause-ready
commit-requires-clause-ready g c = record { old = _; new = _; holds = c.in_ok-db.ensures.database; makes = c.in_ok-work.ensures.makes }

pub returns : goal.returns
returns g c =
    let first = (c.a_disk_stays.ensures _ _ c.in_ok-db.ensures.looks.calls).stays_open c.requires in
    (c.a_disk_stays.ensures _ _ c.commit.ensures.calls).stays_open first
