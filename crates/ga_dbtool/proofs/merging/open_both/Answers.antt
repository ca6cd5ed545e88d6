use Rattle.std.proofs.lemmas.Result.{err_from_is_err_and}
use Rattle.ga_disk.specs.Trace.DiskTrace.{no_disk_call}
use Rattle.ga_store.specs.Store.{db_value}
use Rattle.ga_dbtool.specs.Outside.{disk_of}
use Rattle.ga_dbtool.specs.Steps.Parts.StopsOpening.{differ, first_missed, second_missed, share}
use Rattle.ga_dbtool.proofs.Tasks.{still}
use Rattle.ga_dbtool.proofs.merging.open_both.Goals as goal

pub returns-in_err-left-clause-stops : goal.returns-in_err-left-clause-stops
returns-in_err-left-clause-stops g c =
    let p = err_from_is_err_and c.from_residual.result c.from_residual.ensures.1 in
    rw (p.1, p.2) (first_missed c.in_err-left.ensures.misses (still (disk_of (g.D.Disk.view c.args.second.now) (g.D.Disk.images c.args.second.now))))

pub returns-in_err-left-clause-second_calls : goal.returns-in_err-left-clause-second_calls
returns-in_err-left-clause-second_calls g c = no_disk_call

pub returns-in_err-right-clause-stops : goal.returns-in_err-right-clause-stops
returns-in_err-right-clause-stops g c =
    let p = err_from_is_err_and c.from_residual-in_err-right.result c.from_residual-in_err-right.ensures.1 in
    rw (p.1, p.2) (second_missed (db_value c.in_ok-left.left) c.in_ok-left.ensures.ok c.in_err-right.ensures.misses)

pub returns-in_err-agree-clause-stops : goal.returns-in_err-agree-clause-stops
returns-in_err-agree-clause-stops g c =
    let p = err_from_is_err_and c.from_residual-in_err-agree.result c.from_residual-in_err-agree.ensures.1 in
    let h = c.in_err-agree.ensures.differ in
    rw (p.1, p.2) (differ h.0 h.1 h.2 (db_value c.in_ok-left.left) (db_value c.in_ok-right.right) (record { first = c.in_ok-left.ensures.ok; second = c.in_ok-right.ensures.ok }) h.3)

pub returns-in_err-share_none-clause-stops : goal.returns-in_err-share_none-clause-stops
returns-in_err-share_none-clause-stops g c =
    let p = err_from_is_err_and c.from_residual-in_err-share_none.result c.from_residual-in_err-share_none.ensures.1 in
    let h = c.in_err-share_none.ensures.share in
    rw (p.1, p.2) (share h.0 h.1 h.2 (db_value c.in_ok-left.left) (db_value c.in_ok-right.right) (record { first = c.in_ok-left.ensures.ok; second = c.in_ok-right.ensures.ok }) c.in_ok-agree.ensures.ok h.3)

pub returns-clause-ok : goal.returns-clause-ok
returns-clause-ok g c = record {
  opened = record { first = c.in_ok-left.ensures.ok; second = c.in_ok-right.ensures.ok };
  can = record { agree = c.in_ok-agree.ensures.ok; share_none = c.in_ok-share_none.ensures.ok };
}
