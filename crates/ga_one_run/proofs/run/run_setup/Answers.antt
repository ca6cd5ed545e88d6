use Rattle.std.proofs.Common.{◌∙◌, sym}
use Rattle.ga_one_run.proofs.Counting.{ends-alone, ends-counted, ends-uncounted, ready, using}
use Rattle.ga_one_run.proofs.run.run_setup.Goals as goal

pub finish-requires : goal.finish-requires
finish-requires g c = (c.type_bounds.sync-R, λ persists. let h = c.in-Ok.ensures.ok in (h.stored, ready h (using c.args.context.now.settings.now persists)))

pub returns-then-not-uses_database : goal.returns-then-not-uses_database
returns-then-not-uses_database g c = λ line start is. ends-alone is (g.D.Disk.only_now c.args.disk.now) (sym c.uses_database.ensures ∙ c.if-not-uses_database.true) c.run_alone.ensures

pub returns-in-Ok : goal.returns-in-Ok
returns-in-Ok g c = λ line start is.
    let h = c.in-Ok.ensures.ok in
    ends-counted is c.in-Ok.counted (g.F.Files.view c.count.new.files) (g.D.Disk.view c.args.disk.now) (g.D.Disk.view c.count.new.disk) (g.D.Disk.view c.finish.new.disk) (g.D.Disk.images c.args.disk.now)
    (g.D.Disk.images c.count.new.disk) (g.D.Disk.images c.finish.new.disk) (g.D.Disk.only_now c.args.disk.now) (g.O.Outs.view c.args.outs.now) (g.O.Outs.view c.finish.new.outs) c.finish.result h
    c.count.ensures.files_trace c.count.ensures.disk_trace (c.finish.ensures h.stored (λ persists. ready h (using c.args.context.now.settings.now persists)))

pub returns-in-Err : goal.returns-in-Err
returns-in-Err g c = λ line start is. ends-uncounted is c.in-Err.ensures.stops c.in-Err.ensures.sure c.count.ensures.files_trace c.count.ensures.disk_trace
