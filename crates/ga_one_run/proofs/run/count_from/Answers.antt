use Rattle.std.proofs.Common.{refl}
use Rattle.std.proofs.lemmas.Result.{err_from_is_err_and}
use Rattle.ga_one_run.proofs.Counting.{counts-said, stops-said}
use Rattle.ga_one_run.proofs.run.count_from.Goals as goal

pub returns-in_err-total-clause-stops : goal.returns-in_err-total-clause-stops
returns-in_err-total-clause-stops g c =
    let fault = c.in_err-total.field-0.0 in
    let stops = stops-said c.args.context.now.settings.now c.args.setup.now c.args.start c.items-names.result.now c.items-names.ensures c.args.entries.now (g.F.Files.view c.args.files.now) (g.F.Files.view c.count_logs.new.files)
    fault c.in_err-total.ensures.stops in
    let p = err_from_is_err_and c.from_residual.result c.from_residual.ensures.1 in
    rw (p.1, p.2) (record { fault = fault; status_is = refl; stops = stops })

pub returns-clause-ok : goal.returns-clause-ok
returns-clause-ok g c =
    counts-said c.args.context.now.settings.now c.args.setup.now c.args.start c.items-names.result.now c.items-names.ensures c.args.entries.now (g.F.Files.view c.args.files.now) (g.F.Files.view c.count_logs.new.files)
    c.count_logs.new.entries c.in_ok-total.total c.in_ok-total.ensures.ok
