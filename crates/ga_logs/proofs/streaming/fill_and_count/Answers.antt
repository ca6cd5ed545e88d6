use Rattle.std.proofs.Common.{arith, ℕ, ◌-◌, IfOk, Result, subst}
use Rattle.std.proofs.lemmas.Result.{err_from_is_err_and}
use Rattle.ga_resume.specs.declared.fault.PlaceFault.{PlaceFault}
use Rattle.ga_logs.proofs.StreamSteps.{wants-after}
use Rattle.ga_logs.specs.Steps.Streaming.{FillsTo}
use Rattle.ga_logs.proofs.streaming.fill_and_count.Goals as goal

pub returns-in_err-counted-clause-failed : goal.returns-in_err-counted-clause-failed
returns-in_err-counted-clause-failed g c =
    let view = g.F.Files.view in
    let v = view c.args.files.now in
    let w = view c.side_by_side-counted.new.files in
    let b = c.args.batcher.now in
    let b' = c.side_by_side-counted.new.batcher in
    let filled = subst (λ (r : Result ℕ PlaceFault). IfOk r (λ end. FillsTo c.args.part.from c.args.part.to end v w b b')) c.in_ok-end.was c.side_by_side-counted.ensures.fills.ok in
    let p = err_from_is_err_and c.from_residual-in_err-counted.result c.from_residual-in_err-counted.ensures.1 in
    rw (p.1, p.2) (wants-after (c.in_ok-end.end - c.args.part.from) (c.args.part.to - c.args.part.from) v w (omega (arith, filled.within, filled.some)) filled.fills.read.files)
