use Rattle.std.proofs.Common.{◌≡◌, ◌∙◌, List, ℕ, true, ap, sym, subst, Err}
use Rattle.std.proofs.lemmas.Result.{err_from_is_err_and}
use Rattle.ga_line.specs.Lines.{lines}
use Rattle.ga_workers.specs.declared.fault.PoolFault.TheVariants.{CounterFull}
use Rattle.ga_workers.proofs.WeighedLines.{PassedUpTo, passed-none, step-fills, step-more, step-over}
use Rattle.ga_workers.proofs.counter_limits.weigh_lines.Goals as goal

pub loop-line-init : goal.loop-line-init
loop-line-init c =
    let whole = c.into_iter-line-iterator.ensures.into_iter_gives ∙ c.of-line-items.ensures in
    record {
      within = c.requires;
      passed = λ before is. subst (λ (rest : List (List ℕ)). PassedUpTo c.args.setup.now before (lines c.args.batch.now true) rest c.args.start) (sym whole)
          (passed-none c.args.setup.now before (lines c.args.batch.now true) c.args.start is);
    }

pub loop-line-preserved-in-Some-2 : goal.loop-line-preserved-in-Some-2
loop-line-preserved-in-Some-2 c = record {
  within = c.in_ok-weight.ensures.fits;
  passed = λ before is. step-more c.args.setup.now before (lines c.args.batch.now true) _ _ c.in-Some.line.now c.loop-line.weight _ (c.loop-line.invariant.passed before is)
      c.in-Some.ensures.steps c.in_ok-more.ensures c.in-Some-2.more _ c.in-Some-2.is c.in_ok-weight.ensures.sum c.in_ok-weight.ensures.none;
}

pub loop-line-preserved : goal.loop-line-preserved
loop-line-preserved c = record {
  within = c.loop-line.invariant.within;
  passed = λ before is. step-over c.args.setup.now before (lines c.args.batch.now true) _ _ c.in-Some.line.now c.loop-line.weight _ (c.loop-line.invariant.passed before is)
      c.in-Some.ensures.steps c.in_ok-more.ensures c.in_default.is;
}

pub returns-in_err-weight : goal.returns-in_err-weight
returns-in_err-weight c =
    let p = err_from_is_err_and c.from_residual-in_err-weight.result c.from_residual-in_err-weight.ensures.1 in
    λ before which total is e.
    let error = rw (p.1, p.2) at e in
    let same : c.in_err-weight.field-0.0 ≡ CounterFull which total = cc error in
    step-fills c.args.setup.now before (lines c.args.batch.now true) _ _ c.in-Some.line.now c.loop-line.weight _ (c.loop-line.invariant.passed before is)
    c.in-Some.ensures.steps c.in_ok-more.ensures c.in-Some-2.more which total c.in-Some-2.is (c.in_err-weight.ensures.full which total (ap (λ fault. Err fault) same))
