use Rattle.std.proofs.Common.{sym, ◌∙◌, subst}
use Rattle.std.proofs.lemmas.Result.{err_from_is_err_and}
use Rattle.ga_tallies.specs.Tallies.{Overfills, TakesIn}
use Rattle.ga_tallies.proofs.Taking.{overfills-here, overfills-later, takes-more, takes-none}
use Rattle.ga_tallies.proofs.tally.Tally.count.Goals as goal

pub loop-line-init : goal.loop-line-init
loop-line-init c =
    let whole = c.into_iter-line-iterator.ensures.into_iter_gives ∙ c.of-line-items.ensures in
    record {
      counted = λ new takes. subst (λ all. TakesIn c.args.setup.now all c.args.self.now new) whole takes;
      known = c.requires.known;
      full = λ full. subst (λ all. Overfills c.args.setup.now all c.args.self.now) whole full;
    }

pub loop-line-preserved : goal.loop-line-preserved
loop-line-preserved c =
    let is = sym c.in-Some.ensures.steps in
    let one = c.in_ok-count_line.ensures.counted in
    record {
      counted = λ new takes.
          c.loop-line.invariant.counted new (subst (λ all. TakesIn c.args.setup.now all c.loop-line.self new) is (takes-more c.args.setup.now c.in-Some.line.now _ c.loop-line.self c.count_line.new.self new one takes));
      known = c.in_ok-count_line.ensures.known;
      full = λ full.
          c.loop-line.invariant.full (subst (λ all. Overfills c.args.setup.now all c.loop-line.self) is (overfills-later c.args.setup.now c.in-Some.line.now _ c.loop-line.self c.count_line.new.self one full));
    }

pub returns-in_err-count_line-clause-full : goal.returns-in_err-count_line-clause-full
returns-in_err-count_line-clause-full c = λ is-full.
    let p = err_from_is_err_and c.from_residual.result c.from_residual.ensures.1 in
    let error = rw (p.1, p.2) at is-full in
    let here = overfills-here c.args.setup.now c.in-Some.line.now _ c.loop-line.self (c.in_err-count_line.ensures.full error) in
    c.loop-line.invariant.full (subst (λ all. Overfills c.args.setup.now all c.loop-line.self) (sym c.in-Some.ensures.steps) here)

pub returns : goal.returns
returns c = record {
  known = c.loop-line.invariant.known;
  counted = c.loop-line.invariant.counted c.loop-line.self
      (subst (λ all. TakesIn c.args.setup.now all c.loop-line.self c.loop-line.self) (sym c.in-None.ensures.steps.0) (takes-none c.args.setup.now c.loop-line.self));
  full = λ is-full. absurd (cc is-full);
}
