use Rattle.std.proofs.Common.{◌-◌, length, sym, arith}
use Rattle.ga_line.proofs.SpaceLemmas.{space-ends, space-whole, space-more}
use Rattle.ga_line.proofs.fitting.after_space.Goals as goal

pub loop-at-init : goal.loop-at-init
loop-at-init c = λ k lt. absurd (omega (arith, lt))

pub returns-then-not-is_space : goal.returns-then-not-is_space
returns-then-not-is_space c =
    space-ends c.args.rest.now c.loop-at.at (length c.args.rest.now - c.loop-at.at) c.loop-at-test.true (omega arith) c.loop-at.invariant (sym c.if-not-is_space.ensures)

pub loop-at-preserved : goal.loop-at-preserved
loop-at-preserved c = space-more c.args.rest.now c.loop-at.at c.loop-at.invariant (sym c.if-not-is_space.ensures)

pub returns : goal.returns
returns c = space-whole c.args.rest.now c.loop-at.at (omega arith) c.loop-at.invariant
