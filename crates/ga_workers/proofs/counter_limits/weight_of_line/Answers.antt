use Rattle.std.proofs.lemmas.Result.{IfOk-weaker}
use Rattle.ga_workers.specs.Steps.CounterLimits.{WeighsLine, WeighsSaid}
use Rattle.ga_workers.proofs.counter_limits.weight_of_line.Goals as goal

pub returns : goal.returns
returns c =
    IfOk-weaker c.weight_of_said.result (WeighsSaid c.args.setup.now.panels c.in_ok-said.said) (WeighsLine c.args.setup.now c.args.line.now)
    (λ answer weighs. (c.in_ok-said.said, c.in_ok-said.ensures.says, weighs)) c.weight_of_said.ensures
