use Rattle.std.proofs.Common.{◌≡◌, ◌++◌, ◌+◌, ◌∙◌, ap, List, ℕ, suc, arith, rules}
use Rattle.ga_generate.specs.Lines.{generated, generated_line}
use Rattle.ga_generate.proofs.lines.generate.Goals as goal

pub loop-i-init : goal.loop-i-init
unfolding generated
loop-i-init c = search rules

pub loop-i-preserved : goal.loop-i-preserved
unfolding generated
loop-i-preserved c =
    let step : suc c.loop-i.i ≡ c.loop-i.i + 1 = omega (arith) in
    c.in_ok-push_line.ensures ∙ ap (λ (lines : List ℕ). lines ++ generated_line c.loop-i.i) c.loop-i.invariant ∙ ap generated step
