use Rattle.std.proofs.Common.{arith}
use Rattle.std.proofs.lemmas.Grind.{common_steps}
use Rattle.ga_dates.specs.Grammar.{GivesAgain}
use Rattle.ga_dates.proofs.PartLemmas.{again}
use Rattle.ga_dates.proofs.directive.directive_at.Goals as goal

pub returns-then-gives_again-clause-bad : goal.returns-then-gives_again-clause-bad
returns-then-gives_again-clause-bad c =
    let shared : GivesAgain c.args.before.now c.in_ok-added.added.now =
    (again c.args.before.now c.in_ok-added.added.now c.gives_again.result c.gives_again.ensures).0 c.if-gives_again.true in
    grind (arith, common_steps)

pub returns-else-gives_again-clause-new : goal.returns-else-gives_again-clause-new
returns-else-gives_again-clause-new c shared =
    let found = (again c.args.before.now c.in_ok-added.added.now c.gives_again.result c.gives_again.ensures).1 shared in
    let none = c.if-gives_again.false in
    cc
