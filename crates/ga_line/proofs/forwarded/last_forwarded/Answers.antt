use Rattle.std.proofs.Common.{List, ℕ, Option, sym, subst}
use Rattle.std.specs.Option.{IfNone}
use Rattle.ga_line.specs.Steps.Forwarding.{IsLastOf}
use Rattle.ga_line.proofs.forwarded.last_forwarded.Goals as goal

pub returns-in_err-host-clause-none : goal.returns-in_err-host-clause-none
returns-in_err-host-clause-none c =
    subst (λ r. IfNone r ((host after : Option (List ℕ)) → ¬ IsLastOf c.args.separators.now c.args.rest.now host after)) (sym c.from_residual.ensures)
    (λ host after is. c.in_err-host.ensures.none is.0 is.1 is.4)
