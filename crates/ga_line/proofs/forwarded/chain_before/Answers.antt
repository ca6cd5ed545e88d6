use Rattle.std.proofs.Common.{true, List, ℕ, Option, sym, subst}
use Rattle.std.specs.Option.{IfNone}
use Rattle.ga_line.specs.Steps.Forwarding.{GoesOn}
use Rattle.ga_line.proofs.ForwardLemmas.{goes-nowhere, goes-elsewhere}
use Rattle.ga_line.proofs.forwarded.chain_before.Goals as goal

pub returns-in_err-host-clause-none : goal.returns-in_err-host-clause-none
returns-in_err-host-clause-none c =
    subst (λ r. IfNone r ((host after : Option (List ℕ)) → ¬ GoesOn true c.args.separators.now c.args.stop c.args.rest.now host after)) (sym c.from_residual.ensures)
    (goes-nowhere c.args.separators.now c.args.stop c.args.rest.now c.in_err-host.ensures.none)

pub returns-in-Some-2-clause-none : goal.returns-in-Some-2-clause-none
returns-in-Some-2-clause-none c =
    goes-elsewhere c.args.separators.now c.args.stop c.args.rest.now c.in_ok-host.host.now c.in_ok-host.after.now c.in_ok-host.ensures.found c.in-Some.byte.now c.in-Some.ensures.value c.if-byte-stop.false
