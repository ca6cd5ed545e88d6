use Rattle.std.proofs.Common.{List, ℕ, sym, subst}
use Rattle.std.specs.Option.{IfNone}
use Rattle.ga_line.specs.Steps.Forwarding.{HasChain}
use Rattle.ga_line.proofs.ChainLemmas.{longest-chain, no-chain}
use Rattle.ga_line.proofs.forwarded.chain_in.Goals as goal

pub returns-in_err-host-clause-none : goal.returns-in_err-host-clause-none
returns-in_err-host-clause-none c =
    let separators = c.args.separators.now in
    let rest = c.args.rest.now in
    subst (λ r. IfNone r ((host after : List ℕ) → ¬ HasChain separators rest host after)) (sym c.from_residual.ensures) (no-chain separators rest c.in_err-host.ensures.none)

pub returns-clause-found : goal.returns-clause-found
returns-clause-found c =
    longest-chain c.args.separators.now c.args.rest.now c.in_ok-host.host.now c.in_ok-host.after.now c.after_chain.result.now c.in_ok-host.ensures.found c.after_chain.ensures
