use Rattle.std.proofs.Common.{sym, subst}
use Rattle.std.proofs.lemmas.Bool.{both_ways}
use Rattle.std.specs.Option.{IfNone}
use Rattle.ga_requests.specs.Requests.{IsNoRequestLine}
use Rattle.ga_requests.proofs.SplitLemmas.{no-first, too-near, no-method, no-protocol, line-at}
use Rattle.ga_requests.proofs.splitting.request_line.Goals as goal
use Rattle.ga_requests.proofs.splitting.request_line.Goals.{else-is_method-via-then-is_method+else-is_protocol, else-is_method-via-else-is_method}

pub returns-in_err-first-clause-other : goal.returns-in_err-first-clause-other
returns-in_err-first-clause-other c = subst (λ r. IfNone r (IsNoRequestLine c.args.text.now)) (sym c.from_residual.ensures) (no-first c.args.text.now c.in_err-first.ensures)

pub returns-then-last-first-clause-other : goal.returns-then-last-first-clause-other
returns-then-last-first-clause-other c = too-near c.args.text.now c.in_ok-first.first c.in_ok-last.last c.in_ok-first.ensures c.in_ok-last.ensures c.if-last-first.true

pub returns-then-is_protocol-clause-found : goal.returns-then-is_protocol-clause-found
returns-then-is_protocol-clause-found c = line-at c.args.text.now c.in_ok-first.first c.in_ok-last.last c.in_ok-first.ensures c.in_ok-last.ensures c.if-last-first.false (c.is_method.ensures.0 c.if-is_method.true) (c.is_protocol.ensures.0 c.if-is_protocol.true)

pub returns-else-is_method-clause-other : goal.returns-else-is_method-clause-other
returns-else-is_method-clause-other c =
    elim c.else-is_method.branch [
      | else-is_method-via-then-is_method+else-is_protocol w ↦ no-protocol c.args.text.now c.in_ok-last.last c.in_ok-last.ensures (λ known. both_ways _ w.if-is_protocol.false (w.is_protocol.ensures.1 known))
      | else-is_method-via-else-is_method w ↦ no-method c.args.text.now c.in_ok-first.first c.in_ok-first.ensures (λ known. both_ways _ w.if-is_method.false (c.is_method.ensures.1 known))
    ]
