use Rattle.std.proofs.Common.{sym, subst, ap, ◌∙◌, Some}
use Rattle.std.specs.Option.{IfNone}
use Rattle.ga_line.specs.Records.{IsRefused, HasStatus, HasMicros, size_value, too_slow}
use Rattle.ga_line.proofs.AcceptLemmas.{is-there, is-address, has-numbers, says-moment}
use Rattle.ga_line.proofs.numbers.numbers_of.Goals as goal

pub returns-in_err-micros-clause-refused : goal.returns-in_err-micros-clause-refused
returns-in_err-micros-clause-refused c = λ parts are.
    let slow = c.in_err-micros.ensures.large in
    subst (λ r. IfNone r (IsRefused c.args.setup.now parts)) (sym c.from_residual-in_err-micros.ensures)
    (too_slow slow.0 (subst (λ part. HasMicros part (Some slow.0)) (c.taken.ensures parts are) slow.1) slow.2)

pub returns-clause-found : goal.returns-clause-found
returns-clause-found c = λ parts are.
    let setup = c.args.setup.now in
    has-numbers setup parts _ (is-there c.is_missing.ensures c.if-is_missing.false (c.text.ensures parts are)) (is-there c.is_missing-else-is_missing.ensures c.if-is_missing-2.false (c.day.ensures parts are))
    (is-there c.is_missing-else-is_missing-2.ensures c.if-is_missing-3.false (c.request.ensures parts are))
    (is-address setup.no_ip_validation c.is_no_address.ensures c.if-is_no_address.false (c.text-2.ensures parts are))
    (says-moment setup parts c.in_ok-date.date c.in_ok-date.minute (c.text-3.ensures parts are) (c.text-4.ensures parts are) (c.text-5.ensures parts are) c.in_ok-date.ensures.found)
    (subst (λ text. HasStatus setup.strict_status text c.in_ok-status.status) (c.text-6.ensures parts are) c.in_ok-status.ensures.found)
    (c.in_ok-bytes.ensures.found.0 ∙ ap size_value (c.text-7.ensures parts are)) c.in_ok-bytes.ensures.found.1
    (subst (λ part. HasMicros part c.in_ok-micros.micros) (c.taken.ensures parts are) c.in_ok-micros.ensures.found.0) c.in_ok-micros.ensures.found.1
