use Rattle.std.proofs.Common.{arith, ◌≡◌, ◌/◌, ◌%◌, Some, ap, get_or}
use Rattle.ga_dates.proofs.number.two_digits.Goals as goal

pub returns-in_err-digit-in-len2-clause-only : goal.returns-in_err-digit-in-len2-clause-only
returns-in_err-digit-in-len2-clause-only c n h =
    let tens : c.digit.result ≡ Some (n / 10) = c.digit.ensures.only (n / 10) (omega arith) (ap (λ s. get_or s 0 0) h.1) in
    let none = c.in_err-digit-in-len2.was in
    cc

pub returns-in_err-digit-in-len2-2-clause-only : goal.returns-in_err-digit-in-len2-2-clause-only
returns-in_err-digit-in-len2-2-clause-only c n h =
    let units : c.digit-in-len2.result ≡ Some (n % 10) = c.digit-in-len2.ensures.only (n % 10) (omega arith) (ap (λ s. get_or s 1 0) h.1) in
    let none = c.in_err-digit-in-len2-2.was in
    cc
