use Rattle.std.proofs.Common.{List, ℕ, ◌++◌, min, ap, ◌∙◌, take_all, arith}
use Rattle.std.specs.Str.Parse.{digits_value}
use Rattle.ga_line.specs.declared.digits.TheConstants.{TOO_BIG}
use Rattle.ga_line.proofs.SizeLemmas.{digit-at, digit-range, value-more, no-digits}
use Rattle.ga_line.proofs.digits.with_digits.Goals as goal

pub loop-digit-init : goal.loop-digit-init
loop-digit-init c = record { small = c.requires.number; value = λ front is. no-digits front c.args.number TOO_BIG is }

pub with_digit-number-requires-clause-number : goal.with_digit-number-requires-clause-number
with_digit-number-requires-clause-number c = c.loop-digit.invariant.small

pub with_digit-number-requires-clause-digit : goal.with_digit-number-requires-clause-digit
with_digit-number-requires-clause-digit c = digit-range _ (digit-at c.args.digits.now c.loop-digit.digit-index c.loop-digit-test.true c.requires.digits)

pub loop-digit-preserved : goal.loop-digit-preserved
loop-digit-preserved c = record {
  small = omega (arith, c.with_digit-number.ensures);
  value = λ front is.
      c.with_digit-number.ensures
      ∙ value-more front c.args.digits.now c.loop-digit.digit-index c.loop-digit.number TOO_BIG c.loop-digit-test.true (c.loop-digit.invariant.value front is)
      (digit-at c.args.digits.now c.loop-digit.digit-index c.loop-digit-test.true c.requires.digits);
}

pub returns : goal.returns
returns c = record {
  small = c.loop-digit.invariant.small;
  value = λ front is.
      c.loop-digit.invariant.value front is ∙ ap (λ (xs : List ℕ). min (digits_value 10 (front ++ xs)) TOO_BIG) (take_all c.loop-digit.digit-index c.args.digits.now (omega arith));
}
