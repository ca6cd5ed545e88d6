use Rattle.std.proofs.Common.{◌≡◌, ◌≤◌, ℕ, List, ◌++◌, min, take}
use Rattle.std.specs.Str.Parse.{digits_value}
use Rattle.ga_line.specs.declared.digits.TheConstants.{TOO_BIG}
use Rattle.ga_line.proofs.digits.with_digits.Given as goal

abbrev pub invariant-loop-digit : goal.invariant-loop-digit
invariant-loop-digit l = record {
  small : l.number ≤ TOO_BIG;
  value : (front : List ℕ) → l.fn.number ≡ min (digits_value 10 front) TOO_BIG → l.number ≡ min (digits_value 10 (front ++ take l.digit-index l.digits)) TOO_BIG;
}
