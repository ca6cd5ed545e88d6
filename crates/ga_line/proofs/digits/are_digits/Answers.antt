use Rattle.std.proofs.Common.{refl, sym, ap, ◌∙◌, take_all, arith}
use Rattle.std.specs.Str.{all_ascii_digits}
use Rattle.ga_line.proofs.SizeLemmas.{not-all, digits-more}
use Rattle.ga_line.proofs.digits.are_digits.Goals as goal

pub loop-byte-init : goal.loop-byte-init
loop-byte-init c = refl

pub returns-then-not-is_ascii_digit : goal.returns-then-not-is_ascii_digit
returns-then-not-is_ascii_digit c = sym (not-all c.args.text.now c.loop-byte.byte-index c.loop-byte-test.true (sym c.if-not-is_ascii_digit.ensures.value))

pub loop-byte-preserved : goal.loop-byte-preserved
loop-byte-preserved c = digits-more c.args.text.now c.loop-byte.byte-index c.loop-byte-test.true c.loop-byte.invariant (sym c.if-not-is_ascii_digit.ensures.value)

pub returns : goal.returns
returns c = sym c.loop-byte.invariant ∙ ap all_ascii_digits (take_all c.loop-byte.byte-index c.args.text.now (omega arith))
