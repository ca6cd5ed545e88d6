use Rattle.std.proofs.Common.{◌≡◌, true, take}
use Rattle.std.specs.Str.{all_ascii_digits}
use Rattle.ga_line.proofs.digits.are_digits.Given as goal

abbrev pub invariant-loop-byte : goal.invariant-loop-byte
invariant-loop-byte l = all_ascii_digits (take l.byte-index l.text) ≡ true
