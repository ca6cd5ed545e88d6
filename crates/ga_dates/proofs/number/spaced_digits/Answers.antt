use Rattle.std.proofs.Common.{rules}
use Rattle.ga_dates.proofs.NumberLemmas.{spaced_digit}
use Rattle.ga_dates.proofs.number.spaced_digits.Goals as goal

pub returns-in-32-clause-only : goal.returns-in-32-clause-only
returns-in-32-clause-only c n h = let d = spaced_digit c.args.piece.now n (search rules) h in c.digit.ensures.only n d.0 d.1
