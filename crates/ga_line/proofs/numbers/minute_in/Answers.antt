use Rattle.std.proofs.Common.{ℕ, Option, sym, subst}
use Rattle.std.specs.Option.{option_copied, IfNone}
use Rattle.ga_line.specs.Records.{HasMinute}
use Rattle.ga_line.proofs.NumbersLemmas.{no-minute}
use Rattle.ga_line.proofs.numbers.minute_in.Goals as goal

pub returns-in_err-read_time-in-Some-clause-none : goal.returns-in_err-read_time-in-Some-clause-none
returns-in_err-read_time-in-Some-clause-none c =
    subst (λ r. IfNone r ((minute : Option ℕ) → ¬ HasMinute c.args.times.now (option_copied c.args.time) minute)) (sym c.from_residual.ensures)
    (no-minute c.args.times.now c.args.time c.in-Some.text c.in-Some.is c.in_err-read_time-in-Some.ensures.only)
