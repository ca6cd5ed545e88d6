use Rattle.std.proofs.Common.{ℕ, Option, sym, subst}
use Rattle.std.specs.Option.{option_copied, IfNone}
use Rattle.ga_line.specs.Records.{HasMoment}
use Rattle.ga_line.proofs.NumbersLemmas.{no-both, no-day}
use Rattle.ga_line.proofs.numbers.moment_in.Goals as goal

pub returns-in_err-date-in-Some-clause-none : goal.returns-in_err-date-in-Some-clause-none
returns-in_err-date-in-Some-clause-none c =
    subst (λ r. IfNone r ((date : ℕ) (minute : Option ℕ) → ¬ HasMoment c.args.setup.now (option_copied c.args.both) (option_copied c.args.day) (option_copied c.args.time) date minute))
    (sym c.from_residual.ensures) (no-both c.args.setup.now c.args.both c.args.day c.args.time c.in-Some.text c.in-Some.is c.in_err-date-in-Some.ensures.only)

pub returns-in_err-date-in-None-clause-none : goal.returns-in_err-date-in-None-clause-none
returns-in_err-date-in-None-clause-none c =
    subst (λ r. IfNone r ((date : ℕ) (minute : Option ℕ) → ¬ HasMoment c.args.setup.now (option_copied c.args.both) (option_copied c.args.day) (option_copied c.args.time) date minute))
    (sym c.from_residual-in_err-date-in-None.ensures)
    (no-day c.args.setup.now c.args.both c.args.day c.args.time c.in_ok-day-in-None.field-0 c.in-None.is (c.in_ok-day-in-None.was) c.in_err-date-in-None.ensures.only)
