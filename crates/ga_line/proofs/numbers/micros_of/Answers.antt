use Rattle.std.proofs.Common.{sym, subst, arith}
use Rattle.std.specs.Option.{option_map, IfNone}
use Rattle.ga_line.specs.Steps.Fitting.{part_of}
use Rattle.ga_line.specs.Steps.Valid.{IsTooSlow}
use Rattle.ga_line.proofs.NumbersLemmas.{no-micros, some-micros, slow-micros}
use Rattle.ga_line.proofs.numbers.micros_of.Goals as goal

pub returns-in_err-up_to_big-in-Some-micros_in-clause-large : goal.returns-in_err-up_to_big-in-Some-micros_in-clause-large
returns-in_err-up_to_big-in-Some-micros_in-clause-large c =
    subst (λ r. IfNone r (IsTooSlow (option_map part_of c.args.part))) (sym c.from_residual.ensures)
    (slow-micros c.args.part c.in-Some.letter c.in-Some.text c.in-Some.is c.in-Some-micros_in.micros c.in-Some-micros_in.ensures.found c.in_err-up_to_big-in-Some-micros_in.ensures.large)

pub returns-in-None-clause-found : goal.returns-in-None-clause-found
returns-in-None-clause-found c = (no-micros c.args.part c.in-Some.letter c.in-Some.text c.in-Some.is c.in-None.ensures.none, tt)

pub returns-in_ok-up_to_big-in-Some-micros_in-clause-found : goal.returns-in_ok-up_to_big-in-Some-micros_in-clause-found
returns-in_ok-up_to_big-in-Some-micros_in-clause-found c =
    let within = c.in_ok-up_to_big-in-Some-micros_in.ensures.found in
    (some-micros c.args.part c.in-Some.letter c.in-Some.text c.in-Some.is c.in-Some-micros_in.micros c.in_ok-up_to_big-in-Some-micros_in.field-0 c.in-Some-micros_in.ensures.found within.1 within.0, omega (arith, within.0, within.1))
