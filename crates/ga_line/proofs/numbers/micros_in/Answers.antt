use Rattle.std.proofs.lemmas.Option.{IfSome_then}
use Rattle.ga_line.specs.declared.digits.TheConstants.{TOO_BIG}
use Rattle.ga_line.proofs.DecimalLemmas.{none-then, found-millis, found-seconds, none-millis, none-seconds}
use Rattle.ga_line.proofs.numbers.micros_in.Goals as goal

pub returns-in-76-clause-found : goal.returns-in-76-clause-found
returns-in-76-clause-found c = IfSome_then c.decimal_in.result c.decimal_in.ensures.found (found-millis c.args.letter c.args.text.now TOO_BIG c.in-76.is)

pub returns-in-76-clause-none : goal.returns-in-76-clause-none
returns-in-76-clause-none c = none-then c.decimal_in.result (none-millis c.args.letter c.args.text.now c.in-76.is) c.decimal_in.ensures.none

pub returns-in-84-clause-found : goal.returns-in-84-clause-found
returns-in-84-clause-found c =
    IfSome_then c.decimal_in-in-84.result c.decimal_in-in-84.ensures.found (found-seconds c.args.letter c.args.text.now TOO_BIG c.in-84.is)

pub returns-in-84-clause-none : goal.returns-in-84-clause-none
returns-in-84-clause-none c = none-then c.decimal_in-in-84.result (none-seconds c.args.letter c.args.text.now c.in-84.is) c.decimal_in-in-84.ensures.none
