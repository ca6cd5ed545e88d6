use Rattle.std.proofs.Common.{◌<◌, length, refl, sym, [], arith}
use Rattle.std.proofs.lemmas.Bool.Decides.{nat_tests}
use Rattle.ga_line.proofs.digits.number_in.Goals as goal

pub returns-clause-found : goal.returns-clause-found
returns-clause-found c =
    let some : 0 < length c.args.text.now = grind (arith, nat_tests, c.if-is_empty.ensures) in
    (record { some = some; digits = sym c.if-not-are_digits.ensures }, c.with_digits.ensures.value [] refl)
