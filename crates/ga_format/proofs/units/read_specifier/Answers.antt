use Rattle.std.proofs.Common.{refl, sym}
use Rattle.ga_format.proofs.UnitLemmas.{gives_specifier, unknown_letter}
use Rattle.ga_format.proofs.units.read_specifier.Goals as goal

pub returns-then-not-contains-clause-fault : goal.returns-then-not-contains-clause-fault
returns-then-not-contains-clause-fault c =
    (refl, unknown_letter c.args.text.now c.in-Some.letter.now c.in-Some.after.now c.in-Some.ensures.cases.0 (sym c.if-not-contains.ensures.value))

pub returns-clause-unit : goal.returns-clause-unit
returns-clause-unit c =
    gives_specifier c.args.text.now c.in-Some.letter.now c.in-Some.after.now c.specifier_item.result c.in-Some.ensures.cases.0 (sym c.if-not-contains.ensures.value) c.specifier_item.ensures
