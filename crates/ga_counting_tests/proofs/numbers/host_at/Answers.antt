use Rattle.std.proofs.Common.{arith}
use Rattle.ga_counting_tests.proofs.TestNumbers.{has_number}
use Rattle.ga_counting_tests.proofs.numbers.host_at.Goals as goal

pub of-number-requires-clause-dictionary : goal.of-number-requires-clause-dictionary
of-number-requires-clause-dictionary c =
    (has_number c.requires.0 c.args.lists.now c.args.numbers.now c.requires.1 c.args.list c.args.place c.in_ok-get.field-0.now c.in_ok-get.ensures.lookup.3.0 c.in_ok-get.ensures.lookup.1 (omega (arith, c.len.ensures.value, c.if-len.false))).list_is

pub of-number-requires-clause-local : goal.of-number-requires-clause-local
of-number-requires-clause-local c =
    (has_number c.requires.0 c.args.lists.now c.args.numbers.now c.requires.1 c.args.list c.args.place c.in_ok-get.field-0.now c.in_ok-get.ensures.lookup.3.0 c.in_ok-get.ensures.lookup.1 (omega (arith, c.len.ensures.value, c.if-len.false))).place_is

pub item-requires : goal.item-requires
item-requires c =
    (has_number c.requires.0 c.args.lists.now c.args.numbers.now c.requires.1 c.args.list c.args.place c.in_ok-get.field-0.now c.in_ok-get.ensures.lookup.3.0 c.in_ok-get.ensures.lookup.1 (omega (arith, c.len.ensures.value, c.if-len.false))).item c.of-number.result c.of-number.ensures
