use Rattle.std.proofs.Common.{◌≡◌, ◌+◌, ◌*◌, List, take, refl, ◌∙◌, subst, arith}
use Rattle.std.proofs.lemmas.List.{take_all}
use Rattle.std.proofs.lemmas.Option.{get_or_from_slice_get}
use Rattle.ga_base.specs.declared.counts.Sums.{Sums}
use Rattle.ga_pool.specs.Steps.Filling.{Gains, added_at, numbers_at, raised_to}
use Rattle.ga_pool.proofs.PutRows.{gains-next, gains-none, room}
use Rattle.ga_pool.proofs.putting.put_rows.Goals as goal

pub loop-local-init : goal.loop-local-init
loop-local-init c = record { table = c.requires.table; gains = gains-none c.args.seat.now.view (numbers_at c.args.keys.now.numbers c.args.worker) c.args.rows.now }

pub put_sums-requires-clause-number : goal.put_sums-requires-clause-number
put_sums-requires-clause-number c =
    let numbers = numbers_at c.args.keys.now.numbers c.args.worker in
    let is = get_or_from_slice_get numbers c.loop-local.local c.of-number.result 0 c.of-number.ensures in
    omega (arith, is, c.requires.rows.below c.loop-local.local c.loop-local-test.true, c.requires.maxima)

pub put_sums-requires-clause-hits : goal.put_sums-requires-clause-hits
put_sums-requires-clause-hits c =
    let numbers = numbers_at c.args.keys.now.numbers c.args.worker in
    let is = get_or_from_slice_get numbers c.loop-local.local c.of-number.result 0 c.of-number.ensures in
    room _ _ numbers c.args.rows.now c.requires.rows c.loop-local.local c.loop-local-test.true c.args.seat.now.view c.loop-local.seat.view _ _ (3 * c.of-number.result) 0 _ c.requires.blank c.loop-local.invariant.gains refl
    (omega (arith, is)) (omega arith) (c.requires.rows.within c.loop-local.local _ c.loop-local-test.true).0

pub put_sums-requires-clause-bytes : goal.put_sums-requires-clause-bytes
put_sums-requires-clause-bytes c =
    let numbers = numbers_at c.args.keys.now.numbers c.args.worker in
    let is = get_or_from_slice_get numbers c.loop-local.local c.of-number.result 0 c.of-number.ensures in
    room _ _ numbers c.args.rows.now c.requires.rows c.loop-local.local c.loop-local-test.true c.args.seat.now.view c.loop-local.seat.view _ _ (3 * c.of-number.result + 1) 1 _ c.requires.blank c.loop-local.invariant.gains refl
    (omega (arith, is)) (omega arith) (c.requires.rows.within c.loop-local.local _ c.loop-local-test.true).1

pub put_sums-requires-clause-micros : goal.put_sums-requires-clause-micros
put_sums-requires-clause-micros c =
    let numbers = numbers_at c.args.keys.now.numbers c.args.worker in
    let is = get_or_from_slice_get numbers c.loop-local.local c.of-number.result 0 c.of-number.ensures in
    room _ _ numbers c.args.rows.now c.requires.rows c.loop-local.local c.loop-local-test.true c.args.seat.now.view c.loop-local.seat.view _ _ (3 * c.of-number.result + 2) 2 _ c.requires.blank c.loop-local.invariant.gains refl
    (omega (arith, is)) (omega arith) (c.requires.rows.within c.loop-local.local _ c.loop-local-test.true).2

pub loop-local-preserved : goal.loop-local-preserved
loop-local-preserved c =
    let numbers = numbers_at c.args.keys.now.numbers c.args.worker in
    let is = get_or_from_slice_get numbers c.loop-local.local c.of-number.result 0 c.of-number.ensures in
    record {
      table = c.put_sums.ensures.table ∙ c.loop-local.invariant.table;
      gains = gains-next _ _ numbers c.args.rows.now c.requires.rows c.loop-local.local c.loop-local-test.true c.args.seat.now.view c.loop-local.seat.view c.put_sums.new.seat.view c.of-number.result _ is c.loop-local.invariant.gains c.put_sums.ensures.gains;
    }

pub returns-clause-gains : goal.returns-clause-gains
returns-clause-gains c =
    let numbers = numbers_at c.args.keys.now.numbers c.args.worker in
    let all : take c.loop-local.local c.args.rows.now ≡ c.args.rows.now = take_all c.loop-local.local c.args.rows.now c.loop-local-test.false in
    subst (λ (rows : List Sums). Gains c.args.seat.now.view c.loop-local.seat.view (λ word. added_at word numbers rows) (λ place. raised_to place numbers rows)) all c.loop-local.invariant.gains
