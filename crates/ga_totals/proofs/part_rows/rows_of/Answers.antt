use Rattle.std.proofs.Common.{◌≡◌, ◌+◌, List, Some, arith, sym, subst}
use Rattle.std.specs.Prelude.{slice_get}
use Rattle.std.specs.List.{All}
use Rattle.std.proofs.lemmas.List.Elements.{All-get_or}
use Rattle.ga_base.specs.declared.key.Visitor.{Visitor}
use Rattle.ga_summary.specs.SummaryParts.{row_of_part}
use Rattle.ga_tallies.specs.Tallies.{lists_in, pairs_in}
use Rattle.ga_totals.specs.Steps.KeyRows.{IsRowOf, NumberedKey}
use Rattle.ga_totals.proofs.KeyRows.{HaveRows, rows-are, rows-more}
use Rattle.ga_totals.proofs.part_rows.rows_of.Goals as goal

pub loop-entry-preserved : goal.loop-entry-preserved
loop-entry-preserved c =
    let keys = c.args.keys.now in
    let sums = c.args.sums.now in
    let visitors = c.args.visitors.now in
    let pairs = pairs_in (lists_in c.args.visits.now) in
    let order = c.deref-entry-items.result.now in
    let i = c.loop-entry.entry-index in
    let n = c.entry-item.result in
    let P = λ (m : NumberedKey). slice_get keys m.number ≡ Some m.key in
    let stands : slice_get keys n.number ≡ Some n.key =
    subst P (sym c.entry-item.is) (All-get_or P order i n c.loop-entry-test.true (subst (All P) (sym c.deref-entry-items.ensures.value) c.in_ok-order.ensures.numbers)) in
    let so_far : HaveRows keys sums visitors pairs order i c.loop-entry.rows.items = record { keys_are = c.loop-entry.invariant.keys; each = c.loop-entry.invariant.each } in
    let is : IsRowOf n sums visitors pairs (row_of_part c.in_ok-row_of.field-0) =
    subst (λ (l : List Visitor). IsRowOf n sums l pairs (row_of_part c.in_ok-row_of.field-0)) c.in_ok-ranks.ensures c.in_ok-row_of.ensures in
    let more = rows-more keys sums visitors pairs order i c.loop-entry.rows.items n c.in_ok-row_of.field-0 c.loop-entry-test.true c.entry-item.is stands is so_far in
    let here = subst (HaveRows keys sums visitors pairs order (i + 1)) (sym c.in_ok-push.ensures.items) more in
    record { keys = here.keys_are; each = here.each }

pub returns : goal.returns
returns c =
    let keys = c.args.keys.now in
    let sums = c.args.sums.now in
    let visitors = c.args.visitors.now in
    let pairs = pairs_in (lists_in c.args.visits.now) in
    let order = c.in_ok-order.order.items in
    let i = c.loop-entry.entry-index in
    let rows = c.loop-entry.rows.items in
    let have : HaveRows keys sums visitors pairs c.deref-entry-items.result.now i rows = record { keys_are = c.loop-entry.invariant.keys; each = c.loop-entry.invariant.each } in
    rows-are keys sums visitors pairs order i rows (omega (arith, c.loop-entry-test.false, c.deref-entry-items.ensures.len)) c.in_ok-order.ensures
    (subst (λ (o : List NumberedKey). HaveRows keys sums visitors pairs o i rows) c.deref-entry-items.ensures.value have)
