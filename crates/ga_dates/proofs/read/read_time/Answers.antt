use Rattle.std.proofs.Common.{ℕ, List, [], Some, sym, ◌∙◌, ap, subst}
use Rattle.ga_dates.specs.declared.item.Item.{Item}
use Rattle.ga_dates.specs.Items.{AreOnce}
use Rattle.ga_dates.proofs.ReadLemmas.{begins_whole, same_parts, same_minute, not_empty}
use Rattle.ga_dates.proofs.read.read_time.Goals as goal

pub read_parts-requires : goal.read_parts-requires
read_parts-requires c = subst (λ (xs : List Item). AreOnce xs) (sym c.items.ensures.value) c.items.ensures.complete.once

pub returns-in_err-parts-clause-only : goal.returns-in_err-parts-clause-only
returns-in_err-parts-clause-only c minute h =
    absurd (c.in_err-parts.ensures.only h.parts [] (begins_whole c.args.format.now _ h.parts c.args.text.now c.items.ensures.value h.spelt))

pub returns-then-is_empty-clause-only : goal.returns-then-is_empty-clause-only
returns-then-is_empty-clause-only c minute h =
    let got = c.in_ok-parts.ensures.only h.parts [] (begins_whole c.args.format.now _ h.parts c.args.text.now c.items.ensures.value h.spelt) in
    let same = same_minute c.args.format.now _ h.parts c.items.ensures.complete (same_parts c.args.format.now _ _ h.parts c.items.ensures.value got.1) in
    ap (λ (n : ℕ). Some n) (c.minute_number.ensures ∙ (same ∙ sym h.number))

pub returns-else-is_empty-clause-only : goal.returns-else-is_empty-clause-only
returns-else-is_empty-clause-only c minute h =
    let got = c.in_ok-parts.ensures.only h.parts [] (begins_whole c.args.format.now _ h.parts c.args.text.now c.items.ensures.value h.spelt) in
    absurd (not_empty c.in_ok-parts.rest.now got.0 (sym c.is_empty.ensures ∙ c.if-is_empty.false))
