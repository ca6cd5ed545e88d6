use Rattle.std.proofs.Common.{List, subst, sym, ◌∙◌, ap, ℕ, Some}
use Rattle.ga_dates.specs.declared.item.Item.{Item}
use Rattle.ga_dates.specs.Items.{AreOnce}
use Rattle.ga_dates.specs.Spelling.{SpellsTime}
use Rattle.ga_dates.proofs.ReadLemmas.{begins_front, same_parts, same_day, both_same}
use Rattle.ga_dates.proofs.read.read_both.Goals as goal

pub read_parts-requires : goal.read_parts-requires
read_parts-requires c = subst (λ (xs : List Item). AreOnce xs) (sym c.items.ensures.value) c.items.ensures.complete.once

pub returns-in_err-parts-clause-only : goal.returns-in_err-parts-clause-only
returns-in_err-parts-clause-only c day minute h =
    absurd (c.in_err-parts.ensures.only h.date.parts h.back (begins_front c.args.date.now _ h.date.parts h.front h.back c.args.text.now h.parted c.items.ensures.value h.date.spelt))

pub returns-in_err-day-clause-only : goal.returns-in_err-day-clause-only
returns-in_err-day-clause-only c day minute h =
    let got = c.in_ok-parts.ensures.only h.date.parts h.back (begins_front c.args.date.now _ h.date.parts h.front h.back c.args.text.now h.parted c.items.ensures.value h.date.spelt) in
    let same = same_day c.args.date.now _ h.date.parts c.items.ensures.complete (same_parts c.args.date.now _ _ h.date.parts c.items.ensures.value got.1) h.date.exists in
    let found = c.day_number.ensures.only same.0 in
    let none = c.in_err-day.was in
    cc

pub returns-in_err-minute-clause-only : goal.returns-in_err-minute-clause-only
returns-in_err-minute-clause-only c day minute h =
    let got = c.in_ok-parts.ensures.only h.date.parts h.back (begins_front c.args.date.now _ h.date.parts h.front h.back c.args.text.now h.parted c.items.ensures.value h.date.spelt) in
    let found = c.read_time.ensures.only minute (subst (λ (s : List ℕ). SpellsTime c.args.time.now s minute) (sym got.0) h.time) in
    let none = c.in_err-minute.was in
    cc

pub returns-clause-only : goal.returns-clause-only
returns-clause-only c day minute h =
    let got = c.in_ok-parts.ensures.only h.date.parts h.back (begins_front c.args.date.now _ h.date.parts h.front h.back c.args.text.now h.parted c.items.ensures.value h.date.spelt) in
    let same = same_day c.args.date.now _ h.date.parts c.items.ensures.complete (same_parts c.args.date.now _ _ h.date.parts c.items.ensures.value got.1) h.date.exists in
    let found = c.in_ok-day.ensures.only same.0 in
    let time = c.in_ok-minute.ensures.only minute (subst (λ (s : List ℕ). SpellsTime c.args.time.now s minute) (sym got.0) h.time) in
    both_same (found ∙ ap (λ (n : ℕ). Some n) (same.1 ∙ sym h.date.number)) time
