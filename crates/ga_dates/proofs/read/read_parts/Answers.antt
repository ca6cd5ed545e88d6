use Rattle.std.proofs.Common.{arith, ◌≡◌, List, [], drop, ap, sym, ◌∙◌, subst, refl}
use Rattle.std.proofs.lemmas.List.{drop_all}
use Rattle.ga_dates.specs.declared.item.Item.{Item}
use Rattle.ga_dates.specs.Items.{number_at}
use Rattle.ga_dates.proofs.ReadLemmas.{Reads, item_at, needs_width, needs_number, forth_more, back_more, reads_found, reads_only}
use Rattle.ga_dates.proofs.read.read_parts.Goals as goal

pub returns-in_err-piece-clause-only : goal.returns-in_err-piece-clause-only
returns-in_err-piece-clause-only c f rest (front, e, spells) =
    let items = c.args.items.now in
    let at = c.loop-item in
    let made = reads_only items f front rest c.args.text.now _ c.requires e spells in
    let left = item_at items at.item-index at.rest.now at.parts made.0 rest c.loop-item-test.true (at.invariant.forth made.0 rest made.1) in
    let wide = needs_width _ _ at.rest.now at.parts made.0 rest left in
    let short = c.in_err-piece.ensures.variant.1 (omega (arith, wide, c.width.ensures)) in
    cc

pub returns-in_err-number-clause-only : goal.returns-in_err-number-clause-only
returns-in_err-number-clause-only c f rest (front, e, spells) =
    let items = c.args.items.now in
    let at = c.loop-item in
    let made = reads_only items f front rest c.args.text.now _ c.requires e spells in
    let left = item_at items at.item-index at.rest.now at.parts made.0 rest c.loop-item-test.true (at.invariant.forth made.0 rest made.1) in
    let number = needs_number _ _ c.width.result at.rest.now c.in_ok-piece.piece.now at.parts made.0 rest c.width.ensures c.in_ok-piece.ensures.cases.1 left in
    let found = c.number_in.ensures.only number.0 number.1 in
    let none = c.in_err-number.was in
    cc

pub loop-item-preserved : goal.loop-item-preserved
loop-item-preserved c =
    let at = c.loop-item in
    let parted = c.in_ok-piece.ensures.cases in
    record {
      forth = λ g rest reads.
          forth_more c.args.items.now at.item-index c.width.result c.in_ok-number.number at.rest.now c.in_ok-piece.piece.now c.in_ok-piece.more.now at.parts c.set_for.new.self g rest
          c.loop-item-test.true c.width.ensures parted.1 parted.2 c.set_for.ensures c.in_ok-number.ensures.only (at.invariant.forth g rest reads);
      back = λ g rest reads.
          at.invariant.back g rest
          (back_more c.args.items.now at.item-index c.width.result c.in_ok-number.number at.rest.now c.in_ok-piece.piece.now c.in_ok-piece.more.now at.parts c.set_for.new.self g rest
          c.loop-item-test.true c.width.ensures parted.1 parted.2 c.set_for.ensures c.in_ok-number.ensures.found reads);
    }

pub returns-clause-found : goal.returns-clause-found
returns-clause-found c =
    let items = c.args.items.now in
    let at = c.loop-item in
    let none : drop at.item-index items ≡ [] = drop_all at.item-index items c.loop-item-test.false in
    let made = at.invariant.back at.parts at.rest.now (subst (λ (xs : List Item). Reads xs at.rest.now at.parts at.parts at.rest.now) (sym none) (refl, refl)) in
    (reads_found items c.args.text.now _ at.parts at.rest.now c.requires made).0

pub returns-clause-only : goal.returns-clause-only
returns-clause-only c f rest (front, e, spells) =
    let items = c.args.items.now in
    let at = c.loop-item in
    let none : drop at.item-index items ≡ [] = drop_all at.item-index items c.loop-item-test.false in
    let made = reads_only items f front rest c.args.text.now _ c.requires e spells in
    let ended = subst (λ (xs : List Item). Reads xs at.rest.now at.parts made.0 rest) none (at.invariant.forth made.0 rest made.1) in
    (sym ended.1, λ part given. sym (ap (number_at part) ended.0) ∙ made.2 part given)
