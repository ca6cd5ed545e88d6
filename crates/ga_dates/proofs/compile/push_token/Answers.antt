use Rattle.std.proofs.Common.{List, subst}
use Rattle.ga_dates.specs.declared.item.Item.{Item}
use Rattle.ga_dates.specs.Grammar.{GivesAgain}
use Rattle.ga_dates.proofs.RowLemmas.{adds_byte, adds_directive}
use Rattle.ga_dates.proofs.compile.push_token.Goals as goal

pub returns-then-text-at-ne37-clause-ok : goal.returns-then-text-at-ne37-clause-ok
returns-then-text-at-ne37-clause-ok c =
    adds_byte c.args.kind c.args.text.now c.args.at c.args.items.now.items c.push.new.self.items c.requires.inside c.requires.once
    c.if-text-at-ne37.true c.in_ok-push.ensures.items

pub returns-in_ok-extend_from_slice-in-Some-clause-ok : goal.returns-in_ok-extend_from_slice-in-Some-clause-ok
returns-in_ok-extend_from_slice-in-Some-clause-ok c =
    let added = c.in-Some.added.now in
    let named = c.in-Some.ensures.named in
    adds_directive c.args.kind c.args.text.now c.args.at c.args.items.now.items c.extend_from_slice.new.self.items added named.0 c.requires.once
    c.if-text-at-ne37.false named.1 (subst (λ (xs : List Item). ¬ GivesAgain xs added) c.deref.ensures.value c.in-Some.ensures.new)
    c.in_ok-extend_from_slice-in-Some.ensures.items
