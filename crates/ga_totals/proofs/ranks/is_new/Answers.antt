use Rattle.std.proofs.Common.{sym, ap, ◌∙◌}
use Rattle.std.specs.Ordering.{is_ne}
use Rattle.ga_base.specs.declared.key.Visitor.{Visitor}
use Rattle.ga_base.specs.Orders.{name_cmp, name_of}
use Rattle.ga_totals.proofs.Ranking.{ends-in-other, ends-in-same}
use Rattle.ga_totals.proofs.ranks.is_new.Goals as goal

pub returns-in-Some-clause-other : goal.returns-in-Some-clause-other
returns-in-Some-clause-other c new =
    let last = c.index-visitors-first.result in
    let answer = c.is_ne.ensures ∙ ap is_ne (c.compare_names.ensures ∙ ap (λ (v : Visitor). name_cmp (name_of last) (name_of v)) c.visitor.ensures) in
    ends-in-other c.args.visitors.now c.args.firsts.now c.in-Some.first.now c.in-Some.ensures.value last c.index-visitors-first.is c.requires (name_of c.args.entry.now.visitor) (sym answer ∙ new)

pub returns-in-Some-clause-same : goal.returns-in-Some-clause-same
returns-in-Some-clause-same c known =
    let last = c.index-visitors-first.result in
    let answer = c.is_ne.ensures ∙ ap is_ne (c.compare_names.ensures ∙ ap (λ (v : Visitor). name_cmp (name_of last) (name_of v)) c.visitor.ensures) in
    ends-in-same c.args.visitors.now c.args.firsts.now c.in-Some.first.now c.in-Some.ensures.value last c.index-visitors-first.is c.requires (name_of c.args.entry.now.visitor) (sym answer ∙ known)
