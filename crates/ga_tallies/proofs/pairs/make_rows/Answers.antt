use Rattle.std.proofs.Common.{◌≡◌, ◌∷◌, ◌++◌, [], ap, arith, subst, sym, ◌∙◌}
use Rattle.std.proofs.lemmas.List.{map_push}
use Rattle.ga_tallies.specs.Steps.Adding.{HoldTheSame}
use Rattle.ga_tallies.specs.Tallies.{lists_in, pairs_in}
use Rattle.ga_tallies.proofs.PairLists.{empty-pushed, holds-after, holds-itself}
use Rattle.ga_tallies.proofs.pairs.make_rows.Goals as goal

pub loop-alloc-init : goal.loop-alloc-init
loop-alloc-init c = holds-itself (pairs_in (lists_in c.args.rows.now.items))

pub loop-alloc-smaller : goal.loop-alloc-smaller
loop-alloc-smaller c = omega (arith, c.in_ok-push.ensures.len, c.len.ensures, c.loop-alloc-test.true)

pub loop-alloc-preserved : goal.loop-alloc-preserved
loop-alloc-preserved c =
    let before = lists_in c.loop-alloc.rows.items in
    let after = lists_in c.push.new.self.items in
    let pushed : after ≡ before ++ c.new.result.items ∷ [] = ap lists_in c.in_ok-push.ensures.items ∙ map_push (λ row. row.items) c.loop-alloc.rows.items c.new.result in
    let is : after ≡ before ++ [] ∷ [] = pushed ∙ ap (λ row. before ++ row ∷ []) c.new.ensures.items in
    let first = pairs_in (lists_in c.args.rows.now.items) in
    subst (λ rows. HoldTheSame first (pairs_in rows)) (sym is)
    (holds-after first (pairs_in before) (pairs_in (before ++ [] ∷ [])) c.loop-alloc.invariant (empty-pushed before))

pub returns-in_err-push-clause-same : goal.returns-in_err-push-clause-same
returns-in_err-push-clause-same c =
    subst (λ rows. HoldTheSame (pairs_in (lists_in c.args.rows.now.items)) (pairs_in (lists_in rows))) (sym c.in_err-push.ensures.items) c.loop-alloc.invariant

pub returns-clause-same : goal.returns-clause-same
returns-clause-same c = c.loop-alloc.invariant
