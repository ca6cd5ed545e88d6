use Rattle.std.proofs.Common.{ℕ, subst, sym}
use Rattle.smallvec.specs.SmallVec.{SmallVec}
use Rattle.ga_tallies.specs.Steps.Adding.{AddsOne, KeepsAll}
use Rattle.ga_tallies.proofs.PairLists.{holds-itself, one-added}
use Rattle.ga_tallies.proofs.pairs.push_visitor.Goals as goal

pub returns-in_err-push-clause-kept : goal.returns-in_err-push-clause-kept
returns-in_err-push-clause-kept c = subst (λ (row : SmallVec ℕ). KeepsAll c.args.row.now.items row.items) (sym c.in_err-push.ensures.err) (λ v at. at)

pub returns-clause-kept : goal.returns-clause-kept
returns-clause-kept c =
    let added = one-added c.args.row.now.items c.args.row.now.items c.args.visitor (holds-itself c.args.row.now.items) in
    subst (KeepsAll c.args.row.now.items) (sym c.in_ok-push.ensures.ok) added.kept

pub returns-clause-added : goal.returns-clause-added
returns-clause-added c =
    subst (AddsOne c.args.visitor c.args.row.now.items) (sym c.in_ok-push.ensures.ok)
    (one-added c.args.row.now.items c.args.row.now.items c.args.visitor (holds-itself c.args.row.now.items))
