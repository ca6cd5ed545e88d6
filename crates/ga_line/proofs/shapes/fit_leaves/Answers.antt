use Rattle.std.proofs.Common.{◌+◌, [], ℕ, Bool, List, Option, drop, sym, ap, subst, ◌∙◌, arith}
use Rattle.std.specs.Prelude.{◌||◌}
use Rattle.std.proofs.lemmas.List.{drop_all}
use Rattle.ga_base.specs.declared.formats.FormatItem.{FormatItem}
use Rattle.ga_jsonlog.specs.declared.leaf.JsonLeaf.{JsonLeaf}
use Rattle.ga_line.specs.Shapes.{has_taken}
use Rattle.ga_line.specs.Steps.Fitting.{AreReadTo}
use Rattle.ga_line.proofs.ShapeLemmas.{leaves-all, leaves-none, read-at}
use Rattle.ga_line.proofs.shapes.fit_leaves.Goals as goal

pub loop-at-init : goal.loop-at-init
loop-at-init c = ([], leaves-none c.args.leaves.now c.args.pieces.now, c.requires.none)

pub loop-at-preserved : goal.loop-at-preserved
loop-at-preserved c =
    let leaves = c.args.leaves.now in
    let pieces = c.args.pieces.now in
    let at = c.loop-at.at in
    let leaf = c.index-leaves-at.result in
    let piece = c.index-pieces-at.result in
    let to = read-at leaves pieces at leaf piece c.loop-at.taken c.loop-at.invariant.0 c.loop-at-test.true c.requires.many (sym c.index-leaves-at.is) (sym c.index-pieces-at.is) c.loop-at.invariant.1 in
    let read = c.fit_leaf.ensures.fits c.if-not-fit_leaf.false leaves (drop (at + 1) leaves) pieces (drop (at + 1) pieces) c.loop-at.invariant.0 to c.loop-at.invariant.2 in
    let after = ap (λ (items : List FormatItem). c.loop-at.taken || has_taken items) (sym c.items.ensures) ∙ sym c.is_taken_after-taken.ensures in
    (read.0, subst (λ (taken : Bool). AreReadTo leaves pieces (drop (at + 1) leaves) (drop (at + 1) pieces) taken read.0) after read.1, read.2)

pub returns-then-not-fit_leaf-clause-misfit : goal.returns-then-not-fit_leaf-clause-misfit
returns-then-not-fit_leaf-clause-misfit c = λ failed.
    let leaves = c.args.leaves.now in
    let pieces = c.args.pieces.now in
    let at = c.loop-at.at in
    c.fit_leaf.ensures.misfit c.if-not-fit_leaf.true leaves (drop (at + 1) leaves) pieces (drop (at + 1) pieces) c.loop-at.invariant.0
    (read-at leaves pieces at c.index-leaves-at.result c.index-pieces-at.result c.loop-at.taken c.loop-at.invariant.0 c.loop-at-test.true c.requires.many (sym c.index-leaves-at.is) (sym c.index-pieces-at.is) c.loop-at.invariant.1)

pub returns-clause-fits : goal.returns-clause-fits
returns-clause-fits c = λ fitted.
    let leaves = c.args.leaves.now in
    let pieces = c.args.pieces.now in
    let at = c.loop-at.at in
    let done = drop_all at leaves c.loop-at-test.false in
    let over = drop_all at pieces (omega (arith, c.loop-at-test.false, c.requires.many)) in
    let to = subst (λ (rest : List (Option (List ℕ))). AreReadTo leaves pieces [] rest c.loop-at.taken c.loop-at.invariant.0) over
    (subst (λ (left : List JsonLeaf). AreReadTo leaves pieces left (drop at pieces) c.loop-at.taken c.loop-at.invariant.0) done c.loop-at.invariant.1) in
    (c.loop-at.invariant.0, leaves-all leaves pieces c.loop-at.taken c.loop-at.invariant.0 to, c.loop-at.invariant.2)
