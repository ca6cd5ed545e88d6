use Rattle.std.proofs.Common.{◌∷◌, ◌++◌, ℕ, List, Option, sym, subst}
use Rattle.ga_base.specs.declared.formats.FormatItem.{FormatItem}
use Rattle.ga_line.specs.Fits.{Fits}
use Rattle.ga_line.specs.Shapes.{read_parts}
use Rattle.ga_line.specs.Steps.Fitting.{AreReadTo}
use Rattle.ga_line.proofs.ShapeLemmas.{leaves-absent, leaves-misfit, leaves-some}
use Rattle.ga_line.proofs.shapes.fit_leaf.Goals as goal

-- `c.in-Some.is` says that the piece is `Some` of the text, and
-- `c.items.ensures`, `c.bytes.ensures.value` that `fit_text` is asked for the leaf's items and the text's bytes.
pub returns-in-None-clause-fits : goal.returns-in-None-clause-fits
returns-in-None-clause-fits c = λ fitted leaves left pieces rest before to are.
    let absent = subst (λ (piece : Option (List ℕ)). AreReadTo leaves pieces (c.args.leaf.now ∷ left) (piece ∷ rest) c.args.taken before) c.in-None.is to in
    (before, leaves-absent leaves pieces c.args.leaf.now left rest c.args.taken before absent, are)

pub returns-in-Some-clause-fits : goal.returns-in-Some-clause-fits
returns-in-Some-clause-fits c = λ fitted leaves left pieces rest before to are.
    let found = c.fit_text.ensures.fits fitted in
    let text = c.in-Some.text in
    let fits = subst (λ (items : List FormatItem). Fits items text found.0) c.items.ensures (subst (λ (bytes : List ℕ). Fits c.items.result.now bytes found.0) c.bytes.ensures.value found.1) in
    let some = subst (λ (piece : Option (List ℕ)). AreReadTo leaves pieces (c.args.leaf.now ∷ left) (piece ∷ rest) c.args.taken before) c.in-Some.is to in (
      before ++ read_parts c.args.taken found.0,
      leaves-some leaves pieces c.args.leaf.now left text rest c.args.taken before found.0 some fits,
      found.2 before are,
    )

pub returns-in-Some-clause-misfit : goal.returns-in-Some-clause-misfit
returns-in-Some-clause-misfit c = λ failed leaves left pieces rest before to.
    let text = c.in-Some.text in
    let some = subst (λ (piece : Option (List ℕ)). AreReadTo leaves pieces (c.args.leaf.now ∷ left) (piece ∷ rest) c.args.taken before) c.in-Some.is to in
    leaves-misfit leaves pieces c.args.leaf.now left text rest c.args.taken before some
    (λ own fits. c.fit_text.ensures.misfit failed own (subst (λ (items : List FormatItem). Fits items c.bytes.result.now own) (sym c.items.ensures) (subst (λ (bytes : List ℕ). Fits c.args.leaf.now.items bytes own) (sym c.bytes.ensures.value) fits)))
