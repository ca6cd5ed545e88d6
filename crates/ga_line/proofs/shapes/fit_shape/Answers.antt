use Rattle.std.proofs.Common.{ℕ, List, Option, [], length, sym, ap, subst, ◌∙◌}
use Rattle.ga_jsonlog.specs.declared.leaf.JsonLeaf.{JsonLeaf}
use Rattle.ga_jsonlog.specs.declared.pieces.Pieces.TheVariants.{Leaves, NoObject}
use Rattle.ga_jsonlog.proofs.PieceLemmas.{many-texts}
use Rattle.ga_base.specs.declared.formats.FormatItem.{FormatItem}
use Rattle.ga_line.specs.declared.setup.Shape.{Shape}
use Rattle.ga_line.specs.Fits.{Fits}
use Rattle.ga_line.specs.Shapes.{FitsLeaves, FitsShape}
use Rattle.ga_line.proofs.ShapeLemmas.{as-pieces, no-object-misfit, pieces-misfit}
use Rattle.ga_line.proofs.shapes.fit_shape.Goals as goal

pub returns-in-Plain-clause-fits : goal.returns-in-Plain-clause-fits
returns-in-Plain-clause-fits c = λ fitted.
    let found = c.fit.ensures.fits fitted in
    let fits = subst (λ (items : List FormatItem). Fits items c.args.line.now found.0) c.items.ensures.value found.1 in
    (found.0, subst (λ (shape : Shape). FitsShape shape c.args.line.now found.0) (sym c.in-Plain.is) fits, found.2 [] c.requires.none)

pub returns-in-Plain-clause-misfit : goal.returns-in-Plain-clause-misfit
returns-in-Plain-clause-misfit c = λ failed parts fits.
    let plain = subst (λ (shape : Shape). FitsShape shape c.args.line.now parts) c.in-Plain.is fits in
    c.fit.ensures.misfit failed parts (subst (λ (items : List FormatItem). Fits items c.args.line.now parts) (sym c.items.ensures.value) plain)

pub returns-in-NoObject-clause-misfit : goal.returns-in-NoObject-clause-misfit
returns-in-NoObject-clause-misfit c = λ failed parts fits.
    let none = as-pieces c.args.shape.now c.in-Json.format c.args.line.now c.args.pieces.now NoObject c.in-Json.is c.in-NoObject.is c.requires.pieces in
    no-object-misfit c.in-Json.format c.args.line.now none parts (subst (λ (shape : Shape). FitsShape shape c.args.line.now parts) c.in-Json.is fits)

pub fit_leaves-requires-clause-many : goal.fit_leaves-requires-clause-many
fit_leaves-requires-clause-many c =
    let has = as-pieces c.args.shape.now c.in-Json.format c.args.line.now c.args.pieces.now (Leaves c.in-Leaves.texts) c.in-Json.is c.in-Leaves.is c.requires.pieces in
    ap length c.items-in-Leaves.ensures ∙ (many-texts c.in-Json.format c.args.line.now c.in-Leaves.texts has ∙ ap length (sym c.leaves.ensures))

pub returns-in-Leaves-clause-fits : goal.returns-in-Leaves-clause-fits
returns-in-Leaves-clause-fits c = λ fitted.
    let has = as-pieces c.args.shape.now c.in-Json.format c.args.line.now c.args.pieces.now (Leaves c.in-Leaves.texts) c.in-Json.is c.in-Leaves.is c.requires.pieces in
    let found = c.fit_leaves.ensures.fits fitted in
    let fits = subst (λ (leaves : List JsonLeaf). FitsLeaves leaves c.in-Leaves.texts found.0) c.leaves.ensures (subst (λ (texts : List (Option (List ℕ))). FitsLeaves c.leaves.result.now texts found.0) c.items-in-Leaves.ensures found.1) in
    (found.0, subst (λ (shape : Shape). FitsShape shape c.args.line.now found.0) (sym c.in-Json.is) (c.in-Leaves.texts, has, fits), found.2)

pub returns-in-Leaves-clause-misfit : goal.returns-in-Leaves-clause-misfit
returns-in-Leaves-clause-misfit c = λ failed parts fits.
    let has = as-pieces c.args.shape.now c.in-Json.format c.args.line.now c.args.pieces.now (Leaves c.in-Leaves.texts) c.in-Json.is c.in-Leaves.is c.requires.pieces in
    pieces-misfit c.in-Json.format c.args.line.now c.in-Leaves.texts has
    (λ others f. c.fit_leaves.ensures.misfit failed others
    (subst (λ (leaves : List JsonLeaf). FitsLeaves leaves c.items-in-Leaves.result.now others) (sym c.leaves.ensures)
    (subst (λ (texts : List (Option (List ℕ))). FitsLeaves c.in-Json.format texts others) (sym c.items-in-Leaves.ensures) f)))
    parts (subst (λ (shape : Shape). FitsShape shape c.args.line.now parts) c.in-Json.is fits)
