use Rattle.std.proofs.Common.{sym, ◌∙◌, subst, arith}
use Rattle.std.proofs.lemmas.Bool.{false≢true}
use Rattle.ga_line.specs.Records.{misfit, refused}
use Rattle.ga_line.specs.Views.{StandsInLine, record_of}
use Rattle.ga_line.proofs.ShapeLemmas.{FitsShape-unique, pieces-at}
use Rattle.ga_line.proofs.AcceptLemmas.{accepted-line}
use Rattle.ga_line.proofs.ReadLemmas.{says-record}
use Rattle.ga_line.proofs.line_reading.read_view.Goals as goal

pub returns-then-not-fit_shape-clause-says : goal.returns-then-not-fit_shape-clause-says
returns-then-not-fit_shape-clause-says c = (
  λ passed. false≢true (sym c.if-is_passed_over.false ∙ c.is_passed_over.ensures.1 passed),
  misfit (λ parts fits. c.fit_shape.ensures.misfit c.if-not-fit_shape.true parts fits),
)

pub returns-in-None-clause-says : goal.returns-in-None-clause-says
returns-in-None-clause-says c =
    let fits = c.fit_shape.ensures.fits c.if-not-fit_shape.false in (
      λ passed. false≢true (sym c.if-is_passed_over.false ∙ c.is_passed_over.ensures.1 passed),
      refused fits.0 fits.1 (c.in-None.ensures.refused fits.0 fits.2),
    )

pub returns-in_ok-view_of-in-Some-clause-says : goal.returns-in_ok-view_of-in-Some-clause-says
returns-in_ok-view_of-in-Some-clause-says c =
    let fits = c.fit_shape.ensures.fits c.if-not-fit_shape.false in
    let setup = c.args.setup.now in
    let line = c.args.line.now in
    let all = fits.1 in
    let has = c.in-Some.ensures.found fits.0 fits.2 in
    says-record setup line fits.0 c.in-Some.numbers _
    (λ passed. false≢true (sym c.if-is_passed_over.false ∙ c.is_passed_over.ensures.1 passed)) (accepted-line setup line fits.0 c.if-line-gt-MAX_LINE.false all has.accepted) all has
    c.in_ok-view_of-in-Some.ensures.numbers (c.in_ok-view_of-in-Some.ensures.texts fits.0 fits.2)

pub returns-in_ok-view_of-in-Some-clause-bounds : goal.returns-in_ok-view_of-in-Some-clause-bounds
returns-in_ok-view_of-in-Some-clause-bounds c =
    c.records_keep_bounds.ensures c.args.line.now (record_of c.in_ok-view_of-in-Some.field-0) (returns-in_ok-view_of-in-Some-clause-says c)

pub returns-in_err-view_of-in-Some-clause-lends : goal.returns-in_err-view_of-in-Some-clause-lends
returns-in_err-view_of-in-Some-clause-lends c = λ parts given stands.
    let fits = c.fit_shape.ensures.fits c.if-not-fit_shape.false in
    let setup = c.args.setup.now in
    let line = c.args.line.now in
    let all = fits.1 in
    let same = FitsShape-unique setup.format line parts fits.0 given all in
    absurd (false≢true (c.in_err-view_of-in-Some.ensures.lends fits.0 fits.2 (subst (StandsInLine setup) same stands)))

pub fit_shape-requires-clause-pieces : goal.fit_shape-requires-clause-pieces
fit_shape-requires-clause-pieces c =
    pieces-at c.args.setup.now.format c.args.line.now c.args.pieces.now c.requires
    (λ passed. false≢true (sym c.if-is_passed_over.false ∙ c.is_passed_over.ensures.1 passed)) (omega (arith, c.if-line-gt-MAX_LINE.false))
