use Rattle.std.proofs.Common.{Bool, ◌++◌, sym, subst}
use Rattle.ga_line.specs.Shapes.{read_parts}
use Rattle.ga_line.specs.Steps.Fitting.{AreNoted}
use Rattle.ga_line.proofs.shapes.fit_text.Goals as goal

pub returns-then-not-taken-clause-fits : goal.returns-then-not-taken-clause-fits
returns-then-not-taken-clause-fits c = λ fitted.
    let found = c.fit.ensures.fits fitted in
    (found.0, found.1, λ before are. subst (λ (taken : Bool). AreNoted (before ++ read_parts taken found.0) c.fit.new.fields) (sym c.if-not-taken.true) (found.2 before are))

pub returns-clause-fits : goal.returns-clause-fits
returns-clause-fits c = λ fitted.
    let found = c.fit-2.ensures.fits c.if-not-fit.false in (
      found.0,
      found.1,
      λ before are. subst (λ (taken : Bool). AreNoted (before ++ read_parts taken found.0) c.keep_taken.new.self) (sym c.if-not-taken.false)
          (c.keep_taken.ensures before found.0 (found.2 before are) (c.taken-first.ensures before are)),
    )
