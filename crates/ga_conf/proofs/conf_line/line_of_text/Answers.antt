use Rattle.std.proofs.Common.{IsTrue, false, refl, sym, subst, inl}
use Rattle.ga_conf.specs.Steps.{BeginsNothing}
use Rattle.ga_conf.proofs.LineLemmas.{lives, passes_over, setting_found, trimmed}
use Rattle.ga_conf.proofs.conf_line.line_of_text.Goals as goal

pub returns-then-is_nothing : goal.returns-then-is_nothing
returns-then-is_nothing c =
    let text = c.before_blanks-text.result.now in
    passes_over c.args.line.now text (trimmed c.args.line.now c.after_blanks.result.now text c.after_blanks.ensures c.before_blanks-text.ensures)
    (subst BeginsNothing c.as_bytes.ensures.value (c.if-is_nothing.ensures.0 refl))

pub returns : goal.returns
returns c =
    let text = c.before_blanks-text.result.now in
    let trim = trimmed c.args.line.now c.after_blanks.result.now text c.after_blanks.ensures c.before_blanks-text.ensures in
    let none : BeginsNothing text → IsTrue false = λ nothing. c.if-is_nothing.ensures.1 (subst BeginsNothing (sym c.as_bytes.ensures.value) nothing) in (
      lives c.args.line.now text trim none,
      setting_found c.args.line.now text _ _ _ trim (λ empty. let clash : IsTrue false = none (inl empty) in cc) c.cut_at_blank.ensures c.after_blanks-2.ensures,
    )
