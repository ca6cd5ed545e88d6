use Rattle.std.proofs.Common.{◌≡◌, ◌-◌, false, take, get_or, sym, ap, ◌∙◌, subst, arith}
use Rattle.ga_conf.specs.ConfFile.{is_blank}
use Rattle.ga_conf.proofs.BlankLemmas.{drops}
use Rattle.ga_conf.proofs.blanks.before_blanks.Goals as goal
use Rattle.ga_conf.proofs.blanks.before_blanks.Goals.{then-loop-end-test+else-is_blank, else-loop-end-test}

pub returns : goal.returns
returns c =
    let whole : c.loop-end.end - 0 ≡ c.loop-end.end = omega arith in
    drops c.args.text.now c.range.result.now c.loop-end.end c.loop-end.invariant
    (elim c.loop-end-test.branch [
      | then-loop-end-test+else-is_blank w ↦ λ some.
          subst (λ text. is_blank (get_or text (c.loop-end.end - 1) 0) ≡ false) c.as_bytes-bytes.ensures.value (sym w.is_blank.ensures ∙ w.if-is_blank.false)
      | else-loop-end-test w ↦ λ some. absurd (omega arith)
    ])
    (c.range.ensures.value ∙ ap (λ n. take n c.args.text.now) whole)
