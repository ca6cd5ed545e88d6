use Rattle.std.proofs.Common.{◌≡◌, ◌-◌, take, sym, ap, ◌∙◌, arith}
use Rattle.std.proofs.lemmas.List.{append-nil}
use Rattle.std.specs.List.{position}
use Rattle.ga_conf.specs.ConfFile.{is_blank}
use Rattle.ga_conf.proofs.BlankLemmas.{blank_boundary, cut_there, cut_nowhere}
use Rattle.ga_conf.proofs.blanks.cut_at_blank.Goals as goal

pub range-requires-clause-end_boundary : goal.range-requires-clause-end_boundary
range-requires-clause-end_boundary c =
    blank_boundary c.args.text.now c.in-Some.at (ap (position is_blank) (sym c.as_bytes.ensures.value) ∙ sym c.first_blank.ensures ∙ c.in-Some.is)

pub range_from-requires : goal.range_from-requires
range_from-requires c =
    λ some. blank_boundary c.args.text.now c.in-Some.at (ap (position is_blank) (sym c.as_bytes.ensures.value) ∙ sym c.first_blank.ensures ∙ c.in-Some.is)

pub returns-in-Some : goal.returns-in-Some
returns-in-Some c =
    cut_there c.args.text.now c.range.result.now c.range_from.result.now c.in-Some.at (ap (position is_blank) (sym c.as_bytes.ensures.value) ∙ sym c.first_blank.ensures ∙ c.in-Some.is)
    (c.range.ensures.value ∙ (let whole : c.in-Some.at - 0 ≡ c.in-Some.at = omega arith in ap (λ n. take n c.args.text.now) whole)) c.range_from.ensures.value

pub returns-in-None : goal.returns-in-None
returns-in-None c =
    cut_nowhere c.args.text.now (ap (position is_blank) (sym c.as_bytes.ensures.value) ∙ sym c.first_blank.ensures ∙ c.in-None.is) (sym (append-nil c.args.text.now))
