use Rattle.std.proofs.Common.{sym, ap, ◌∙◌}
use Rattle.std.proofs.lemmas.List.{append-nil}
use Rattle.std.specs.List.{position}
use Rattle.ga_conf.specs.Steps.{is_other}
use Rattle.ga_conf.proofs.BlankLemmas.{other_boundary, skips, skips_all}
use Rattle.ga_conf.proofs.blanks.after_blanks.Goals as goal

pub range_from-requires : goal.range_from-requires
range_from-requires c =
    λ some. other_boundary c.args.text.now c.in-Some.at c.utf8.text (ap (position is_other) (sym c.as_bytes.ensures.value) ∙ sym c.first_other.ensures ∙ c.in-Some.is)

pub returns-in-Some : goal.returns-in-Some
returns-in-Some c =
    skips c.args.text.now c.range_from.result.now c.in-Some.at (ap (position is_other) (sym c.as_bytes.ensures.value) ∙ sym c.first_other.ensures ∙ c.in-Some.is) c.range_from.ensures.value

pub returns-in-None : goal.returns-in-None
returns-in-None c =
    skips_all c.args.text.now (ap (position is_other) (sym c.as_bytes.ensures.value) ∙ sym c.first_other.ensures ∙ c.in-None.is) (sym (append-nil c.args.text.now))
