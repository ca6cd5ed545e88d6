use Rattle.std.proofs.Common.{◌+◌, length, drop, sym, ap, ◌∙◌, arith}
use Rattle.std.proofs.lemmas.List.{take_rest}
use Rattle.ga_agents.proofs.ClassLemmas.{cut_at_delimiter, text_until}
use Rattle.ga_agents.proofs.classes.browser_text.Goals as goal

pub range-requires-clause-end_boundary : goal.range-requires-clause-end_boundary
range-requires-clause-end_boundary c =
    let end = c.args.at + length c.args.token.now in
    cut_at_delimiter c.args.agent.now _ end c.in-Some.more c.requires.within (take_rest c.as_bytes.result.now end ∙ ap (drop end) c.as_bytes.ensures.value)
    (sym c.first_delimiter.ensures ∙ c.in-Some.is)

pub returns-in-Some : goal.returns-in-Some
returns-in-Some c = let v = c.range.ensures.value in
    let end = c.args.at + length c.args.token.now in
    c.range.ensures.value
    ∙ text_until c.args.token.now c.args.agent.now _ c.args.at c.in-Some.more _ c.requires (take_rest c.as_bytes.result.now end ∙ ap (drop end) c.as_bytes.ensures.value)
    (sym c.first_delimiter.ensures ∙ c.in-Some.is) (omega arith)
