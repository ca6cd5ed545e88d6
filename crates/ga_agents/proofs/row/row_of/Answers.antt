use Rattle.std.proofs.Common.{List, MatchOption, sym, subst}
use Rattle.ga_agents.specs.declared.row.Rule.{Rule}
use Rattle.ga_agents.specs.RulesFile.{LineGives}
use Rattle.ga_agents.specs.Steps.{rules_of_row}
use Rattle.ga_agents.proofs.CutLemmas.{nothing_given, uncut_spells_none, bad_token_spells_none, bad_category_spells_none}
use Rattle.ga_agents.proofs.row.row_of.Goals as goal

pub returns-in_err-token : goal.returns-in_err-token
returns-in_err-token c =
    let line = c.args.line.now in
    subst (λ r. MatchOption r ((given : List Rule) → ¬ LineGives line given) (λ row. LineGives line (rules_of_row row))) (sym c.from_residual.ensures)
    (nothing_given line c.if-is_passed_over.ensures.1 (uncut_spells_none line c.in_err-token.ensures))

pub returns-in_err-part : goal.returns-in_err-part
returns-in_err-part c =
    let line = c.args.line.now in
    subst (λ r. MatchOption r ((given : List Rule) → ¬ LineGives line given) (λ row. LineGives line (rules_of_row row))) (sym c.from_residual-in_err-part.ensures)
    (nothing_given line c.if-is_passed_over.ensures.1 (bad_token_spells_none line _ _ c.in_ok-token.ensures c.in_err-part.ensures))

pub returns-in_err-part-2 : goal.returns-in_err-part-2
returns-in_err-part-2 c =
    let line = c.args.line.now in
    subst (λ r. MatchOption r ((given : List Rule) → ¬ LineGives line given) (λ row. LineGives line (rules_of_row row))) (sym c.from_residual-in_err-part-2.ensures)
    (nothing_given line c.if-is_passed_over.ensures.1 (bad_category_spells_none line _ _ c.in_ok-token.ensures c.in_err-part-2.ensures))
