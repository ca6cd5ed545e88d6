use Rattle.std.proofs.Common.{ℕ, ◌+◌, ◌-◌, List, length, take, drop, MatchOption, refl, sym, ◌∙◌, subst}
use Rattle.std.proofs.lemmas.List.{take_rest}
use Rattle.ga_agents.specs.Steps.{IsCut}
use Rattle.ga_agents.proofs.CutLemmas.{no_tab_no_cut, only_tabs_no_cut, cut_found}
use Rattle.ga_agents.proofs.row.cut.Goals as goal

pub returns-in_err-end : goal.returns-in_err-end
returns-in_err-end c =
    subst (λ r. MatchOption r ((token category : List ℕ) → ¬ IsCut c.args.line.now token category) (λ parts. IsCut c.args.line.now parts.0.now parts.1.now)) (sym c.from_residual.ensures)
    (no_tab_no_cut c.args.line.now c.in_err-end.ensures)

pub returns-in_err-tabs : goal.returns-in_err-tabs
returns-in_err-tabs c =
    let line = c.args.line.now in
    subst (λ r. MatchOption r ((token category : List ℕ) → ¬ IsCut line token category) (λ parts. IsCut line parts.0.now parts.1.now)) (sym c.from_residual-in_err-tabs.ensures)
    (only_tabs_no_cut line _ c.in_ok-end.end c.in_ok-end.ensures (take_rest line (c.in_ok-end.end + 1)) (sym c.first_other.ensures ∙ c.in_err-tabs.was))

pub returns : goal.returns
returns c =
    let line = c.args.line.now in
    let rest = take (length line - (c.in_ok-end.end + 1)) (drop (c.in_ok-end.end + 1) line) in
    cut_found line rest _ _ c.in_ok-end.end c.in_ok-tabs.tabs c.in_ok-end.ensures (take_rest line (c.in_ok-end.end + 1)) (sym c.first_other.ensures ∙ c.in_ok-tabs.was) refl (take_rest rest c.in_ok-tabs.tabs)
