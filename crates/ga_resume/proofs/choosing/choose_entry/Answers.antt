use Rattle.std.proofs.Common.{◌≤◌, sym, subst, length, List}
use Rattle.std.specs.List.{All}
use Rattle.ga_resume.specs.Steps.Choosing.{AreFitting, IsBest}
use Rattle.ga_resume.specs.declared.choosing.Candidate.{Candidate}
use Rattle.ga_resume.proofs.Choices.{lead-within, none-chosen, if-chosen}
use Rattle.ga_resume.proofs.choosing.choose_entry.Goals as goal

pub fitting_candidates-requires-clause-within : goal.fitting_candidates-requires-clause-within
fitting_candidates-requires-clause-within c =
    subst (λ (cs : List Candidate). All (λ (x : Candidate). x.entry.lead ≤ length c.args.front.now) cs) (sym c.deref.ensures.value)
    (lead-within c.args.entries.now c.args.front.now c.args.end _ _ c.requires c.in_ok-candidates.ensures c.by_offset-candidates.ensures.same)

pub returns-clause-none : goal.returns-clause-none
returns-clause-none c = λ none.
    let fitting = subst (λ (cs : List Candidate). AreFitting c.args.front.now cs (length cs) c.in_ok-fitting.fitting.items) c.deref.ensures.value c.in_ok-fitting.ensures in
    let best = subst (λ (fits : List Candidate). IsBest fits (length fits) c.best_candidate.result) c.deref-2.ensures.value c.best_candidate.ensures in
    none-chosen c.args.entries.now c.args.front.now c.args.end _ _ c.in_ok-fitting.fitting.items c.in_ok-candidates.ensures c.by_offset-candidates.ensures.same fitting
    (subst (IsBest c.in_ok-fitting.fitting.items (length c.in_ok-fitting.fitting.items)) none best)

pub returns-clause-some : goal.returns-clause-some
returns-clause-some c =
    let fitting = subst (λ (cs : List Candidate). AreFitting c.args.front.now cs (length cs) c.in_ok-fitting.fitting.items) c.deref.ensures.value c.in_ok-fitting.ensures in
    let best = subst (λ (fits : List Candidate). IsBest fits (length fits) c.best_candidate.result) c.deref-2.ensures.value c.best_candidate.ensures in
    if-chosen c.args.entries.now c.args.front.now c.args.end _ _ c.in_ok-fitting.fitting.items c.in_ok-candidates.ensures c.by_offset-candidates.ensures.same fitting c.best_candidate.result best
