use Rattle.std.proofs.Common.{List, refl, sym, subst}
use Rattle.std.proofs.lemmas.Result.{IfOk-weaker}
use Rattle.ga_summary.specs.Outcomes.{Outcome}
use Rattle.ga_summary.specs.SummaryParts.{rows_in}
use Rattle.ga_summary.specs.SummaryRows.{SummaryValue}
use Rattle.ga_summary.specs.Sound.{AllCountable, IsSummary}
use Rattle.ga_summary.specs.Sums.{IsSumOf}
use Rattle.ga_summary.specs.declared.summary_parts.PartRow.{PartRow}
use Rattle.ga_tallies.specs.Tallies.{IsTallyOf, lists_in, pairs_in}
use Rattle.ga_totals.specs.Steps.KeyRows.{AreRowsOf}
use Rattle.ga_totals.proofs.OfOutcomes.{rows-within}
use Rattle.ga_totals.proofs.Summing.{are-sum, are-summary}
use Rattle.ga_totals.proofs.total.Total.summary.Goals as goal

pub rows_of-requires-clause-within : goal.rows_of-requires-clause-within
rows_of-requires-clause-within c =
    let is = subst (IsTallyOf c.requires.outcomes) (sym c.self.view_is) c.requires.tally in
    rw (c.deref-3.ensures.value, c.deref-4.ensures.value, c.in_ok-visitors.ensures.value) (rows-within c.requires.outcomes _ (lists_in c.self.inside.parts.visits.items) is refl)

pub of_parts-requires : goal.of_parts-requires
of_parts-requires c =
    let inside = c.self.inside.parts in
    let rows = rows_in c.in_ok-rows.rows.items in
    let is = subst (IsTallyOf c.requires.outcomes) (sym c.self.view_is) c.requires.tally in
    let are : AreRowsOf inside.keys inside.sums.items inside.visitors (pairs_in (lists_in inside.visits.items)) rows =
    rw (c.deref.ensures.value, c.deref-2.ensures.value, c.deref-3.ensures.value, c.deref-4.ensures.value, c.in_ok-keys.ensures.value, c.in_ok-visitors.ensures.value) at c.in_ok-rows.ensures in
    subst (λ (parts : List PartRow). IsSummary (record { totals = inside.totals; rows = rows_in parts })) (sym c.from.ensures)
    (are-summary c.requires.outcomes _ rows is c.requires.countable are c.self.invariant)

pub returns : goal.returns
returns c =
    let inside = c.self.inside.parts in
    let rows = rows_in c.in_ok-rows.rows.items in
    let are : AreRowsOf inside.keys inside.sums.items inside.visitors (pairs_in (lists_in inside.visits.items)) rows =
    rw (c.deref.ensures.value, c.deref-2.ensures.value, c.deref-3.ensures.value, c.deref-4.ensures.value, c.in_ok-keys.ensures.value, c.in_ok-visitors.ensures.value) at c.in_ok-rows.ensures in
    let made = λ (xs : List Outcome) (tally : IsTallyOf xs c.args.self.now) (can : AllCountable xs).
    subst (λ (parts : List PartRow). IsSumOf xs (record { totals = inside.totals; rows = rows_in parts })) (sym c.from.ensures)
    (are-sum xs _ rows (subst (IsTallyOf xs) (sym c.self.view_is) tally) can are) in
    IfOk-weaker c.of_parts.result _ (λ (sum : SummaryValue). (xs : List Outcome) → IsTallyOf xs c.args.self.now → AllCountable xs → IsSumOf xs sum)
    (λ sum e xs tally can. subst (IsSumOf xs) (sym e) (made xs tally can)) c.of_parts.ensures
