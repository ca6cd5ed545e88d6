use Rattle.std.proofs.Common.{◌≡◌, length, drop, ap, sym, ◌∙◌, arith}
use Rattle.std.proofs.lemmas.List.{take_at}
use Rattle.ga_tallies.specs.Tallies.{lists_in}
use Rattle.ga_totals.specs.Steps.Visits.{counts_of}
use Rattle.ga_totals.proofs.Parts.{are-visits, counts-parts}
use Rattle.ga_totals.proofs.visits.visits_in_parts.Goals as goal

pub returns : goal.returns
returns g c =
    let rows = lists_in c.args.rows.now in
    let zeros = c.in_ok-visits.visits in
    let visits = c.change_parts.new.items in
    let many : length c.deref_mut.result.now ≡ c.args.keys = omega (arith, c.deref_mut.ensures.len, c.in_ok-visits.ensures.len) in
    let full : length visits ≡ zeros.len = omega (arith, c.change_parts.auto.items, c.deref_mut.ensures.len) in
    let back = take_at visits (drop (length visits) zeros.items) zeros.len full in
    let counted : visits ≡ counts_of rows 0 c.args.keys =
    counts-parts _ _ rows (λ first xs ys call. sym call.leaves ∙ call.call ∙ ap (λ l. counts_of rows first (length l)) call.shows) c.in_ok-change_parts.ensures ∙ ap (counts_of rows 0) many in
    are-visits rows c.args.keys _ (back ∙ counted)
