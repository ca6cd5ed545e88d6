use Rattle.std.proofs.Common.{ℕ, ◌<◌, ◌∙◌, List, length, sym, ap, subst}
use Rattle.std.specs.Prelude.{slice_get}
use Rattle.std.specs.List.{All}
use Rattle.std.proofs.lemmas.Option.{slice_get-get_or}
use Rattle.ga_base.specs.declared.name.Name.{Name}
use Rattle.ga_tallies.specs.Tallies.{lists_in}
use Rattle.ga_totals.specs.Steps.KeyRows.{AreNamesOf, visitors_at}
use Rattle.ga_totals.proofs.KeyRows.{row-is, same_key, within-at}
use Rattle.ga_totals.proofs.part_rows.row_of.Goals as goal

pub names_of-requires : goal.names_of-requires
names_of-requires c =
    let visitors = length c.args.visitors.now in
    subst (All (λ v. v < visitors)) (sym c.row_at.ensures) (within-at visitors (lists_in c.args.visits.now) c.number.result c.requires.within)

pub returns : goal.returns
returns c =
    let number = c.args.entry.now.number in
    let visits = lists_in c.args.visits.now in
    let row = c.row_at.ensures ∙ ap (visitors_at visits) c.number.ensures in
    let key = same_key c.in_ok-clone.field-0 c.key.result.now c.in_ok-clone.ensures.cases ∙ c.key.ensures in
    let at = ap (λ n. slice_get c.args.sums.now n) (sym c.number-2.ensures) ∙ slice_get-get_or c.args.sums.now c.number-2.result (record { hits = 0; bytes = 0; micros = 0; max_micros = 0 }) (subst (λ n. n < length c.args.sums.now) (sym c.number-2.ensures) c.requires.many) in
    let names = subst (λ (l : List ℕ). AreNamesOf c.args.visitors.now l c.from.result) row (subst (λ (l : List Name). AreNamesOf c.args.visitors.now c.row_at.result.now l) (sym c.from.ensures) c.in_ok-names.ensures) in
    row-is c.args.entry.now c.args.sums.now c.args.visitors.now visits _ key at names
