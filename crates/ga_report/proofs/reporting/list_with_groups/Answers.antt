use Rattle.std.proofs.Common.{◌≡◌, All}
use Rattle.std.proofs.lemmas.List.Sorted.{All-permutation}
use Rattle.ga_report.specs.Steps.Summed.{IsPart, panel_rows}
use Rattle.ga_report.proofs.Pairs.{panel-is}
use Rattle.ga_report.proofs.RowsAdded.{summed-as, summed-each}
use Rattle.ga_report.proofs.reporting.list_with_groups.Goals as goal

pub row_list-requires-clause-parts : goal.row_list-requires-clause-parts
row_list-requires-clause-parts c = rw c.deref-2.ensures.value (All-permutation (IsPart c.args.general.now) c.args.items.items c.sort_by_group-items.result.items c.sort_by_group-items.ensures.same c.requires.parts)

pub row_list-requires-clause-tops : goal.row_list-requires-clause-tops
row_list-requires-clause-tops c =
    rw c.deref-3.ensures.value (c.in_ok-tops.ensures.parts c.args.general.now
    (rw c.deref.ensures.value (All-permutation (IsPart c.args.general.now) c.args.items.items c.sort_by_group-items.result.items c.sort_by_group-items.ensures.same c.requires.parts)))

pub returns : goal.returns
returns c = λ source are.
    let panel = c.args.panel in
    let sorted = c.sort_by_group-items.result.items in
    let own : All (λ top. top.key.panel ≡ panel) c.in_ok-tops.tops.items = c.in_ok-tops.ensures.panel
    (rw c.deref.ensures.value (All-permutation (λ item. item.key.panel ≡ panel) c.args.items.items sorted c.sort_by_group-items.ensures.same c.requires.panel)) in
    let summed = summed-as (panel_rows panel source) c.args.items.items sorted are c.sort_by_group-items.ensures.same in
    panel-is c.args.general.now c.args.max_items source panel c.in_ok-tops.tops.items c.deref-3.result.now c.in_ok-rows.rows c.deref-3.ensures.value
    (c.in_ok-rows.ensures source (rw (c.deref-2.ensures.value, c.deref-3.ensures.value) (summed-each panel source sorted c.in_ok-tops.tops.items own summed)))
    (c.in_ok-tops.ensures.items source (rw c.deref.ensures.value summed))
