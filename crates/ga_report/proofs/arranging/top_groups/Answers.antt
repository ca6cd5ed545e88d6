use Rattle.std.proofs.Common.{◌≡◌, All, List, map, refl}
use Rattle.std.proofs.lemmas.Result.{IfOk-weaker}
use Rattle.ga_report.specs.declared.report.General.{General}
use Rattle.ga_report.specs.Items.{is_row, order}
use Rattle.ga_report.specs.Steps.Summed.{AreFirst, AreSummed, AreTop, IsPart, panel_rows, undate}
use Rattle.ga_report.specs.Source.{SourceRow}
use Rattle.ga_report.proofs.Arrangement.{rows-inside}
use Rattle.ga_report.proofs.Firsts.{all-first-of, are-top}
use Rattle.ga_report.proofs.arranging.top_groups.Goals as goal

pub returns-clause-items : goal.returns-clause-items
returns-clause-items c =
    let panel = c.args.panel in
    IfOk-weaker c.top_items.result (λ rows. AreFirst (order panel) c.args.most c.in_ok-rows.rows.items rows.items)
    (λ rows. (source : List SourceRow) → AreSummed (panel_rows panel source) c.args.items.now → AreTop panel (is_row panel) c.args.most source (map undate rows.items))
    (λ rows first source are. are-top panel (is_row panel) (λ key. refl) (rows-inside panel) c.args.most source c.args.items.now c.in_ok-rows.rows.items rows.items c.in_ok-rows.ensures first are) c.top_items.ensures

pub returns-clause-panel : goal.returns-clause-panel
returns-clause-panel c =
    let panel = c.args.panel in
    IfOk-weaker c.top_items.result (λ rows. AreFirst (order panel) c.args.most c.in_ok-rows.rows.items rows.items)
    (λ rows. All (λ item. item.key.panel ≡ panel) c.args.items.now → All (λ item. item.key.panel ≡ panel) rows.items)
    (λ rows first. all-first-of (λ item. item.key.panel ≡ panel) panel (λ item. is_row panel item.key) c.args.most c.args.items.now c.in_ok-rows.rows.items rows.items c.in_ok-rows.ensures first) c.top_items.ensures

pub returns-clause-parts : goal.returns-clause-parts
returns-clause-parts c =
    let panel = c.args.panel in
    IfOk-weaker c.top_items.result (λ rows. AreFirst (order panel) c.args.most c.in_ok-rows.rows.items rows.items)
    (λ rows. (general : General) → All (IsPart general) c.args.items.now → All (IsPart general) rows.items)
    (λ rows first general. all-first-of (IsPart general) panel (λ item. is_row panel item.key) c.args.most c.args.items.now c.in_ok-rows.rows.items rows.items c.in_ok-rows.ensures first) c.top_items.ensures
