use Rattle.std.proofs.Common.{◌≡◌, ◌∙◌, All, List, ap, filter, map, refl, subst}
use Rattle.std.proofs.lemmas.Result.{IfOk-weaker}
use Rattle.ga_base.specs.declared.key.Key.{Key}
use Rattle.ga_base.specs.declared.panel.Panel.{Panel}
use Rattle.ga_report.specs.declared.report.General.{General}
use Rattle.ga_report.specs.Items.{is_child, order}
use Rattle.ga_report.specs.Steps.Summed.{AreFirst, AreSummed, AreTop, IsPart, panel_rows, undate}
use Rattle.ga_report.specs.Source.{SourceRow}
use Rattle.ga_report.proofs.Arrangement.{entries-inside}
use Rattle.ga_report.proofs.Firsts.{all-first-of, are-top}
use Rattle.ga_report.proofs.arranging.entries_of.Goals as goal

among : (c : goal.After-top_items) → c.in_ok-rows.rows.items ≡ filter (λ item. is_child c.args.group.now.key item.key) c.args.items.now
among c =
    c.in_ok-rows.ensures ∙ c.slice_of_group.ensures ∙ ap (λ (g : Key). filter (λ (item : SourceRow). is_child g item.key) c.args.items.now) c.name-name.ensures

same-panel : (c : goal.After-top_items) → c.panel.result ≡ c.args.group.now.key.panel
same-panel c = c.panel.ensures ∙ ap (λ (k : Key). k.panel) c.name-name.ensures

pub returns-clause-items : goal.returns-clause-items
returns-clause-items c =
    let group = c.args.group.now.key in
    IfOk-weaker c.top_items.result (λ rows. AreFirst (order c.panel.result) c.args.most c.in_ok-rows.rows.items rows.items)
    (λ rows. (source : List SourceRow) → AreSummed (panel_rows group.panel source) c.args.items.now → AreTop group.panel (is_child group) c.args.most source (map undate rows.items))
    (λ rows first source are. are-top group.panel (is_child group) (λ key. refl) (entries-inside group) c.args.most source c.args.items.now c.in_ok-rows.rows.items rows.items (among c)
    (subst (λ (p : Panel). AreFirst (order p) c.args.most c.in_ok-rows.rows.items rows.items) (same-panel c) first) are) c.top_items.ensures

pub returns-clause-parts : goal.returns-clause-parts
returns-clause-parts c =
    IfOk-weaker c.top_items.result (λ rows. AreFirst (order c.panel.result) c.args.most c.in_ok-rows.rows.items rows.items)
    (λ rows. (general : General) → All (IsPart general) c.args.items.now → All (IsPart general) rows.items)
    (λ rows first general. all-first-of (IsPart general) c.panel.result (λ item. is_child c.args.group.now.key item.key) c.args.most c.args.items.now c.in_ok-rows.rows.items rows.items (among c) first) c.top_items.ensures
