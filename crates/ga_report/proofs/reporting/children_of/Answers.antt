use Rattle.std.proofs.lemmas.Result.{IfOk-weaker}
use Rattle.std.proofs.Common.{List, map, ◌≡◌}
use Rattle.ga_report.specs.Reports.{AreChildren, shown_as}
use Rattle.ga_report.specs.Steps.Summed.{AreSummed, panel_rows, undate}
use Rattle.ga_report.specs.Source.{SourceRow}
use Rattle.ga_report.proofs.Pairs.{children-are}
use Rattle.ga_report.proofs.reporting.children_of.Goals as goal

pub shown_items-requires : goal.shown_items-requires
shown_items-requires c = rw c.deref.ensures.value (c.in_ok-entries.ensures.parts c.args.general.now c.requires.parts)

pub returns : goal.returns
returns c =
    IfOk-weaker c.shown_items.result (λ shown. shown ≡ map (shown_as c.args.general.now) c.deref.result.now)
    (λ children. (source : List SourceRow) → AreSummed (panel_rows c.args.top.now.key.panel source) c.args.items.now → AreChildren c.args.general.now c.args.max_items source (undate c.args.top.now) children)
    (λ children is source are. children-are c.args.general.now c.args.max_items source c.args.top.now c.in_ok-entries.entries.items c.deref.result.now children
    c.deref.ensures.value is (c.in_ok-entries.ensures.items source are)) c.shown_items.ensures
