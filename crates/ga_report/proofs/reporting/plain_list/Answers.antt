use Rattle.std.proofs.Common.{refl}
use Rattle.std.proofs.lemmas.List.Elements.{recursion_from_All}
use Rattle.ga_report.specs.Items.{is_row}
use Rattle.ga_report.proofs.Arrangement.{all-rows, rows-inside}
use Rattle.ga_report.proofs.Firsts.{are-top}
use Rattle.ga_report.proofs.PanelItems.{are-of-panel}
use Rattle.ga_report.proofs.Pairs.{panel-is}
use Rattle.ga_report.proofs.reporting.plain_list.Goals as goal

pub returns : goal.returns
returns c = λ most source items are first.
    let panel = c.args.panel in
    let tops = c.args.tops.now in
    panel-is c.args.general.now most source panel tops tops c.in_ok-rows.rows refl (c.in_ok-rows.ensures most source)
    (are-top panel (is_row panel) (λ key. refl) (rows-inside panel) most source items items tops
    (all-rows panel c.requires.plain items (recursion_from_All _ items (are-of-panel panel source items are))) first are)
