use Rattle.std.proofs.Common.{List, subst}
use Rattle.std.proofs.lemmas.Result.{IfOk-weaker}
use Rattle.ga_base.proofs.InPieces.{whole-of}
use Rattle.ga_base.specs.declared.panel.Panel.{Panel}
use Rattle.ga_report.specs.Items.{shown_rows}
use Rattle.ga_report.specs.Reports.{IsPanelList, Pairwise}
use Rattle.ga_report.proofs.Pairs.{pairs-both}
use Rattle.ga_report.proofs.reporting.lists_of.Goals as goal

pub returns : goal.returns
returns g c =
    let is = IsPanelList c.args.general.now c.args.shape.max_items (shown_rows c.args.shape.spec (g.T.RowSource.view c.args.source.now).rows) in
    IfOk-weaker c.map_pieces.result _ (λ lists. Pairwise is c.args.panels.now lists.items)
    (λ lists made. whole-of _ _ (Pairwise is) (λ panels lists call. subst (λ (ps : List Panel). Pairwise is ps lists.items) call.shows call.says.met) (pairs-both is) made) c.map_pieces.ensures
