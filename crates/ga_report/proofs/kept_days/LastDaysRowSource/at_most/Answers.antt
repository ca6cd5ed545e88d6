use Rattle.std.proofs.Common.{ap, arith}
use Rattle.std.specs.Prelude.{count_by}
use Rattle.ga_base.specs.Panels.{is_same_panel}
use Rattle.ga_report.specs.LastDays.{is_among_last}
use Rattle.ga_report.specs.Source.{SourceRow, SourceValue}
use Rattle.ga_report.proofs.LastRows.{count-left}
use Rattle.ga_report.proofs.kept_days.LastDaysRowSource.at_most.Goals as goal

pub returns : goal.returns
returns g c =
    let inside = c.self.inside in
    let rows = (g.T.RowSource.view inside.source.now).rows in
    let panel = c.args.panel in
    let fewer = count-left (λ (row : SourceRow). is_same_panel row.key.panel panel) (λ (row : SourceRow). is_among_last inside.keep rows row.key.date) rows in
    omega (arith, fewer, ap (λ (source : SourceValue). count_by (λ row. is_same_panel row.key.panel panel) source.rows) c.self.view_is, c.at_most.ensures)
