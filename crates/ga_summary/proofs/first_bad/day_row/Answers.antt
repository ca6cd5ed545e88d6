use Rattle.ga_base.specs.Layers.{day_key}
use Rattle.ga_summary.proofs.DayRows.{part_found, part_missing}
use Rattle.ga_summary.proofs.first_bad.day_row.Goals as goal

pub returns-in-Ok : goal.returns-in-Ok
returns-in-Ok c = part_found c.args.rows.now (day_key c.args.date) c.in-Ok.at c.index-rows-at.result c.in-Ok.ensures c.index-rows-at.is

pub returns-in-Err : goal.returns-in-Err
returns-in-Err c = part_missing c.args.rows.now (day_key c.args.date) c.in-Err.field-0 c.requires.rising c.in-Err.ensures
