use Rattle.ga_dbtool.proofs.Showing.{shows-all, shows-front}
use Rattle.ga_dbtool.proofs.run.show.Goals as goal

pub returns-in-Ok-clause-shows : goal.returns-in-Ok-clause-shows
returns-in-Ok-clause-shows g c = shows-all c.args.text.now (g.O.Outs.view c.args.outs.now) (g.O.Outs.view c.print.new.outs) c.in-Ok.ensures.prints.ok

pub returns-in-Err-clause-shows : goal.returns-in-Err-clause-shows
returns-in-Err-clause-shows g c =
    shows-front c.args.text.now c.in-Err.at (g.O.Outs.view c.args.outs.now) (g.O.Outs.view c.print.new.outs) c.in-Err.ensures.prints.failed c.print.ensures.prints.others
