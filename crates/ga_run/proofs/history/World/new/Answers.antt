use Rattle.ga_run.proofs.Blank.{blank}
use Rattle.ga_run.proofs.history.World.new.Goals as goal

pub returns : goal.returns
returns c = blank _ c.new-files.ensures c.new-disk.ensures c.new-outs.ensures
