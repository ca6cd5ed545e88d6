use Rattle.ga_logs.proofs.Batches.{on-ok, within-behind}
use Rattle.ga_logs.proofs.streams.count_taken.Goals as goal

pub returns-clause-within : goal.returns-clause-within
returns-clause-within g c =
    on-ok c.count_meanwhile.result.0 (within-behind c.lines_added.ensures c.args.crew.now.setup.now c.args.counting.now c.count_meanwhile.new.self c.args.taken.now) c.count_meanwhile.ensures.counted
