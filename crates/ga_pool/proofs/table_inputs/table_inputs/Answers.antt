use Rattle.ga_pool.proofs.table_inputs.table_inputs.Goals as goal

pub loop-tally-preserved : goal.loop-tally-preserved
loop-tally-preserved c = c.in_ok-add.ensures c.loop-tally.yielded c.loop-tally.invariant
