use Rattle.ga_pool.specs.Steps.TableInputs.{AreParts}
use Rattle.ga_pool.proofs.table_inputs.table_inputs.Given as goal

abbrev pub invariant-loop-tally : goal.invariant-loop-tally
invariant-loop-tally l = AreParts l.yielded l.inputs
