use Rattle.ga_numbers.specs.Steps.ShardRows.{AreMade, is_same_row}
use Rattle.ga_numbers.specs.Steps.Three.{AllThree}
use Rattle.ga_numbers.specs.Steps.VisitorRows.{IsAgent, visitors_in}
use Rattle.ga_numbers.proofs.visitor_numbers.agents_and_rows.Given as goal

abbrev pub invariant-loop-visitors : goal.invariant-loop-visitors
invariant-loop-visitors l = AllThree (AreMade is_same_row IsAgent visitors_in) l.yielded l.agents.items l.rows.items
