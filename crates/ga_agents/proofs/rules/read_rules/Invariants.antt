use Rattle.ga_agents.proofs.FileLemmas.{ReadTo}
use Rattle.ga_agents.proofs.rules.read_rules.Given as goal

abbrev pub invariant-loop-line : goal.invariant-loop-line
invariant-loop-line l = ReadTo l.fn.text l.line-iterator l.number l.rules
