use Rattle.ga_conf.proofs.BlankLemmas.{AreBlanksFrom}
use Rattle.ga_conf.proofs.blanks.before_blanks.Given as goal

abbrev pub invariant-loop-end : goal.invariant-loop-end
invariant-loop-end l = AreBlanksFrom l.text l.end

abbrev pub decreases-loop-end : goal.decreases-loop-end
decreases-loop-end l = l.end
