use Rattle.std.proofs.Common.{List, ℕ, length}
use Rattle.ga_line.specs.Forwarded.{EndsAddress}
use Rattle.ga_line.specs.Steps.Forwarding.{Reaches}
use Rattle.ga_line.proofs.forwarded.after_chain.Given as goal

abbrev pub invariant-loop-next : goal.invariant-loop-next
invariant-loop-next l = record {
  ended : EndsAddress l.separators l.after;
  goes : (end : List ℕ) → Reaches l.separators end l.after → Reaches l.separators end l.fn.rest;
}

abbrev pub decreases-loop-next : goal.decreases-loop-next
decreases-loop-next l = length l.after
