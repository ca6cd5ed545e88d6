use Rattle.std.proofs.Common.{List, ℕ, Option, length}
use Rattle.ga_line.specs.Forwarded.{FirstAddress, entries}
use Rattle.ga_line.proofs.forwarded.address_among.Given as goal

abbrev pub invariant-loop-end : goal.invariant-loop-end
invariant-loop-end l = (host : Option (List ℕ)) → FirstAddress (entries l.separators l.rest) host → FirstAddress (entries l.separators l.fn.text) host

abbrev pub decreases-loop-end : goal.decreases-loop-end
decreases-loop-end l = length l.rest
