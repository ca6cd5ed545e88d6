use Rattle.std.proofs.Common.{◌-◌, vec_len}
use Rattle.ga_tallies.specs.Steps.Adding.{HoldTheSame}
use Rattle.ga_tallies.specs.Tallies.{lists_in, pairs_in}
use Rattle.ga_tallies.proofs.pairs.make_rows.Given as goal

abbrev pub invariant-loop-alloc : goal.invariant-loop-alloc
invariant-loop-alloc l = HoldTheSame (pairs_in (lists_in l.fn.rows.items)) (pairs_in (lists_in l.rows.items))

abbrev pub decreases-loop-alloc : goal.decreases-loop-alloc
decreases-loop-alloc l = l.many - vec_len l.rows
