use Rattle.std.proofs.Common.{length, take}
use Rattle.ga_tallies.specs.Steps.Absorbing.{AddsSuch, IsAmong, IsMapped}
use Rattle.ga_tallies.specs.Tallies.{lists_in, pairs_from, pairs_in}
use Rattle.ga_tallies.proofs.visiting.add_rows.Given as goal

-- the pairs of the rows so far came to those of these keys
abbrev pub invariant-loop-key : goal.invariant-loop-key
invariant-loop-key l = AddsSuch (IsAmong l.first (length l.initial.rows) (IsMapped l.keys l.visitors (pairs_in (lists_in (take l.key l.others)))))
    (pairs_from l.first (lists_in l.initial.rows)) (pairs_from l.first (lists_in l.rows))
