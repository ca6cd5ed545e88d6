use Rattle.std.proofs.Common.{ℕ, ◌<◌, ◌≤◌, length}
use Rattle.std.specs.Prelude.{IsTrue}
use Rattle.ga_agents.specs.Steps.{has_slot, slot_at}
use Rattle.ga_agents.proofs.pair_set.PairSet.has_all.Given as goal

-- the pairs so far are in the set
abbrev pub invariant-loop-i : goal.invariant-loop-i
invariant-loop-i l = (k : ℕ) → 1 ≤ k → k < l.i → k < length l.bytes → IsTrue (has_slot l.self (slot_at l.bytes k))
