use Rattle.std.proofs.Common.{◌≡◌, ◌↔◌, ℕ, ◌<◌, ◌≤◌, false, get_or, length}
use Rattle.std.specs.Prelude.{IsTrue}
use Rattle.ga_agents.specs.Steps.{slot_at}
use Rattle.ga_agents.proofs.pair_set.PairSet.of.Given as goal

-- the flags so far are those of the pairs so far
abbrev pub invariant-loop-i : goal.invariant-loop-i
invariant-loop-i l = record {
  long : length l.flags ≡ 256;
  pairs : (slot : ℕ) → IsTrue (get_or l.flags slot false) ↔ ((k : ℕ) × (1 ≤ k) × (k < length l.bytes) × (k < l.i) × (slot_at l.bytes k ≡ slot));
}
