-- What stands on a side: a gate, and after each open gate a part and the next gate.
use Rattle.std.specs.Prelude.{◌≡◌, ℕ, ◌+◌, ◌<◌, ◌≤◌, ◌==◌, ◌&&◌, ◌^◌, Bool, List, ◌++◌, length, take, drop, nat_lt, slice_index}
use Rattle.sha2.specs.Sha256.{sha256}
use Rattle.ga_codec.specs.Spelling.{eight_bytes}

-- the byte of an open gate
abbrev pub open_gate : ℕ
open_gate = 79

-- the byte that closes a gate; any other than the open one does
abbrev pub closed_gate : ℕ
closed_gate = 0

-- a gate is open where its byte says so and the side goes on after it
abbrev pub is_open_at : List ℕ → ℕ → Bool
is_open_at side at = nat_lt (at + 1) (length side) && (slice_index side at == open_gate)

-- these bytes stand on a side from a place on
pub record StandsAt (side : List ℕ) (at : ℕ) (bytes : List ℕ) : Type 0 where
  pub within : at + length bytes ≤ length side
  pub same : take (length bytes) (drop at side) ≡ bytes

-- a part: the number of its body's bytes, these, and their digest
abbrev pub part_bytes : List ℕ → List ℕ
part_bytes body = eight_bytes (length body) ++ body ++ sha256 body

-- a part with this body is at a place
pub record IsPartAt (side : List ℕ) (at : ℕ) (body : List ℕ) : Type 0 where
  pub size : length body < 2 ^ 64
  pub stands : StandsAt side at (part_bytes body)
