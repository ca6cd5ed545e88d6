-- One side of a disk in memory between two syncs.
use Rattle.std.specs.Prelude.{◌≡◌, ℕ, ◌+◌, ◌<◌, ◌≤◌, ◌||◌, ◌&&◌, ◌++◌, Bool, false, List, [], ◌∷◌, length, take, min, max, nat_le, nat_lt, slice_index, if◌then◌else◌}
use Rattle.std.specs.List.{list_any}
use Rattle.ga_disk.specs.Disk.{written}
use Rattle.ga_disk.specs.declared.span.Span.{Span}

pub record SideState : Type 0 where
  -- what a read gives
  pub bytes : List ℕ
  -- the ranges that were written or cut off since the last sync
  pub changed : List Span
  -- the length at the last sync, and the least and the greatest since
  pub synced : ℕ
  pub least : ℕ
  pub most : ℕ

-- a place from the start of a range on, and before its end
abbrev pub is_within : ℕ → Span → Bool
is_within i span = nat_le span.start i && nat_lt i span.end

-- a crash may leave any byte at this place: it lies in a changed range, or past the length at the last sync
abbrev pub is_unsure : List Span → ℕ → ℕ → Bool
is_unsure changed synced i = nat_le synced i || list_any (is_within i) changed

-- what a crash may leave: any length since the last sync, and the bytes that a read gives at all places but the unsure ones
pub record IsImage (s : SideState) (image : List ℕ) : Type 0 where
  pub no_shorter : s.least ≤ length image
  pub no_longer : length image ≤ s.most
  pub kept : (i : ℕ) → i < length image → is_unsure s.changed s.synced i ≡ false → slice_index image i ≡ slice_index s.bytes i

-- a side with these bytes, all of them synced
abbrev pub synced : List ℕ → SideState
synced bytes = record { bytes = bytes; changed = []; synced = length bytes; least = length bytes; most = length bytes }

-- after a write at a place that the side reaches; elsewhere it does nothing
abbrev pub writes : ℕ → List ℕ → SideState → SideState
writes at piece s = if nat_le at (length s.bytes) then record {
  bytes = written at piece s.bytes;
  changed = s.changed ++ record { start = at; end = at + length piece } ∷ [];
  synced = s.synced;
  least = s.least;
  most = max s.most (at + length piece);
} else s

-- after a cut, whose range is what it takes away
abbrev pub cuts : ℕ → SideState → SideState
cuts len s = record {
  bytes = take len s.bytes;
  changed = s.changed ++ record { start = len; end = length s.bytes } ∷ [];
  synced = s.synced;
  least = min s.least len;
  most = s.most;
}

-- one side in memory: what it held when the disk was made or last crashed, and its state now
pub record MemSide : Type 0 where
  pub start : List ℕ
  pub state : SideState

-- a side with these bytes and no others before
abbrev pub fresh : List ℕ → MemSide
fresh bytes = record { start = bytes; state = synced bytes }
