-- Which of the images a crash of a disk in memory leaves, for a pick.
use Rattle.std.specs.Prelude.{ℕ, ◌+◌, ◌%◌, ◌==◌, Bool, true, List, [], ◌∷◌, length, map, slice_index, if◌then◌else◌, None, Some}
use Rattle.std.specs.List.{range_with_len, count_by}
use Rattle.ga_disk.specs.Sides.{Both, Sides}
use Rattle.ga_disk.specs.SideState.{SideState, is_unsure}
use Rattle.ga_disk.specs.declared.span.Span.{Span}
use Rattle.ga_counters.specs.Counts.{raised}
use Rattle.ga_disk.specs.MemDisk.{DiskState, states}

-- the pick is empty, or its first byte is odd
abbrev pub is_long : List ℕ → Bool
is_long [] = true
is_long (byte ∷ pick) = byte % 2 == 1

-- the length that is left: the greatest since the last sync, or the least
abbrev pub length_left : List ℕ → SideState → ℕ
length_left pick s = if is_long pick then s.most else s.least

-- the number of unsure places among the first n
abbrev pub unsure_below : List Span → ℕ → ℕ → ℕ
unsure_below changed synced n = count_by (is_unsure changed synced) (range_with_len 0 n)

-- the byte of the pick with this number, the pick being taken round and round; without a pick the byte stays
abbrev pub picked : List ℕ → ℕ → ℕ → ℕ
picked [] number byte = byte
picked (first ∷ more) number byte = slice_index (first ∷ more) (number % length (first ∷ more))

-- the byte that is left at a place, where this many of the pick were used before this side; past the end a byte was 0
abbrev pub byte_left : List ℕ → ℕ → List Span → ℕ → List ℕ → ℕ → ℕ
byte_left pick used changed synced bytes i =
    if is_unsure changed synced i then picked pick (used + unsure_below changed synced i) (slice_index bytes i) else slice_index bytes i

-- the bytes that are left of one side
abbrev pub bytes_left : List ℕ → ℕ → SideState → List ℕ
bytes_left pick used s = map (byte_left pick used s.changed s.synced s.bytes) (range_with_len 0 (length_left pick s))

-- the number of the pick's bytes that are used for one side
abbrev pub used_for : List ℕ → SideState → ℕ
used_for pick s = unsure_below s.changed s.synced (length_left pick s)

-- the image that is left: the pick goes on from side 0 to side 1
abbrev pub crashed : List ℕ → Both SideState → Sides
crashed pick s = record {
  side0 = bytes_left pick 0 s.side0;
  side1 = bytes_left pick (used_for pick s.side0) s.side1;
}

-- every call fails that comes after this many more
abbrev pub after_bound : ℕ → DiskState → DiskState
after_bound calls d = record d { bound = Some (raised d.counts.calls calls) }

-- the disk after a crash: that image is synced, no call before it is kept, and calls no longer fail for the bound
abbrev pub after_crash : List ℕ → DiskState → DiskState
after_crash pick d = record d { start = crashed pick (states d); changes = []; bound = None }
