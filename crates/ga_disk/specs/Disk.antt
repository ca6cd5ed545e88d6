-- What a disk is to the program, and what each call does to that.
use Rattle.std.specs.Prelude.{◌≡◌, ℕ, ◌+◌, ◌-◌, ◌^◌, ◌<◌, ◌≤◌, ◌||◌, ◌++◌, Bool, true, false, List, length, take, drop, min, max, Option, Some, None, option_map, nat_le, slice_index, Result, OnOk, OnErr, IfOk, IfSome}
use Rattle.std.specs.Result.{is_err}
use Rattle.ga_counters.specs.Counts.{raised, is_due}
use Rattle.ga_disk.specs.Sides.{Sides, of_side, with_side}
use Rattle.ga_disk.specs.declared.disk_counts.DiskCounts.{DiskCounts}

pub record DiskView : Type 0 where
  pub is_open : Bool
  -- what a read of each side gives; None where the form doesn't tell
  pub seen : Option Sides
  -- the path opened last, None before the first; None where the form doesn't tell
  pub path : Option (Option (List ℕ))
  -- a call that fails changes neither what a read gives nor what a crash may leave
  pub steady : Bool
  -- the calls, counted from 1, that are listed to fail; None where the form doesn't tell
  pub listed : Option (List ℕ)
  -- the number of calls after which every one fails; None where there is no such number
  pub bound : Option ℕ
  pub counts : DiskCounts

-- the greatest size of a side
abbrev pub max_size : ℕ
max_size = 2 ^ 63 - 1

-- one more call
abbrev pub calls_once : DiskCounts → DiskCounts
calls_once c = record c { calls = raised c.calls 1 }

-- one more call, which failed, with the number of calls that found no memory
abbrev pub fails_once : ℕ → DiskCounts → DiskCounts
fails_once starved c = record c { calls = raised c.calls 1; faults = raised c.faults 1; starved = starved }

-- one more `open`
abbrev pub asks : DiskCounts → DiskCounts
asks c = record c { opened = raised c.opened 1 }

-- all calls from here on fail
abbrev pub is_past : Option ℕ → ℕ → Bool
is_past None calls = false
is_past (Some bound) calls = nat_le bound calls

-- the next call is listed to fail, or is past the bound
abbrev pub must_fail : List ℕ → Option ℕ → ℕ → Bool
must_fail listed bound calls = is_due listed calls || is_past bound calls

-- where it is told which calls are listed, this one fails exactly where it must
abbrev pub FailsIfListed : {A E : Type 0} → DiskView → Result A E → Type 0
FailsIfListed old result = IfSome old.listed (λ listed. is_err result ≡ must_fail listed old.bound old.counts.calls)

-- a call that takes memory fails where it must, and else for lack of memory alone, which is counted
pub record FailsExactly {A E : Type 0} (must : Bool) (old new : DiskView) (result : Result A E) : Type 0 where
  pub due : must ≡ true → (is_err result ≡ true) × (new.counts.starved ≡ old.counts.starved)
  pub starved : must ≡ false → OnErr result (new.counts.starved ≡ raised old.counts.starved 1)

abbrev pub FailsIfTold : {A E : Type 0} → DiskView → DiskView → Result A E → Type 0
FailsIfTold old new result = IfSome old.listed (λ listed. FailsExactly (must_fail listed old.bound old.counts.calls) old new result)

-- an `open`, which makes sides empty where they aren't there and changes none
pub record Opens {E : Type 0} (path : List ℕ) (old new : DiskView) (result : Result (Unit {0}) E) : Type 0 where
  pub ok : OnOk result (new ≡ record old {
    is_open = true;
    path = option_map (λ _. Some path) old.path;
    counts = asks (calls_once old.counts);
  })
  pub failed : OnErr result ((new ≡ record old { counts = asks (fails_once new.counts.starved old.counts) })
      × (old.counts.starved ≤ new.counts.starved))
  pub exact : FailsIfTold old new result

-- a call that takes no memory failed, and nothing else changed
abbrev pub Fails : DiskView → DiskView → Type 0
Fails old new = new ≡ record old { counts = fails_once old.counts.starved old.counts }

pub record Sizes {E : Type 0} (side : ℕ) (old new : DiskView) (result : Result ℕ E) : Type 0 where
  pub ok : IfOk result (λ size. (size ≤ max_size) × IfSome old.seen (λ seen. size ≡ length (of_side side seen))
      × (new ≡ record old { counts = calls_once old.counts }))
  pub failed : OnErr result (Fails old new)
  pub exact : FailsIfListed old result

-- the side has at least this many bytes, where that is told
abbrev pub Reaches : ℕ → ℕ → Option Sides → Type 0
Reaches side size seen = IfSome seen (λ seen. size ≤ length (of_side side seen))

-- a read fills the whole buffer
pub record Reads {E : Type 0} (side at : ℕ) (buffer : List ℕ) (old new : DiskView) (result : Result (Unit {0}) E) : Type 0 where
  pub ok : OnOk result (IfSome old.seen (λ seen. buffer ≡ take (length buffer) (drop at (of_side side seen)))
      × (new ≡ record old { counts = calls_once old.counts }))
  pub failed : OnErr result (Fails old new)
  pub exact : FailsIfListed old result

-- the bytes of a side after a write at a place that it reaches
abbrev pub written : ℕ → List ℕ → List ℕ → List ℕ
written at piece bytes = take at bytes ++ piece ++ drop (at + length piece) bytes

-- what a write of n bytes may have made of a side, whole or in part: any bytes in its range, any length up to its end,
-- and everything else as it was
pub record TornAt (at n : ℕ) (old new : List ℕ) : Type 0 where
  pub before : (i : ℕ) → i < at → i < length new → (i < length old) × (slice_index new i ≡ slice_index old i)
  pub behind : (i : ℕ) → at + n ≤ i → i < length new → (i < length old) × (slice_index new i ≡ slice_index old i)
  pub no_shorter : length old ≤ length new
  pub no_longer : length new ≤ max (length old) (at + n)

-- what a cut to a length may have made of a side, whole or in part: any length from there on, and any bytes there
pub record CutAt (len : ℕ) (old new : List ℕ) : Type 0 where
  pub before : (i : ℕ) → i < len → i < length new → (i < length old) × (slice_index new i ≡ slice_index old i)
  pub no_shorter : min len (length old) ≤ length new
  pub no_longer : length new ≤ length old

-- one side took a step, and the other stays
pub record Steps (side : ℕ) (step : List ℕ → List ℕ → Type 0) (old new : Sides) : Type 0 where
  pub one : step (of_side side old) (of_side side new)
  pub other : new ≡ with_side side (of_side side new) old

-- what a read gives took a step, where it is told
abbrev pub SeenSteps : ℕ → (List ℕ → List ℕ → Type 0) → Option Sides → Option Sides → Type 0
SeenSteps side step None None = Unit {0}
SeenSteps side step None (Some new) = ⊥
SeenSteps side step (Some old) None = ⊥
SeenSteps side step (Some old) (Some new) = Steps side step old new

-- a call that changes a side failed: it may have done its work in part, but not on a disk that is told to be steady
pub record FailsInPart (side : ℕ) (step : List ℕ → List ℕ → Type 0) (old new : DiskView) : Type 0 where
  pub others : new ≡ record old { seen = new.seen; counts = fails_once new.counts.starved old.counts }
  pub part : SeenSteps side step old.seen new.seen
  pub steady : old.steady ≡ true → new.seen ≡ old.seen
  pub starved : old.counts.starved ≤ new.counts.starved

pub record Writes {E : Type 0} (side at : ℕ) (piece : List ℕ) (old new : DiskView) (result : Result (Unit {0}) E) : Type 0 where
  -- a write that would pass the greatest size fails
  pub ok : OnOk result ((at + length piece ≤ max_size) × (new ≡ record old {
    seen = option_map (λ seen. with_side side (written at piece (of_side side seen)) seen) old.seen;
    counts = calls_once old.counts;
  }))
  pub failed : OnErr result (FailsInPart side (TornAt at (length piece)) old new)
  pub exact : FailsIfTold old new result

-- a cut to a length that the side doesn't reach leaves it as it is
pub record Cuts {E : Type 0} (side len : ℕ) (old new : DiskView) (result : Result (Unit {0}) E) : Type 0 where
  pub ok : OnOk result (new ≡ record old {
    seen = option_map (λ seen. with_side side (take len (of_side side seen)) seen) old.seen;
    counts = calls_once old.counts;
  })
  pub failed : OnErr result (FailsInPart side (CutAt len) old new)
  pub exact : FailsIfTold old new result

-- a sync changes nothing that a read gives
pub record Syncs {E : Type 0} (old new : DiskView) (result : Result (Unit {0}) E) : Type 0 where
  pub ok : OnOk result (new ≡ record old { counts = calls_once old.counts })
  pub failed : OnErr result ((new ≡ record old { counts = fails_once new.counts.starved old.counts })
      × (old.counts.starved ≤ new.counts.starved))
  pub exact : FailsIfTold old new result
