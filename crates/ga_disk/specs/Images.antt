-- What a crash may leave of a disk's sides, and what each call does to that.
use Rattle.std.specs.Prelude.{◌≡◌, ◌⊎◌, ℕ, ◌≤◌, Bool, true, List, Option, Result, OnOk, OnErr, IfSome}
use Rattle.ga_disk.specs.Sides.{Sides, of_side}
use Rattle.ga_disk.specs.Disk.{Steps}

-- An image is of both sides at one moment.
pub record Images : Type 1 where
  -- a number of this moment, which doesn't fall from call to call
  pub moment : ℕ
  -- what a crash now may leave
  pub now : Sides → Type 0
  -- what a crash may have left since a moment, that moment and this one included, within a call or between two
  pub since : ℕ → Sides → Type 0

-- each image is one that the disk had before
abbrev pub AddsNone : Images → Images → Type 0
AddsNone old new = (image : Sides) → new.now image → old.now image

-- time goes on: what a crash may have left before stays in the past, and nothing comes to it but what a crash may leave now
pub record Elapses (old new : Images) : Type 0 where
  pub later : old.moment ≤ new.moment
  pub nothing_else : (t : ℕ) (image : Sides) → t ≤ old.moment → new.since t image → old.since t image ⊎ new.now image
  pub keeps : (t : ℕ) (image : Sides) → t ≤ old.moment → old.since t image → new.since t image

-- each image is one that the disk had, after a step of one side
abbrev pub Follows : ℕ → (List ℕ → List ℕ → Type 0) → Images → Images → Type 0
Follows side step old new = (image : Sides) → new.now image → (before : Sides) × old.now before × Steps side step before image

-- each image has one side as a read gives it
abbrev pub HasSide : ℕ → Images → Sides → Type 0
HasSide side images seen = (image : Sides) → images.now image → of_side side image ≡ of_side side seen

-- a call that changes no side, whether it fails or not
pub record LeavesSame (old new : Images) : Type 0 where
  pub none_added : AddsNone old new
  pub time : Elapses old new

-- a write or a cut: what a crash leaves is a step away from what it might have left, also where the call failed
pub record LeavesSteps {E : Type 0} (side : ℕ) (step : List ℕ → List ℕ → Type 0) (steady : Bool) (old new : Images)
    (result : Result (Unit {0}) E) : Type 0 where
  pub follows : Follows side step old new
  pub kept : steady ≡ true → OnErr result (AddsNone old new)
  pub time : Elapses old new

-- a sync: where it answers Ok, a crash leaves of that side what a read gives
pub record LeavesSynced {E : Type 0} (side : ℕ) (seen : Option Sides) (old new : Images) (result : Result (Unit {0}) E)
    : Type 0 where
  pub durable : OnOk result (IfSome seen (HasSide side new))
  pub none_added : AddsNone old new
  pub time : Elapses old new

-- from the moment of the first on, a crash leaves nothing but what has P
pub record LeavesOnly (old new : Images) (P : Sides → Type 0) : Type 0 where
  pub later : old.moment ≤ new.moment
  pub each : (image : Sides) → new.since old.moment image → P image
  -- for a trace of calls that began earlier
  pub before : (t : ℕ) (image : Sides) → t ≤ old.moment → new.since t image → old.since t image ⊎ P image

-- a crash leaves this and nothing else
abbrev pub OnlyImage : Images → Sides → Type 0
OnlyImage images seen = (image : Sides) → images.now image → image ≡ seen
