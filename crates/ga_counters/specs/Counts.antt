-- Counts of a form, each of which stands still at its last value, and the calls that are listed to fail.
use Rattle.std.specs.Prelude.{◌≡◌, ℕ, ◌+◌, ◌-◌, ◌^◌, ◌≤◌, ◌==◌, Bool, false, List, Option, Some, None, max, min}
use Rattle.std.specs.List.{Contains, list_any}

-- the count after n more: it stops at its last value
abbrev pub raised : ℕ → ℕ → ℕ
raised count n = max count (min (count + n) (2 ^ 64 - 1))

-- the count is greater than before, or is at its last value
abbrev pub Rose : ℕ → ℕ → Type 0
Rose before now = min (before + 1) (2 ^ 64 - 1) ≤ now

-- the call after this many calls is listed to fail
abbrev pub is_due : List ℕ → ℕ → Bool
is_due listed calls = list_any (λ call. call == raised calls 1) listed

-- no call from now on is listed to fail, where that is told
abbrev pub NoneDue : Option (List ℕ) → ℕ → Type 0
NoneDue None calls = ⊥
NoneDue (Some listed) calls = (later : ℕ) → calls ≤ later → is_due listed later ≡ false

-- a listed call among those that took the number of calls from one value to another. Where that number stands still at its
-- last value it can't tell whether a call with this number was made
pub record HasListed (listed : List ℕ) (from to : ℕ) : Type 0 where
  pub call : ℕ
  pub is_listed : Contains listed call
  pub later : raised from 1 ≤ call
  pub within : call ≤ to
