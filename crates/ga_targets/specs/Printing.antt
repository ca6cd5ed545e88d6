-- What it is that a target took bytes, all or up to a place.
use Rattle.std.specs.Prelude.{◌≡◌, ℕ, ◌<◌, ◌≤◌, ◌⊎◌, List, length, take, Result, OnOk, IfErr}
use Rattle.std.specs.List.{flat_map}
use Rattle.std.specs.Result.{IsOk}
use Rattle.ga_counters.specs.Counts.{Rose, NoneDue}
use Rattle.ga_ports.specs.Outs.{TargetView, OutsView, target, with_target, takes, fails_once, fitting}
use Rattle.ga_ports.specs.declared.outs.To.{To}

-- pieces one after the other
abbrev pub joined : List (List ℕ) → List ℕ
joined pieces = flat_map (λ piece. piece) pieces

-- only that target changed, and how many calls there were
abbrev pub ChangesOnly : To → OutsView → OutsView → Type 0
ChangesOnly to old new = new ≡ record (with_target to (target to new) old) { calls = new.calls; starved = new.starved }

-- the target took the bytes before a place, and then it failed
pub record Stops (at : ℕ) (bytes : List ℕ) (old new : TargetView) : Type 0 where
  pub early : at < length bytes
  pub front : new ≡ fails_once (takes (take at bytes) old)

-- it took all the bytes, or stopped in between
abbrev pub TakesOrStops : List ℕ → TargetView → TargetView → Type 0
TakesOrStops bytes old new = (new ≡ takes bytes old) ⊎ ((at : ℕ) × Stops at bytes old new)

-- the view after a target took bytes, in some number of calls
abbrev pub printed : To → List ℕ → ℕ → OutsView → OutsView
printed to bytes calls v = record (with_target to (takes bytes (target to v)) v) { calls = calls }

-- it is told that a target can take this many bytes: no call from now on is listed to fail, and they fit in its room
pub record OutputCanTake (to : To) (size : ℕ) (outs : OutsView) : Type 0 where
  pub none_due : NoneDue outs.listed outs.calls
  pub room : fitting (target to outs).room size ≡ size

pub record Prints (to : To) (bytes : List ℕ) (old new : OutsView) (result : Result (Unit {0}) ℕ) : Type 0 where
  pub ok : OnOk result (new ≡ printed to bytes new.calls old)
  pub failed : IfErr result (λ at. Stops at bytes (target to old) (target to new))
  pub others : ChangesOnly to old new
  pub starved : old.starved ≤ new.starved
  -- where it is told that the target can take them, only lack of memory, which is counted, can stop it
  pub sure : OutputCanTake to (length bytes) old → ¬ Rose old.starved new.starved → IsOk result
