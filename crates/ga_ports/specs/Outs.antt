-- What a form of `Outs` is to the program, and what each call does to that.
use Rattle.std.specs.Prelude.{◌≡◌, ℕ, ◌-◌, ◌<◌, ◌≤◌, ◌==◌, ◌||◌, Bool, true, false, List, [], ◌++◌, length, take, Option, Some, None, option_map, min, Result, OnOk, OnErr, IfOk, IfSome, IsTrue}
use Rattle.std.specs.Result.{is_err}
use Rattle.ga_counters.specs.Counts.{raised, is_due}
use Rattle.ga_ports.specs.declared.outs.To.{To}
use Rattle.ga_ports.specs.declared.outs.To.TheVariants.{Stdout, Stderr, File}

pub record TargetView : Type 0 where
  -- the bytes that it holds, where told
  pub bytes : Option (List ℕ)
  -- the number of bytes that it took so far
  pub taken : ℕ
  pub faults : ℕ
  -- how many bytes it still takes, where it has a room
  pub room : Option ℕ

pub record OutsView : Type 0 where
  pub stdout : TargetView
  pub stderr : TargetView
  pub file : TargetView
  -- a file was made, so that it can be written
  pub is_made : Bool
  -- the number of `create` calls
  pub made : ℕ
  -- where the form tells it: the name made last, that of the last `create` that answered Ok
  pub name : Option (Option (List ℕ))
  -- the calls, counted from 1, that are listed to fail; None where the form doesn't tell
  pub listed : Option (List ℕ)
  pub calls : ℕ
  -- the calls that failed for lack of memory
  pub starved : ℕ

abbrev pub target : To → OutsView → TargetView
target Stdout v = v.stdout
target Stderr v = v.stderr
target File v = v.file

abbrev pub with_target : To → TargetView → OutsView → OutsView
with_target Stdout t v = record v { stdout = t }
with_target Stderr t v = record v { stderr = t }
with_target File t v = record v { file = t }

-- the target after it took more bytes
abbrev pub takes : List ℕ → TargetView → TargetView
takes more t = record t {
  bytes = option_map (λ bytes. bytes ++ more) t.bytes;
  taken = raised t.taken (length more);
  room = option_map (λ room. room - length more) t.room;
}

-- the target after a call on it failed
abbrev pub fails_once : TargetView → TargetView
fails_once t = record t { faults = raised t.faults 1 }

-- one more call
abbrev pub calls_once : OutsView → OutsView
calls_once v = record v { calls = raised v.calls 1 }

-- nothing is left of the room
abbrev pub is_full : Option ℕ → Bool
is_full None = false
is_full (Some room) = room == 0

-- how much of this many bytes fits in what is left of the room
abbrev pub fitting : Option ℕ → ℕ → ℕ
fitting None n = n
fitting (Some room) n = min n room

-- the view after a call that took more bytes for a target
abbrev pub after : To → List ℕ → OutsView → OutsView
after to more v = with_target to (takes more (target to v)) (calls_once v)

-- the view after a write that failed, with the number of calls that found no memory
abbrev pub after_failure : To → ℕ → OutsView → OutsView
after_failure to starved v = record (with_target to (fails_once (target to v)) (calls_once v)) { starved = starved }

pub record Writes {E : Type 0} (to : To) (piece : List ℕ) (old new : OutsView) (result : Result ℕ E) : Type 0 where
  pub ok : IfOk result (λ n. (n ≤ length piece) × (0 < length piece → 0 < n) × (new ≡ after to (take n piece) old))
  pub failed : OnErr result ((new ≡ after_failure to new.starved old) × (old.starved ≤ new.starved))

-- the view after a file was made, which is empty
abbrev pub after_making : List ℕ → OutsView → OutsView
after_making name v = record (calls_once v) {
  file = record v.file { bytes = option_map (λ _. []) v.file.bytes };
  is_made = true;
  made = raised v.made 1;
  name = option_map (λ _. Some name) v.name;
}

pub record Creates {E : Type 0} (name : List ℕ) (old new : OutsView) (result : Result (Unit {0}) E) : Type 0 where
  pub ok : OnOk result (new ≡ after_making name old)
  pub failed : OnErr result ((new ≡ record (after_failure File new.starved old) { made = raised old.made 1 })
      × (old.starved ≤ new.starved))

-- a call fails where it is bound to, and else for lack of memory alone, which is counted
pub record FailsExactly {A E : Type 0} (bound : Bool) (old new : OutsView) (result : Result A E) : Type 0 where
  pub bound_to : bound ≡ true → (is_err result ≡ true) × (new.starved ≡ old.starved)
  pub starved : bound ≡ false → OnErr result (new.starved ≡ raised old.starved 1)

-- where it is told which calls are listed, a write fails where it is listed or nothing is left of the target's room,
-- and else takes what fits
pub record WritesExactly {E : Type 0} (to : To) (piece listed : List ℕ) (old new : OutsView) (result : Result ℕ E) : Type 0 where
  pub fails : FailsExactly (is_due listed old.calls || is_full (target to old).room) old new result
  pub fits : IfOk result (λ n. n ≡ fitting (target to old).room (length piece))

abbrev pub WritesIfListed : {E : Type 0} → To → List ℕ → OutsView → OutsView → Result ℕ E → Type 0
WritesIfListed to piece old new result = IfSome old.listed (λ listed. WritesExactly to piece listed old new result)

-- the same for making a file, which fails where it is listed
abbrev pub CreatesIfListed : {E : Type 0} → OutsView → OutsView → Result (Unit {0}) E → Type 0
CreatesIfListed old new result = IfSome old.listed (λ listed. FailsExactly (is_due listed old.calls) old new result)

-- the file can be written only once it was made
abbrev pub CanTake : To → OutsView → Type 0
CanTake Stdout v = Unit {0}
CanTake Stderr v = Unit {0}
CanTake File v = IsTrue v.is_made
