-- Targets in memory as one plain record: they tell all that a view may leave untold.
use Rattle.std.specs.Prelude.{◌≡◌, ℕ, ◌||◌, Bool, false, if◌then◌else◌, List, [], ◌∷◌, ◌++◌, length, take, Option, Some, None, Result, OnErr, IfOk}
use Rattle.ga_counters.specs.Counts.{raised}
use Rattle.ga_ports.specs.Outs.{TargetView, OutsView, takes, fails_once, is_full, fitting}
use Rattle.ga_ports.specs.declared.outs.To.{To}
use Rattle.ga_ports.specs.declared.outs.To.TheVariants.{Stdout, Stderr, File}
use Rattle.ga_ports.specs.declared.sink.Sink.{Sink}

-- one target in memory
pub record SinkState : Type 0 where
  pub bytes : List ℕ
  -- the number of bytes that it took so far
  pub taken : ℕ
  pub faults : ℕ
  -- how many bytes it still takes, where it has a room
  pub room : Option ℕ

pub record OutsState : Type 0 where
  pub stdout : SinkState
  pub stderr : SinkState
  pub file : SinkState
  -- a file was made, so that it can be written
  pub is_made : Bool
  -- the number of `create` calls
  pub made : ℕ
  -- the name made last; None before the first
  pub name : Option (List ℕ)
  -- the calls, counted from 1, that are listed to fail
  pub listed : List ℕ
  pub calls : ℕ
  -- the calls that failed for lack of memory
  pub starved : ℕ

abbrev pub sink_state : Sink → SinkState
sink_state s = record { bytes = s.bytes.items; taken = s.counts.taken; faults = s.counts.faults; room = s.room }

-- what a target in memory is to the program
abbrev pub sink_view : SinkState → TargetView
sink_view s = record { bytes = Some s.bytes; taken = s.taken; faults = s.faults; room = s.room }

-- what targets in memory are to the program
abbrev pub outs_view : OutsState → OutsView
outs_view s = record {
  stdout = sink_view s.stdout;
  stderr = sink_view s.stderr;
  file = sink_view s.file;
  is_made = s.is_made;
  made = s.made;
  name = Some s.name;
  listed = Some s.listed;
  calls = s.calls;
  starved = s.starved;
}

abbrev pub sink : To → OutsState → SinkState
sink Stdout s = s.stdout
sink Stderr s = s.stderr
sink File s = s.file

-- a target that holds nothing, with no room set
abbrev pub empty_sink : SinkState
empty_sink = record { bytes = []; taken = 0; faults = 0; room = None }

-- nothing taken, nothing made, nothing listed
abbrev pub no_outs : OutsState
no_outs = record {
  stdout = empty_sink;
  stderr = empty_sink;
  file = empty_sink;
  is_made = false;
  made = 0;
  name = None;
  listed = [];
  calls = 0;
  starved = 0;
}

-- a room for a target
abbrev pub after_room : To → ℕ → OutsState → OutsState
after_room Stdout room s = record s { stdout = record s.stdout { room = Some room } }
after_room Stderr room s = record s { stderr = record s.stderr { room = Some room } }
after_room File room s = record s { file = record s.file { room = Some room } }

-- one more call is listed to fail
abbrev pub after_listing : ℕ → OutsState → OutsState
after_listing call s = record s { listed = s.listed ++ call ∷ [] }

-- a write to one target, which is due to fail or not
pub record TakesFront {E : Type 0} (due : Bool) (piece : List ℕ) (old new : TargetView) (starved starved' : ℕ) (result : Result ℕ E)
    : Type 0 where
  pub ok : IfOk result (λ n. ((due || is_full old.room) ≡ false) × (n ≡ fitting old.room (length piece))
      × (new ≡ takes (take n piece) old) × (starved' ≡ starved))
  pub failed : OnErr result ((new ≡ fails_once old) × (starved' ≡ (if due || is_full old.room then starved else raised starved 1)))
