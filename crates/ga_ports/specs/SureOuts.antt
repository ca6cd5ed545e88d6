-- Targets over which no call fails, as one plain record.
use Rattle.std.specs.Prelude.{ℕ, Bool, false, [], Some, None}
use Rattle.ga_ports.specs.Outs.{TargetView, OutsView}
use Rattle.ga_ports.specs.declared.outs.To.{To}
use Rattle.ga_ports.specs.declared.outs.To.TheVariants.{Stdout, Stderr, File}

pub record SureOutsState : Type 0 where
  -- the number of bytes that each target took so far
  pub stdout : ℕ
  pub stderr : ℕ
  pub file : ℕ
  -- a file was made, so that it can be written
  pub is_made : Bool
  -- the number of `create` calls
  pub made : ℕ
  pub calls : ℕ

-- a target that took this many bytes and doesn't tell which; it has no room set, and its count of faults is 0 for good
abbrev pub sure_target : ℕ → TargetView
sure_target taken = record { bytes = None; taken = taken; faults = 0; room = None }

-- what they are to the program: no call is listed to fail, and none finds no memory, since none takes any
abbrev pub sure_outs_view : SureOutsState → OutsView
sure_outs_view s = record {
  stdout = sure_target s.stdout;
  stderr = sure_target s.stderr;
  file = sure_target s.file;
  is_made = s.is_made;
  made = s.made;
  name = None;
  listed = Some [];
  calls = s.calls;
  starved = 0;
}

abbrev pub number_taken : To → SureOutsState → ℕ
number_taken Stdout s = s.stdout
number_taken Stderr s = s.stderr
number_taken File s = s.file

-- nothing taken, nothing made
abbrev pub no_sure_outs : SureOutsState
no_sure_outs = record { stdout = 0; stderr = 0; file = 0; is_made = false; made = 0; calls = 0 }
