-- How a report is delivered: to its file, which is made first, or to standard output; and what its target took.
use Rattle.std.specs.Prelude.{◌≡◌, ◌≢◌, ℕ, ◌<◌, ◌≤◌, ◌⊎◌, List, [], ◌∷◌, length, take, Option, Some, None, Result, OnOk, IfErr}
use Rattle.std.specs.Result.{IsOk}
use Rattle.ga_counters.specs.Counts.{raised, Rose}
use Rattle.ga_ports.specs.Outs.{OutsView, target, with_target, takes, fails_once, after_making}
use Rattle.ga_ports.specs.declared.outs.To.{To}
use Rattle.ga_ports.specs.declared.outs.To.TheVariants.{Stdout, File}
use Rattle.ga_targets.specs.Printing.{OutputCanTake}

-- the name of a report's file; an empty one is that of none
abbrev pub file_of : List ℕ → Option (List ℕ)
file_of [] = None
file_of (byte ∷ bytes) = Some (byte ∷ bytes)

-- and a run over generated lines has none, whatever the settings name
abbrev pub report_file : Option ℕ → List ℕ → Option (List ℕ)
report_file None name = file_of name
report_file (Some lines) name = None

-- the target that a report goes to: its file, where it has a name
abbrev pub target_of : Option (List ℕ) → To
target_of None = Stdout
target_of (Some name) = File

-- the targets once the report's can be written: its file is made, and empty
abbrev pub ready : Option (List ℕ) → OutsView → OutsView
ready None v = v
ready (Some name) v = after_making name v

-- the targets after the report's took the whole text, after it stopped at a place, and after its file couldn't be made
abbrev pub delivered : Option (List ℕ) → List ℕ → OutsView → OutsView
delivered file text v = with_target (target_of file) (takes text (target (target_of file) (ready file v))) (ready file v)

abbrev pub stopped : Option (List ℕ) → List ℕ → ℕ → OutsView → OutsView
stopped file text at v = with_target (target_of file) (fails_once (takes (take at text) (target (target_of file) (ready file v)))) (ready file v)

abbrev pub unmade : OutsView → OutsView
unmade v = record v { file = fails_once v.file; made = raised v.made 1 }

-- the targets of one view, with what standard error took and the numbers of calls of another
abbrev pub but_errors : OutsView → OutsView → OutsView
but_errors new v = record v { stderr = new.stderr; calls = new.calls; starved = new.starved }

-- a report wasn't delivered: its file couldn't be made, or its target took the front up to a place, and failed there
abbrev pub FailsWriting : Option (List ℕ) → List ℕ → ℕ → OutsView → OutsView → Type 0
FailsWriting file text at old new = ((file ≢ None) × (at ≡ 0) × (new ≡ but_errors new (unmade old)))
    ⊎ ((at < length text) × (new ≡ but_errors new (stopped file text at old)))

-- a report is delivered: to its file, which is made first, where it has a name, or to standard output
pub record Delivers (file : Option (List ℕ)) (text : List ℕ) (old new : OutsView) (result : Result (Unit {0}) ℕ) : Type 0 where
  pub ok : OnOk result (new ≡ but_errors new (delivered file text old))
  pub failed : IfErr result (λ at. FailsWriting file text at old new)
  pub errors : new.stderr ≡ old.stderr
  pub starved : old.starved ≤ new.starved
  -- where it is told that the target can take it, only lack of memory, which is counted, can stop it
  pub sure : OutputCanTake (target_of file) (length text) old → ¬ Rose old.starved new.starved → IsOk result
