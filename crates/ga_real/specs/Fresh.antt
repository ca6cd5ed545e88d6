-- The files and the targets of the system before the first call.
use Rattle.std.specs.Prelude.{None, false}
use Rattle.ga_ports.specs.Files.{FilesView}
use Rattle.ga_ports.specs.MemFiles.{no_counts}
use Rattle.ga_ports.specs.Outs.{OutsView, TargetView}

-- none is open, and nothing is counted
abbrev pub no_files_open : FilesView
no_files_open = record { contents = None; listed = None; is_open = false; bytes = None; measured = None; counts = no_counts }

abbrev pub blank : TargetView
blank = record { bytes = None; taken = 0; faults = 0; room = None }

-- nothing is taken, and no file is made
abbrev pub nothing_taken : OutsView
nothing_taken = record {
  stdout = blank;
  stderr = blank;
  file = blank;
  is_made = false;
  made = 0;
  name = None;
  listed = None;
  calls = 0;
  starved = 0;
}
