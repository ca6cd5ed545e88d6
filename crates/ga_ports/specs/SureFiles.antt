-- Files in memory over which no call fails, as one plain record.
use Rattle.std.specs.Prelude.{ℕ, List, [], Option, Some, None, is_some}
use Rattle.ga_ports.specs.Files.{Contents, FilesView}
use Rattle.ga_ports.specs.MemFiles.{grown, no_counts}
use Rattle.ga_ports.specs.declared.file_counts.FileCounts.{FileCounts}

pub record SureFilesState : Type 0 where
  -- the files by name, the first of a name counting
  pub contents : List (List ℕ × List ℕ)
  -- the bytes of the open file; None where none is open
  pub opened : Option (List ℕ)
  -- the size last answered for it
  pub measured : Option ℕ
  pub counts : FileCounts

-- the names with their bytes; each other name gives an empty file
abbrev pub these_and_empty : List (List ℕ × List ℕ) → Contents
these_and_empty named = record { named = named; others = Some [] }

-- what they are to the program: no call is listed to fail, and the count of faults is 0 for good
abbrev pub sure_files_view : SureFilesState → FilesView
sure_files_view s = record {
  contents = Some (these_and_empty s.contents);
  listed = Some [];
  is_open = is_some s.opened;
  bytes = s.opened;
  measured = s.measured;
  counts = record s.counts { faults = 0; absent = 0 };
}

-- growth lets the open file go, as in `MemFiles`
abbrev pub after_sure_growth : List ℕ → List ℕ → SureFilesState → SureFilesState
after_sure_growth name more s = record s { contents = grown name more s.contents; opened = None; measured = None }

-- no file is there, none is open, nothing is counted
abbrev pub no_sure_files : SureFilesState
no_sure_files = record { contents = []; opened = None; measured = None; counts = no_counts }
