-- Files that are shorter when they are read than the size that they answer, as one plain record.
use Rattle.std.specs.Prelude.{◌≡◌, ℕ, ◌-◌, ◌<◌, ◌≤◌, Bool, true, false, List, [], Option, Some, None, Result, Ok, length, min}
use Rattle.ga_counters.specs.declared.failed.Failed.{Failed}
use Rattle.ga_ports.specs.Files.{FilesView, AreBytesAt, Reads, calls_once, gives}
use Rattle.ga_ports.specs.MemFiles.{no_counts}
use Rattle.ga_ports.specs.declared.file_counts.FileCounts.{FileCounts}

pub record ShortFilesState : Type 0 where
  -- the size that each name answers
  pub size : ℕ
  -- the bytes that each name has: fewer than that
  pub bytes : List ℕ
  pub is_open : Bool
  -- the size last answered for the open file
  pub measured : Option ℕ
  pub counts : FileCounts

-- what they are to the program: they don't tell what a name has, and no call is listed to fail
abbrev pub short_files_view : ShortFilesState → FilesView
short_files_view s = record {
  contents = None;
  listed = Some [];
  is_open = s.is_open;
  bytes = None;
  measured = s.measured;
  counts = s.counts;
}

-- each name answers this size and has these bytes; none is open, and nothing is counted
abbrev pub short_files : ℕ → List ℕ → ShortFilesState
short_files size bytes = record { size = size; bytes = bytes; is_open = false; measured = None; counts = no_counts }

-- a read gives the bytes from its place on, as many as fit and are there
pub record ReadsToCut {E : Type 0} (at : ℕ) (buffer : List ℕ) (old new : ShortFilesState) (result : Result ℕ E) : Type 0 where
  pub count : result ≡ Ok (min (length buffer) (length old.bytes - at))
  pub bytes : AreBytesAt at (min (length buffer) (length old.bytes - at)) buffer old.bytes
  -- what they answer and what they have stays
  pub size : new.size ≡ old.size
  pub same : new.bytes ≡ old.bytes

-- a short read from this place: it hands out nothing, and is counted with its place
pub record FallsShort {E : Type 0} (at : ℕ) (old new : FilesView) (result : Result ℕ E) : Type 0 where
  pub nothing : result ≡ Ok 0
  pub counted : new ≡ record old { counts = gives true at 0 (calls_once old.counts) }

-- over such files each read after what they have, and below the size last answered, falls short
abbrev pub BehindCutFallsShort : Type 0
BehindCutFallsShort = (files files' : ShortFilesState) (at size : ℕ) (buffer : List ℕ) (result : Result ℕ Failed)
    → files.measured ≡ Some size → at < size → length files.bytes ≤ at → 0 < length buffer
    → Reads at buffer (short_files_view files) (short_files_view files') result → ReadsToCut at buffer files files' result
    → FallsShort at (short_files_view files) (short_files_view files') result
