-- Files in memory as one plain record: they tell all that a view may leave untold.
use Rattle.std.specs.Prelude.{ℕ, ◌++◌, ◌&&◌, if◌then◌else◌, Bool, List, [], ◌∷◌, Option, Some, None, is_some, is_none}
use Rattle.std.specs.Str.{bytes_eq}
use Rattle.ga_ports.specs.Files.{Contents, FilesView, found}
use Rattle.ga_ports.specs.declared.file_counts.FileCounts.{FileCounts}

pub record FilesState : Type 0 where
  -- the files by name, the first of a name counting
  pub contents : List (List ℕ × List ℕ)
  -- the calls, counted from 1, that are listed to fail
  pub listed : List ℕ
  -- the bytes of the open file; None where none is open
  pub opened : Option (List ℕ)
  -- the size last answered for it
  pub measured : Option ℕ
  pub counts : FileCounts

-- the names with their bytes; of another name nothing is there
abbrev pub only_these : List (List ℕ × List ℕ) → Contents
only_these named = record { named = named; others = None }

-- what they are to the program
abbrev pub files_view : FilesState → FilesView
files_view s = record {
  contents = Some (only_these s.contents);
  listed = Some s.listed;
  is_open = is_some s.opened;
  bytes = s.opened;
  measured = s.measured;
  counts = s.counts;
}

-- the bytes of the first file of that name
abbrev pub bytes_of : List ℕ → List (List ℕ × List ℕ) → Option (List ℕ)
bytes_of name files = found name None files

-- the files after bytes were appended to a name, which is made where it isn't there
abbrev pub grown : List ℕ → List ℕ → List (List ℕ × List ℕ) → List (List ℕ × List ℕ)
grown name more [] = (name, more) ∷ []
grown name more (c ∷ cs) = if bytes_eq c.0 name then (c.0, c.1 ++ more) ∷ cs else c ∷ grown name more cs

-- the files with one name in place of another
abbrev pub moved : List ℕ → List ℕ → List (List ℕ × List ℕ) → List (List ℕ × List ℕ)
moved from to [] = []
moved from to (c ∷ cs) = if bytes_eq c.0 from then (to, c.1) ∷ cs else c ∷ moved from to cs

-- a name can be changed where `from` is there and `to` isn't
abbrev pub can_move : List ℕ → List ℕ → List (List ℕ × List ℕ) → Bool
can_move from to cs = is_some (bytes_of from cs) && is_none (bytes_of to cs)

-- the files after a name was changed, where it can be
abbrev pub renamed : List ℕ → List ℕ → List (List ℕ × List ℕ) → List (List ℕ × List ℕ)
renamed from to cs = if can_move from to cs then moved from to cs else cs

-- growth lets the open file go, since the record tells its bytes and not which file it is
abbrev pub after_growth : List ℕ → List ℕ → FilesState → FilesState
after_growth name more s = record s { contents = grown name more s.contents; opened = None; measured = None }

-- a change of name leaves the open file open: no bytes change
abbrev pub after_renaming : List ℕ → List ℕ → FilesState → FilesState
after_renaming from to s = record s { contents = renamed from to s.contents }

-- one more call is listed to fail
abbrev pub after_listing : ℕ → FilesState → FilesState
after_listing call s = record s { listed = s.listed ++ call ∷ [] }

abbrev pub no_counts : FileCounts
no_counts = record { calls = 0; faults = 0; given = 0; sizes = 0; asked = 0; shorts = 0; short_at = 0; absent = 0 }

-- no file, nothing open, nothing listed, nothing counted
abbrev pub no_files : FilesState
no_files = record { contents = []; listed = []; opened = None; measured = None; counts = no_counts }
