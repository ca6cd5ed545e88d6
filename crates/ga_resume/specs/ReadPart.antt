-- What it is to read a part of the open file, and what a fault in between leaves.
use Rattle.std.specs.Prelude.{◌≡◌, ℕ, ◌-◌, ◌<◌, ◌≤◌, List, ◌++◌, ◌+◌, length, take, drop, None, IfSome}
use Rattle.ga_counters.specs.Counts.{raised}
use Rattle.ga_ports.specs.Files.{FilesView}
use Rattle.ga_resume.specs.declared.fault.PlaceFault.{PlaceFault}
use Rattle.ga_resume.specs.declared.fault.PlaceFault.TheVariants.{FileFault, FileShort, NoMemory}

-- the view after this many bytes were handed out, in some number of calls
abbrev pub after_reads : ℕ → ℕ → FilesView → FilesView
after_reads calls n v = record v { counts = record v.counts { calls = calls; given = raised v.counts.given n } }

-- the bytes from one place to another
abbrev pub part_of : ℕ → ℕ → List ℕ → List ℕ
part_of from end bytes = take (end - from) (drop from bytes)

-- that part of the open file was read
pub record ReadsPart (from end : ℕ) (old new : FilesView) (part : List ℕ) : Type 0 where
  pub long : length part ≡ end - from
  pub bytes : IfSome old.bytes (λ bytes. part ≡ part_of from end bytes)
  pub files : new ≡ after_reads new.counts.calls (end - from) old

-- this many bytes of the open file, from a place on, were read to the front of a buffer
pub record ReadsSlice (at n : ℕ) (buffer : List ℕ) (old new : FilesView) : Type 0 where
  pub some : 0 < n
  pub within : n ≤ length buffer
  pub bytes : IfSome old.bytes (λ bytes. take n buffer ≡ take n (drop at bytes))
  pub files : new ≡ after_reads new.counts.calls n old

-- this many bytes of the open file, from a place on, were appended to the part
pub record AppendsSlice (at n room : ℕ) (old new : FilesView) (part part' : List ℕ) : Type 0 where
  pub some : 0 < n
  pub within : n ≤ room
  pub long : length part' ≡ length part + n
  pub bytes : IfSome old.bytes (λ bytes. part' ≡ part ++ take n (drop at bytes))
  pub files : new ≡ after_reads new.counts.calls n old

-- the reading ended after this many bytes; only contents that aren't told fall short
abbrev pub StopsAfter : ℕ → FilesView → FilesView → PlaceFault → Type 0
StopsAfter n old new FileFault = new ≡ record (after_reads new.counts.calls n old) { counts = record (after_reads new.counts.calls n old).counts { faults = raised old.counts.faults 1 } }
StopsAfter n old new (FileShort at) = (old.bytes ≡ None)
    × (new ≡ record (after_reads new.counts.calls n old) { counts = record (after_reads new.counts.calls n old).counts { shorts = raised old.counts.shorts 1; short_at = at } })
StopsAfter n old new NoMemory = new ≡ after_reads new.counts.calls n old

-- the reading ended within this many bytes
abbrev pub StopsWithin : ℕ → FilesView → FilesView → PlaceFault → Type 0
StopsWithin room old new fault = (n : ℕ) × (n ≤ room) × StopsAfter n old new fault
