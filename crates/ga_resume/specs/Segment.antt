-- What `place` reads of the open file, and what it leaves where it fails.
use Rattle.std.specs.Prelude.{◌≡◌, ◌⊎◌, ℕ, List, length, min, take, Some, IfSome}
use Rattle.ga_base.specs.declared.entry.Entry.{Entry}
use Rattle.ga_base.specs.declared.limits.TheConstants.{FRONT}
use Rattle.ga_counters.specs.Counts.{raised}
use Rattle.ga_ports.specs.Files.{FilesView, Fails}
use Rattle.ga_resume.specs.Entries.{IsChoice}
use Rattle.ga_resume.specs.ReadPart.{after_reads, StopsWithin}
use Rattle.ga_resume.specs.declared.fault.PlaceFault.{PlaceFault}
use Rattle.ga_resume.specs.declared.fault.PlaceFault.TheVariants.{FileFault}
use Rattle.ga_resume.specs.declared.segment.Segment.{Segment}

-- the segment of a log by its own front
pub record IsSegment (entries : List Entry) (segment : Segment) : Type 0 where
  pub long : length segment.front ≡ min segment.end FRONT
  pub choice : IsChoice entries segment.front segment.end segment.entry segment.from

-- the view once this size was answered
abbrev pub measured_as : ℕ → FilesView → FilesView
measured_as size v = record v { measured = Some size; counts = record v.counts { sizes = raised v.counts.sizes size } }

-- the open file was placed against the entries: its size was asked for once, and no more than its front was read
pub record PlacesLog (entries : List Entry) (old new : FilesView) (segment : Segment) : Type 0 where
  pub is : IsSegment entries segment
  pub end : IfSome old.bytes (λ bytes. segment.end ≡ length bytes)
  pub front : IfSome old.bytes (λ bytes. segment.front ≡ take FRONT bytes)
  pub files : new ≡ after_reads new.counts.calls (min segment.end FRONT) (measured_as segment.end old)

-- the size wasn't answered, or reading ended within the front
abbrev pub MissesPlace : FilesView → FilesView → PlaceFault → Type 0
MissesPlace old new fault =
    ((fault ≡ FileFault) × Fails old new)
    ⊎ ((size : ℕ) × IfSome old.bytes (λ bytes. size ≡ length bytes) × StopsWithin (min size FRONT) (measured_as size old) new fault)
