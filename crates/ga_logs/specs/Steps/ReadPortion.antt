-- Where a run begins the open file, and what it leaves where that fails.
use Rattle.std.specs.Prelude.{◌≡◌, ℕ, true, false, List, length, None, IfSome}
use Rattle.ga_base.specs.declared.entry.Entry.{Entry}
use Rattle.ga_ports.specs.Files.{FilesView, Fails, asks, calls_once, is_absent, told}
use Rattle.ga_resume.specs.ReadPart.{after_reads}
use Rattle.ga_resume.specs.Segment.{MissesPlace, measured_as}
use Rattle.ga_resume.specs.declared.fault.PlaceFault.{PlaceFault}
use Rattle.ga_resume.specs.declared.fault.PlaceFault.TheVariants.{FileFault}
use Rattle.ga_resume.specs.declared.segment.Segment.{Segment}
use Rattle.ga_logs.specs.Portions.{Begins, front_of, front_size}
use Rattle.ga_resume.specs.declared.follow.Follow.{Follow}
use Rattle.ga_resume.specs.declared.follow.Follow.TheVariants.{Whole, ToEnd, ToLastLine}

-- the size of the open file was asked for once, and no more than its front was read
pub record BeginsLog (follow : Follow) (entries : List Entry) (old new : FilesView) (segment : Segment) : Type 0 where
  pub begins : Begins follow entries segment
  pub end : IfSome old.bytes (λ bytes. segment.end ≡ length bytes)
  pub front : IfSome old.bytes (λ bytes. segment.front ≡ front_of follow bytes)
  pub files : new ≡ after_reads new.counts.calls (front_size follow segment.end) (measured_as segment.end old)

-- the view once a name was opened
abbrev pub opened : List ℕ → FilesView → FilesView
opened name v = record v { is_open = true; bytes = told name v.contents; measured = None; counts = asks false (calls_once v.counts) }

-- a log was opened, and a run begins it there
pub record OpensLog (follow : Follow) (entries : List Entry) (name : List ℕ) (old new : FilesView) (segment : Segment) : Type 0 where
  pub present : is_absent name old.contents ≡ false
  pub begins : BeginsLog follow entries (opened name old) new segment

-- the size wasn't answered, or reading ended within the front
abbrev pub MissesBegin : Follow → FilesView → FilesView → PlaceFault → Type 0
MissesBegin Whole old new fault = (fault ≡ FileFault) × Fails old new
MissesBegin ToEnd old new fault = MissesPlace old new fault
MissesBegin ToLastLine old new fault = MissesPlace old new fault
