-- What it is to read logs one after the other, each from where a run begins it.
use Rattle.std.specs.Prelude.{◌≡◌, ◌⊎◌, ◌≢◌, ℕ, suc, ◌+◌, ◌-◌, ◌≤◌, if◌then◌else◌, true, false, List, [], ◌∷◌, length, take, min, Option, Some, None, IfSome}
use Rattle.std.specs.List.{AllByRecursion}
use Rattle.std.specs.Option.{unwrap_or}
use Rattle.ga_base.specs.declared.limits.TheConstants.{FRONT}
use Rattle.ga_base.specs.declared.entry.Entry.{Entry}
use Rattle.ga_base.specs.declared.limits.TheConstants.{FRONT}
use Rattle.ga_counters.specs.Counts.{raised, NoneDue}
use Rattle.ga_ports.specs.Files.{Contents, FilesView, told, is_absent}
use Rattle.ga_resume.specs.Entries.{IsChoice}
use Rattle.ga_resume.specs.declared.fault.PlaceFault.{PlaceFault}
use Rattle.ga_resume.specs.declared.fault.PlaceFault.TheVariants.{FileFault, FileShort, NoMemory}
use Rattle.ga_resume.specs.declared.segment.Segment.{Segment}
use Rattle.ga_logs.specs.Portions.{Begins, Follows, IsPortionOf, front_size}
use Rattle.ga_resume.specs.declared.follow.Follow.{Follow}
use Rattle.ga_resume.specs.declared.follow.Follow.TheVariants.{Whole, ToEnd, ToLastLine}
use Rattle.ga_logs.specs.declared.portion.Portion.{Portion}

-- a log of this size hands out this many bytes: no more than its front, and those from where an entry of it ends
abbrev pub HandsOutAfterFront : List Entry → Option (List ℕ) → ℕ → ℕ → Type 0
HandsOutAfterFront entries log size count = (count ≤ min size FRONT) ⊎ ((from : ℕ) × (count ≤ min size FRONT + (size - from))
    × IfSome log (λ log. (place : Option ℕ) × IsChoice entries (take FRONT log) size place from))

-- a log that is read whole hands out no more than its bytes
abbrev pub HandsOut : Follow → List Entry → Option (List ℕ) → ℕ → ℕ → Type 0
HandsOut Whole entries log size count = count ≤ size
HandsOut ToEnd entries log size count = HandsOutAfterFront entries log size count
HandsOut ToLastLine entries log size count = HandsOutAfterFront entries log size count

-- a log of that name was asked for once
pub record AsksFor (follow : Follow) (entries : List Entry) (name : List ℕ) (old new : FilesView) : Type 0 where
  pub asked : new.counts.asked ≡ raised old.counts.asked 1
  pub absent : new.counts.absent ≡ (if is_absent name old.contents then raised old.counts.absent 1 else old.counts.absent)
  -- one size at most was answered, and no more bytes were handed out than a run reads of a log of that size
  pub sizes : new.counts.sizes ≡ raised old.counts.sizes (unwrap_or new.measured 0)
  pub given : (count : ℕ) × HandsOut follow entries (told name old.contents) (unwrap_or new.measured 0) count
      × (new.counts.given ≡ raised old.counts.given count)
  pub measured : IfSome new.measured (λ size. IfSome (told name old.contents) (λ log. size ≡ length log))
  -- nothing else changed but which file is open and the counts
  pub others : new ≡ record old { is_open = new.is_open; bytes = new.bytes; measured = new.measured; counts = new.counts }

-- handed out was what a run reads of the log, and nothing else: the first bytes by which it is known again, and those from where
-- the run begins it to its end. This holds of contents that aren't told too
abbrev pub HandsOutFrom : Follow → Segment → FilesView → FilesView → Type 0
HandsOutFrom follow segment old new =
    new.counts.given ≡ raised old.counts.given (front_size follow segment.end + (segment.end - segment.from))

-- a portion of the log was read, and no call failed in between
pub record ReadsPortion (follow : Follow) (entries : List Entry) (name : List ℕ) (old new : FilesView) (portion : Portion) : Type 0 where
  pub asks : AsksFor follow entries name old new
  pub begins : Begins follow entries portion.segment
  pub long : portion.segment.from + length portion.bytes ≡ portion.segment.end
  pub told : IfSome (told name old.contents) (λ log. IsPortionOf follow entries log portion)
  pub size : new.measured ≡ Some portion.segment.end
  pub given : HandsOutFrom follow portion.segment old new
  pub faults : new.counts.faults ≡ old.counts.faults
  pub shorts : new.counts.shorts ≡ old.counts.shorts
  pub short_at : new.counts.short_at ≡ old.counts.short_at
  pub present : is_absent name old.contents ≡ false

-- why the log couldn't be read, as the counts show it; only contents that aren't told fall short
abbrev pub IsCause : List ℕ → FilesView → FilesView → PlaceFault → Type 0
IsCause name old new FileFault = (new.counts.faults ≡ raised old.counts.faults 1) × (new.counts.shorts ≡ old.counts.shorts)
    × (new.counts.short_at ≡ old.counts.short_at)
IsCause name old new (FileShort at) = (new.counts.shorts ≡ raised old.counts.shorts 1) × (new.counts.short_at ≡ at)
    × (old.contents ≡ None) × (new.counts.faults ≡ old.counts.faults)
IsCause name old new NoMemory = (new.counts.faults ≡ old.counts.faults) × (new.counts.shorts ≡ old.counts.shorts)
    × (new.counts.short_at ≡ old.counts.short_at) × (is_absent name old.contents ≡ false)

-- a name that is told to be absent fails, and nothing else comes of it
pub record MissesLog (follow : Follow) (entries : List Entry) (name : List ℕ) (old new : FilesView) (fault : PlaceFault) : Type 0 where
  pub asks : AsksFor follow entries name old new
  pub cause : IsCause name old new fault
  pub absent : is_absent name old.contents ≡ true → fault ≡ FileFault

-- ---- one after the other

-- these logs were read, and the entries went with them
pub data ReadsAll (follow : Follow) : List (List ℕ) → List Entry → List Entry → FilesView → FilesView → List Portion → Type 0 where
  read_all : {entries : List Entry} {view : FilesView} → ReadsAll follow [] entries entries view view []
  read_then : {name : List ℕ} {names : List (List ℕ)} {old mid new : List Entry} {files between files' : FilesView}
      {portion : Portion} {portions : List Portion} → ReadsPortion follow old name files between portion
      → Follows follow portion old mid → ReadsAll follow names mid new between files' portions
      → ReadsAll follow (name ∷ names) old new files files' (portion ∷ portions)

-- some of these logs were read, from the first on
pub data ReadsSome (follow : Follow) : List (List ℕ) → List Entry → FilesView → FilesView → List Portion → Type 0 where
  read_none : {names : List (List ℕ)} {entries : List Entry} {view : FilesView} → ReadsSome follow names entries view view []
  read_last : {name : List ℕ} {names : List (List ℕ)} {entries : List Entry} {files files' : FilesView} {portion : Portion}
      → ReadsPortion follow entries name files files' portion → ReadsSome follow (name ∷ names) entries files files' (portion ∷ [])
  read_on : {name : List ℕ} {names : List (List ℕ)} {old mid : List Entry} {files between files' : FilesView}
      {portion : Portion} {portions : List Portion} → ReadsPortion follow old name files between portion
      → Follows follow portion old mid → ReadsSome follow names mid between files' portions
      → ReadsSome follow (name ∷ names) old files files' (portion ∷ portions)

-- the logs before the one at this place were read, and it was not
pub data MissesAt (follow : Follow) : List (List ℕ) → List Entry → ℕ → FilesView → FilesView → List Portion → PlaceFault → Type 0 where
  misses_first : {name : List ℕ} {names : List (List ℕ)} {entries : List Entry} {files files' : FilesView} {fault : PlaceFault}
      → MissesLog follow entries name files files' fault → MissesAt follow (name ∷ names) entries 0 files files' [] fault
  misses_later : {name : List ℕ} {names : List (List ℕ)} {old mid : List Entry} {place : ℕ} {files between files' : FilesView}
      {portion : Portion} {portions : List Portion} {fault : PlaceFault} → ReadsPortion follow old name files between portion
      → Follows follow portion old mid → MissesAt follow names mid place between files' portions fault
      → MissesAt follow (name ∷ names) old (suc place) files files' (portion ∷ portions) fault

-- ---- told in advance

-- it is told that no call on these logs can fail: none from now on is listed, and they are all there
pub record CanServe (names : List (List ℕ)) (files : FilesView) : Type 0 where
  pub none_due : NoneDue files.listed files.counts.calls
  pub present : AllByRecursion (λ name. told name files.contents ≢ None) names

-- the same of one log
pub record CanServeOne (name : List ℕ) (files : FilesView) : Type 0 where
  pub none_due : NoneDue files.listed files.counts.calls
  pub present : told name files.contents ≢ None

-- what these logs hold is told, and a run reads these portions of them
pub data AreTold (follow : Follow) (contents : Option Contents) : List (List ℕ) → List Entry → List Entry → List Portion → Type 0 where
  told_all : {entries : List Entry} → AreTold follow contents [] entries entries []
  told_then : {name log : List ℕ} {names : List (List ℕ)} {old mid new : List Entry} {portion : Portion} {portions : List Portion}
      → told name contents ≡ Some log → IsPortionOf follow old log portion → Follows follow portion old mid
      → AreTold follow contents names mid new portions → AreTold follow contents (name ∷ names) old new (portion ∷ portions)

-- the same of some of these logs, from the first on
pub data AreSomeTold (follow : Follow) (contents : Option Contents) : List (List ℕ) → List Entry → List Portion → Type 0 where
  told_none : {names : List (List ℕ)} {entries : List Entry} → AreSomeTold follow contents names entries []
  told_last : {name log : List ℕ} {names : List (List ℕ)} {entries : List Entry} {portion : Portion}
      → told name contents ≡ Some log → IsPortionOf follow entries log portion
      → AreSomeTold follow contents (name ∷ names) entries (portion ∷ [])
  told_on : {name log : List ℕ} {names : List (List ℕ)} {old mid : List Entry} {portion : Portion} {portions : List Portion}
      → told name contents ≡ Some log → IsPortionOf follow old log portion → Follows follow portion old mid
      → AreSomeTold follow contents names mid portions → AreSomeTold follow contents (name ∷ names) old (portion ∷ portions)
