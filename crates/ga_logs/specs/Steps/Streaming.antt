-- A part of a log on its way to the counters, slice by slice.
use Rattle.std.specs.Prelude.{◌≡◌, ◌≢◌, ℕ, ◌+◌, ◌-◌, ◌<◌, ◌≤◌, ◌^◌, Bool, false, IfErr, IfOk, IfSome, IsSome, IsTrue, List, Result, ◌++◌, length, take}
use Rattle.ga_batches.specs.Batches.{BatcherSeen, Holds, held}
use Rattle.ga_line.specs.Lines.{lines}
use Rattle.ga_outcomes.specs.declared.setup.Setup.{Setup}
use Rattle.ga_counters.specs.Counts.{NoneDue}
use Rattle.ga_ports.specs.Files.{FilesView}
use Rattle.ga_ports.specs.Trace.{FilesTrace}
use Rattle.ga_resume.specs.ReadPart.{ReadsPart, StopsWithin}
use Rattle.ga_resume.specs.declared.fault.PlaceFault.{PlaceFault}
use Rattle.ga_resume.specs.declared.fault.PlaceFault.TheVariants.{FileFault}
use Rattle.ga_logs.specs.Counting.{CountingSeen, HasCounted}
use Rattle.ga_logs.specs.Streams.{IsBehind, IsWithin}
use Rattle.ga_base.specs.Lines.{AreEnded}

-- these lines are counted besides
pub record Adds (setup : Setup) (more : List (List ℕ)) (old new : CountingSeen) : Type 0 where
  pub start : new.start ≡ old.start
  pub counted : (before : List (List ℕ)) → HasCounted setup before old → HasCounted setup (before ++ more) new

-- what is counted are some lines
abbrev pub HasCountedSome : Setup → CountingSeen → Type 0
HasCountedSome setup counting = (before : List (List ℕ)) × HasCounted setup before counting

-- that part of the open file was read and fed to a batcher, after what it was fed before
pub record FeedsPart (setup : Setup) (from end : ℕ) (files files' : FilesView) (counting counting' : CountingSeen)
    (batcher batcher' : BatcherSeen) : Type 0 where
  pub part : List ℕ
  pub read : ReadsPart from end files files' part
  pub going : batcher'.is_over ≡ false
  pub fed : batcher'.fed ≡ batcher.fed + length part
  pub limit : batcher'.limit ≡ batcher.limit
  pub start : counting'.start ≡ counting.start
  pub within : (before : List (List ℕ)) (stream : List ℕ) → IsWithin setup before stream counting batcher
      → IsWithin setup before (stream ++ part) counting' batcher'

-- that part of the open file was read and fed to a batcher, and nothing was counted
pub record FillsPart (from end : ℕ) (files files' : FilesView) (batcher batcher' : BatcherSeen) : Type 0 where
  pub part : List ℕ
  pub read : ReadsPart from end files files' part
  pub going : batcher'.is_over ≡ false
  pub fed : batcher'.fed ≡ batcher.fed + length part
  pub limit : batcher'.limit ≡ batcher.limit
  pub holds : (stream taken : List ℕ) → Holds stream taken batcher → Holds (stream ++ part) taken batcher'

-- the open file can be read between these places, into a batcher that has room
pub record CanFill (from to : ℕ) (buffer : List ℕ) (files : FilesView) (batcher : BatcherSeen) : Type 0 where
  pub is_open : IsTrue files.is_open
  pub order : from < to
  pub measured : IsSome files.measured
  pub within : IfSome files.measured (λ size. to ≤ size)
  pub told : IfSome files.bytes (λ bytes. to ≤ length bytes)
  pub some : 0 < length buffer
  pub going : batcher.is_over ≡ false
  pub countable : batcher.fed + (to - from) < 2 ^ 64
  pub room : length (held batcher) < batcher.limit

-- some of the open file was read and fed, up to there
pub record FillsTo (from to end : ℕ) (files files' : FilesView) (batcher batcher' : BatcherSeen) : Type 0 where
  pub some : from < end
  pub within : end ≤ to
  pub fills : FillsPart from end files files' batcher batcher'

-- bytes of a text can be fed to a batcher that has room
pub record CanFeed (text : List ℕ) (batcher : BatcherSeen) : Type 0 where
  pub some : 0 < length text
  pub going : batcher.is_over ≡ false
  pub countable : batcher.fed + length text < 2 ^ 64
  pub room : length (held batcher) < batcher.limit

-- this many bytes of a text were fed, from its front
pub record FeedsFront (count : ℕ) (text : List ℕ) (batcher batcher' : BatcherSeen) : Type 0 where
  pub some : 0 < count
  pub within : count ≤ length text
  pub going : batcher'.is_over ≡ false
  pub fed : batcher'.fed ≡ batcher.fed + count
  pub limit : batcher'.limit ≡ batcher.limit
  pub holds : (stream taken : List ℕ) → Holds stream taken batcher → Holds (stream ++ take count text) taken batcher'

-- it was, or reading stopped
pub record FillsOrStops (from to : ℕ) (files files' : FilesView) (batcher batcher' : BatcherSeen) (end : Result ℕ PlaceFault) : Type 0 where
  pub ok : IfOk end (λ end. FillsTo from to end files files' batcher batcher')
  pub failed : IfErr end (λ fault. StopsWithin (to - from) files files' fault)
  pub calls : FilesTrace files files'
  pub sure : NoneDue files.listed files.counts.calls → IfErr end (λ fault. fault ≢ FileFault)

-- a batch that was taken before is counted
pub record CountsTaken (setup : Setup) (taken : List ℕ) (counting counting' : CountingSeen) : Type 0 where
  pub start : counting'.start ≡ counting.start
  pub within : (before : List (List ℕ)) (stream : List ℕ) (batcher : BatcherSeen) → IsBehind setup before stream counting taken batcher
      → IsWithin setup before stream counting' batcher

-- some of the open file was read and fed, up to there, and a batch that was taken before is counted
pub record FillsBehind (setup : Setup) (from to end : ℕ) (files files' : FilesView) (counting counting' : CountingSeen) (taken : List ℕ)
    (batcher batcher' : BatcherSeen) : Type 0 where
  pub fills : FillsTo from to end files files' batcher batcher'
  pub counts : CountsTaken setup taken counting counting'

-- that part of the open file was read, its lines are counted besides, and this many of its bytes are those of ended lines
pub record CountsPart (setup : Setup) (from end : ℕ) (keep : Bool) (files files' : FilesView) (counting counting' : CountingSeen)
    (count : ℕ) : Type 0 where
  pub part : List ℕ
  pub read : ReadsPart from end files files' part
  pub ended : AreEnded part count
  pub adds : Adds setup (lines part keep) counting counting'
