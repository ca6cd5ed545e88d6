-- What a batcher holds, and how that follows from the stream that it was fed.
use Rattle.std.specs.Prelude.{◌≡◌, ◌≤◌, ◌+◌, ℕ, Bool, true, false, List, [], ◌++◌, length}
use Rattle.std.specs.List.{Contains}
use Rattle.ga_batches.specs.Lines.{cut_lines, kept_part}
use Rattle.ga_base.specs.Lines.{AreEnded, IsEnded}
use Rattle.ga_base.specs.declared.limits.TheConstants.{LINE_FEED, MAX_BATCH}
use Rattle.ga_batches.specs.declared.batcher.TheConstants.{LEAST_LIMIT, LINE_HELD}

-- a batcher as contracts see it
pub record BatcherSeen : Type 0 where
  -- the whole lines that it holds
  pub batch : List ℕ
  -- what it holds of the line that is begun
  pub begun : List ℕ
  -- how many bytes it was fed
  pub fed : ℕ
  -- how many of them are those of ended lines
  pub ended : ℕ
  -- how many bytes it can hold
  pub limit : ℕ
  -- the stream is at its end, and nothing more is fed
  pub is_over : Bool

-- all bytes that it holds
abbrev pub held : BatcherSeen → List ℕ
held v = v.batch ++ v.begun

-- it holds as many bytes as it can
abbrev pub IsFull : BatcherSeen → Type 0
IsFull v = length (held v) ≡ v.limit

-- a batcher that was fed nothing
abbrev pub fresh : ℕ → BatcherSeen
fresh limit = record { batch = []; begun = []; fed = 0; ended = 0; limit = limit; is_over = false }

-- what holds of each batcher
pub record IsBatcher (v : BatcherSeen) : Type 0 where
  pub limit : (LEAST_LIMIT ≤ v.limit) × (v.limit ≤ MAX_BATCH)
  pub room : length (held v) ≤ v.limit
  pub within : v.ended ≤ v.fed
  -- the begun line has no line feed, and is held as far as a line is
  pub begun : ¬ Contains v.begun LINE_FEED
  pub short : length v.begun ≤ LINE_HELD
  -- before the stream's end the batch is made of whole lines, and after it no line is begun
  pub whole : v.is_over ≡ false → IsEnded v.batch
  pub over : v.is_over ≡ true → v.begun ≡ []
  -- each line of the batch is as it is held
  pub cut : cut_lines v.batch ≡ v.batch

-- these bytes were fed
pub record Feeds (bytes : List ℕ) (old new : BatcherSeen) : Type 0 where
  -- what was held and what was fed, with each line as it is held
  pub lines : held new ≡ cut_lines (held old ++ bytes)
  pub fed : new.fed ≡ old.fed + length bytes
  pub ended : (stream : List ℕ) → length stream ≡ old.fed → AreEnded stream old.ended → AreEnded (stream ++ bytes) new.ended
  pub limit : new.limit ≡ old.limit
  pub going : new.is_over ≡ old.is_over

-- The stream so far is what the batches taken before have, one after the other, and then what is held, with each line as it is
-- held: so the lines of the one say what those of the other do.
pub record Holds (stream taken : List ℕ) (v : BatcherSeen) : Type 0 where
  pub going : v.is_over ≡ false
  -- the batches are whole lines, each as it is held
  pub whole : IsEnded taken
  pub cut : cut_lines taken ≡ taken
  pub lines : cut_lines stream ≡ taken ++ held v
  pub fed : v.fed ≡ length stream
  pub ended : AreEnded stream v.ended

-- The stream is at its end, and the batches taken before and the one that is left have its lines: those that ended, and the begun
-- one where it is kept.
pub record HoldsLast (stream : List ℕ) (keep : Bool) (taken : List ℕ) (v : BatcherSeen) : Type 0 where
  pub over : v.is_over ≡ true
  pub lines : cut_lines (kept_part stream v.ended keep) ≡ taken ++ v.batch
  pub fed : v.fed ≡ length stream
  pub ended : AreEnded stream v.ended
