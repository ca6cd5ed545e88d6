-- Steps of a call of `feed`, which only inner contracts and proofs say.
use Rattle.std.specs.Prelude.{◌≡◌, ◌<◌, ◌≤◌, ◌+◌, ℕ, List, [], ◌∷◌, ◌++◌, length, take}
use Rattle.ga_batches.specs.Batches.{BatcherSeen, IsFull, held}
use Rattle.ga_batches.specs.Lines.{cut_line}
use Rattle.ga_base.specs.declared.limits.TheConstants.{LINE_FEED}

-- this many of these bytes, which have no line feed, were added to the begun line
pub record GoesOn (taken : ℕ) (bytes : List ℕ) (old new : BatcherSeen) : Type 0 where
  pub within : taken ≤ length bytes
  pub value : new ≡ record old { begun = cut_line (old.begun ++ take taken bytes); fed = old.fed + taken }
  pub room : length (held new) ≤ old.limit
  pub all : taken < length bytes → IsFull new
  -- fewer bytes would not have made it full
  pub before : (n : ℕ) → n < taken → length old.batch + length (cut_line (old.begun ++ take n bytes)) < old.limit

-- the begun line was ended
abbrev pub with_line_ended : BatcherSeen → BatcherSeen
with_line_ended v = record v { batch = held v ++ LINE_FEED ∷ []; begun = []; fed = v.fed + 1; ended = v.fed + 1 }
