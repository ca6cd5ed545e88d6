-- A stream that was fed piece by piece, while batches were taken in between.
use Rattle.std.specs.Prelude.{ℕ, List, [], ◌∷◌, ◌++◌}
use Rattle.std.specs.List.{AllByRecursion, concat}
use Rattle.ga_base.specs.Lines.{IsEnded}
use Rattle.ga_batches.specs.Batches.{BatcherSeen, Feeds, Holds, IsBatcher, fresh}

-- the stream so far, the batches that were taken of it, in order, and the batcher with the rest: nothing was fed to a new
-- batcher, or bytes were fed to such a one, or its batch was taken
pub data IsFed : List ℕ → List (List ℕ) → BatcherSeen → Type 0 where
  fed_nothing : (limit : ℕ) → IsFed [] [] (fresh limit)
  fed_more : {stream bytes : List ℕ} {batches : List (List ℕ)} {old new : BatcherSeen} → IsFed stream batches old → Feeds bytes old new
      → IsFed (stream ++ bytes) batches new
  batch_taken : {stream : List ℕ} {batches : List (List ℕ)} {old : BatcherSeen} → IsFed stream batches old → IsBatcher old
      → IsFed stream (batches ++ old.batch ∷ []) (record old { batch = [] })

-- the batches that were taken are whole lines, and with the rest they are the stream, with each line as it is held
pub record AreItsBatches (stream : List ℕ) (batches : List (List ℕ)) (v : BatcherSeen) : Type 0 where
  pub whole : AllByRecursion IsEnded batches
  pub holds : Holds stream (concat batches) v
