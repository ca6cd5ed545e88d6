-- What was counted of a stream so far, after the lines of the streams before it.
use Rattle.std.specs.Prelude.{ℕ, true, List, [], ◌∷◌, ◌++◌}
use Rattle.ga_batches.specs.Batches.{BatcherSeen, Holds}
use Rattle.ga_base.specs.Lines.{IsEnded}
use Rattle.ga_line.specs.Lines.{lines}
use Rattle.ga_outcomes.specs.declared.setup.Setup.{Setup}
use Rattle.ga_logs.specs.Counting.{CountingSeen, HasCounted}

-- the batches that were taken of the stream are counted, after the lines before it; the batcher holds what is left
pub record IsWithin (setup : Setup) (before : List (List ℕ)) (stream : List ℕ) (counting : CountingSeen) (batcher : BatcherSeen) : Type 0 where
  pub taken : List ℕ
  pub holds : Holds stream taken batcher
  pub counted : HasCounted setup (before ++ lines taken true) counting

-- the same, but that the last of the batches that were taken isn't counted yet
pub record IsBehind (setup : Setup) (before : List (List ℕ)) (stream : List ℕ) (counting : CountingSeen) (last : List ℕ) (batcher : BatcherSeen) : Type 0 where
  pub taken : List ℕ
  pub whole : IsEnded taken
  pub holds : Holds stream (taken ++ last) batcher
  pub counted : HasCounted setup (before ++ lines taken true) counting

-- the lines of batches, one after the other
abbrev pub batch_lines : List (List ℕ) → List (List ℕ)
batch_lines [] = []
batch_lines (batch ∷ batches) = lines batch true ++ batch_lines batches
