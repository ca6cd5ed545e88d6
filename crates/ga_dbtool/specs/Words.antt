-- The words of the tool: three forms, and where other words stop beginning one.
use Rattle.std.specs.Prelude.{◌≡◌, ◌≢◌, ◌⊎◌, ℕ, ◌+◌, ◌<◌, List, [], ◌∷◌, ◌++◌, length, take, codes}

-- what the tool is asked for: to check a database, to show its keys, or to merge another one into it
pub data Task : Type 0 where
  checking : (dir : List ℕ) → Task
  dumping : (dir : List ℕ) → Task
  merging : (dir other : List ℕ) → Task

-- words that are one of the three forms; no name is empty, and the two of `merge` differ
abbrev pub Say : List (List ℕ) → Task → Type 0
Say words (checking dir) = (words ≡ codes "check" ∷ dir ∷ []) × (dir ≢ [])
Say words (dumping dir) = (words ≡ codes "dump" ∷ dir ∷ []) × (dir ≢ [])
Say words (merging dir other) = (words ≡ codes "merge" ∷ dir ∷ other ∷ []) × (dir ≢ []) × (other ≢ []) × (dir ≢ other)

-- words that begin a form: with some more they are one
abbrev pub Begin : List (List ℕ) → Type 0
Begin words = (more : List (List ℕ)) × (task : Task) × Say (words ++ more) task

-- the first word that no form has there, or the number of words where one is missing
abbrev pub StopAt : List (List ℕ) → ℕ → Type 0
StopAt words at = ((at < length words) × ¬ Begin (take (at + 1) words))
    ⊎ ((at ≡ length words) × ((task : Task) → ¬ Say words task))

-- words that are no form: those before a place begin one, and they stop there
pub record AreBadAt (words : List (List ℕ)) (at : ℕ) : Type 0 where
  pub before : Begin (take at words)
  pub stop : StopAt words at
