-- Texts of whole lines.
use Rattle.std.specs.Prelude.{◌≡◌, ◌≤◌, ◌⊎◌, ℕ, List, [], ◌∷◌, ◌++◌, length, take, drop}
use Rattle.std.specs.List.{Contains}
use Rattle.ga_base.specs.declared.limits.TheConstants.{LINE_FEED}

-- no line of the text goes on in what is added to it: it is empty or ends in a line feed
abbrev pub IsEnded : List ℕ → Type 0
IsEnded text = (text ≡ []) ⊎ ((front : List ℕ) × (text ≡ front ++ LINE_FEED ∷ []))

-- this many of the text's first bytes are those of its ended lines
pub record AreEnded (text : List ℕ) (count : ℕ) : Type 0 where
  pub within : count ≤ length text
  pub ended : IsEnded (take count text)
  pub last : ¬ Contains (drop count text) LINE_FEED
