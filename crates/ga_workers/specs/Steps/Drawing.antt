-- Workers draw pieces of a batch, and each counts those that it drew.
use Rattle.std.specs.Prelude.{◌≡◌, ◌<◌, ◌≤◌, ◌⊎◌, ℕ, true, nat_lt, List, [], ◌∷◌, ◌++◌, length, map, filter, flat_map, slice_index_or, All}
use Rattle.std.specs.List.{Contains}
use Rattle.ga_line.specs.Lines.{lines}
use Rattle.ga_summary.specs.Outcomes.{Outcome}
use Rattle.ga_summary.specs.Sound.{AllCountable}
use Rattle.ga_outcomes.specs.LineOutcomes.{HaveOutcomes}
use Rattle.ga_tallies.specs.Tallies.{IsTallyOf, TallySeen}
use Rattle.ga_outcomes.specs.declared.setup.Setup.{Setup}

-- the lines of pieces, one piece after the other; what follows the last line feed of a piece is a line
abbrev pub all_lines : List (List ℕ) → List (List ℕ)
all_lines pieces = flat_map (λ piece. lines piece true) pieces

-- no piece has more lines than this many
abbrev pub AreShort : ℕ → List (List ℕ) → Type 0
AreShort most pieces = All (λ piece. length (lines piece true) ≤ most) pieces

-- a piece's number, and what its lines came to
pub record Came : Type 0 where
  pub number : ℕ
  pub outcomes : List Outcome

abbrev pub outcomes_in : List Came → List Outcome
outcomes_in came = flat_map (λ piece. piece.outcomes) came

-- the lines of the piece of this number have these outcomes
pub record IsCame (setup : Setup) (pieces : List (List ℕ)) (piece : Came) : Type 0 where
  pub have_outcomes : HaveOutcomes setup (lines (slice_index_or pieces piece.number []) true) piece.outcomes
  pub countable : AllCountable piece.outcomes

-- those of the drawn numbers that are numbers of pieces
abbrev pub of_pieces : ℕ → List ℕ → List ℕ
of_pieces pieces drawn = filter (λ number. nat_lt number pieces) drawn

-- a tally counted the pieces drawn, after what it had counted
pub record TalliesDrawn (setup : Setup) (pieces : List (List ℕ)) (drawn : List ℕ) (old new : TallySeen) : Type 0 where
  pub came : List Came
  pub numbers : map (λ piece. piece.number) came ≡ of_pieces (length pieces) drawn
  pub each : All (IsCame setup pieces) came
  pub tally : (before : List Outcome) → IsTallyOf before old → IsTallyOf (before ++ outcomes_in came) new

-- a worker is done: it drew a number that is no piece's, or more numbers than there are pieces
abbrev pub IsDone : ℕ → List ℕ → Type 0
IsDone pieces drawn = (pieces < length drawn) ⊎ ((number : ℕ) × (pieces ≤ number) × Contains drawn number)

-- a worker counted what it drew, and is done
pub record CountsDrawn (setup : Setup) (pieces : List (List ℕ)) (drawn : List ℕ) (old new : TallySeen) : Type 0 where
  pub done : IsDone (length pieces) drawn
  pub counts : TalliesDrawn setup pieces drawn old new

-- each worker counted what it drew, and is done
abbrev pub AllCount : Setup → List (List ℕ) → List (List ℕ) → List TallySeen → List TallySeen → Type 0
AllCount setup pieces [] [] [] = Unit {0}
AllCount setup pieces [] [] (now ∷ new) = ⊥
AllCount setup pieces [] (was ∷ old) new = ⊥
AllCount setup pieces (one ∷ drawn) [] new = ⊥
AllCount setup pieces (one ∷ drawn) (was ∷ old) [] = ⊥
AllCount setup pieces (one ∷ drawn) (was ∷ old) (now ∷ new) = CountsDrawn setup pieces one was now × AllCount setup pieces drawn old new
