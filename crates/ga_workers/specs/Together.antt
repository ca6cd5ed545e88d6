-- What tallies have counted together, each a part of the outcomes.
use Rattle.std.specs.Prelude.{◌≡◌, ℕ, ⊤, List, [], ◌∷◌, ◌++◌, length}
use Rattle.ga_base.specs.declared.counts.Totals.{Totals}
use Rattle.ga_base.specs.declared.key.Key.{Key}
use Rattle.ga_base.specs.declared.key.Visitor.{Visitor}
use Rattle.ga_summary.specs.Outcomes.{Outcome, sums_of, has_visit, totals_of}
use Rattle.ga_summary.specs.Sound.{AllCountable}
use Rattle.ga_outcomes.specs.LineOutcomes.{HaveOutcomes}
use Rattle.ga_base.specs.Totals.{no_totals}
use Rattle.ga_tallies.specs.Tallies.{AreTalliesOf, IsTallyOf, TallySeen, together, totals_from}
use Rattle.ga_outcomes.specs.declared.setup.Setup.{Setup}

-- the same is counted of two lists of outcomes
pub record AreAlike (xs ys : List Outcome) : Type 0 where
  pub totals : totals_of xs ≡ totals_of ys
  pub sums : (key : Key) → sums_of key xs ≡ sums_of key ys
  pub visits : (key : Key) (visitor : Visitor) → has_visit key visitor xs ≡ has_visit key visitor ys

-- these outcomes are what tallies have counted, each some of them
pub record AreCounted (outcomes : List Outcome) (tallies : List TallySeen) : Type 0 where
  pub parts : List (List Outcome)
  pub tallies_of : AreTalliesOf parts tallies
  pub alike : AreAlike outcomes (together parts)

-- there is one tally for each worker
abbrev pub HasTallyForEach : ℕ → List TallySeen → Type 0
HasTallyForEach jobs tallies = length tallies ≡ jobs

-- each tally counts on by itself, one part of the outcomes for each
abbrev pub CountOnApart : List (List Outcome) → List TallySeen → List TallySeen → Type 0
CountOnApart [] [] [] = ⊤
CountOnApart [] [] (now ∷ new) = ⊥
CountOnApart [] (was ∷ old) new = ⊥
CountOnApart (part ∷ parts) [] new = ⊥
CountOnApart (part ∷ parts) (was ∷ old) [] = ⊥
CountOnApart (part ∷ parts) (was ∷ old) (now ∷ new) =
    ((before : List Outcome) → IsTallyOf before was → IsTallyOf (before ++ part) now) × CountOnApart parts old new

-- these outcomes are counted by each of the tallies, a part by each
pub record CountsByEach (outcomes : List Outcome) (old new : List TallySeen) : Type 0 where
  pub parts : List (List Outcome)
  pub apart : CountOnApart parts old new
  pub alike : AreAlike outcomes (together parts)

-- the tallies count these lines, after what they had counted
pub record CountsOn (setup : Setup) (all : List (List ℕ)) (old new : List TallySeen) : Type 0 where
  pub many : length new ≡ length old
  pub outcomes : List Outcome
  pub have_outcomes : HaveOutcomes setup all outcomes
  pub countable : AllCountable outcomes
  pub counted : (before : List Outcome) → AreCounted before old → AreCounted (before ++ outcomes) new
  pub by_each : CountsByEach outcomes old new

-- the totals of tallies, added up
abbrev pub totals_in : List TallySeen → Totals
totals_in tallies = totals_from no_totals tallies
