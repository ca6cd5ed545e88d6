-- The running counts: a row of words, the maxima after them, and one word that is never used. Each atomic step is one event.
use Rattle.std.specs.Prelude.{◌≡◌, ℕ, ◌+◌, length, take, drop}
use Rattle.atomic_table.specs.Table.{State, Me, Step}
use Rattle.ga_counts.specs.Counts.{CountState, Inv, blank, tallied, raised}
use Rattle.ga_counts.specs.declared.view.CountView.{CountView}
use Rattle.ga_counts.specs.declared.view.Opening.{Opening}

-- the state that words and views represent
abbrev pub state_of : Opening → State (Unit {0}) CountView → CountState
state_of opening s = record { words = take opening.words s.words; maxima = take opening.maxima (drop opening.words s.words); views = s.views }

-- the rule over words and views is the invariant of that state. The last word makes sure that there is one
abbrev pub Holds : Opening → State (Unit {0}) CountView → Type 0
Holds opening s = (length s.words ≡ opening.words + opening.maxima + 1) × Inv opening (state_of opening s)

-- the view of the first seat
abbrev pub first_view : Opening → CountView
first_view opening = blank opening.words opening.maxima opening.shares opening.allowance

-- what an addition says
abbrev pub Adds : Step (Unit {0}) → Me (Unit {0}) CountView → ℕ → Me (Unit {0}) CountView → Type 0
Adds step before found seat = seat ≡ (tallied before.0 step.word step.first, before.1)

-- what it says to raise a place
abbrev pub Raises : ℕ → Step (Unit {0}) → Me (Unit {0}) CountView → ℕ → Me (Unit {0}) CountView → Type 0
Raises place step before found seat = seat ≡ (raised before.0 place step.first, before.1)
