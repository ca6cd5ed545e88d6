-- The running draws: one word, which is the counter, and the views of all seats. Each atomic step is one event.
use Rattle.std.specs.Prelude.{◌≡◌, ℕ, length, slice_index}
use Rattle.atomic_table.specs.Table.{State, Me, Step}
use Rattle.ga_draws.specs.Draws.{DrawState, Inv, AreAllBelow, drew, given}
use Rattle.ga_draws.specs.declared.view.DrawView.{DrawView}
use Rattle.ga_draws.specs.declared.view.Opening.{Opening}

-- the state that word and views represent
abbrev pub state_of : State (Unit {0}) DrawView → DrawState
state_of s = record { counter = slice_index s.words 0; views = s.views }

-- the rule over word and views is the invariant of that state
abbrev pub Holds : Opening → State (Unit {0}) DrawView → Type 0
Holds opening s = (length s.words ≡ 1) × Inv opening (state_of s)

-- the view of the first seat
abbrev pub first_view : Opening → DrawView
first_view opening = given opening.shares opening.allowance

-- a view with all shares knows that each number was drawn once
abbrev pub KnowsAll : ℕ → DrawView → Type 0
KnowsAll shares v = v.share ≡ shares → AreAllBelow v.drawn

-- what a draw says: the number found is the number drawn
abbrev pub Draws : ℕ → Step (Unit {0}) → Me (Unit {0}) DrawView → ℕ → Me (Unit {0}) DrawView → Type 0
Draws shares step before found seat = (seat ≡ (drew before.0 found, before.1)) × KnowsAll shares seat.0

-- what a look says: the view is as it was
abbrev pub Looks : ℕ → Step (Unit {0}) → Me (Unit {0}) DrawView → ℕ → Me (Unit {0}) DrawView → Type 0
Looks shares step before found seat = (seat ≡ before) × KnowsAll shares seat.0
