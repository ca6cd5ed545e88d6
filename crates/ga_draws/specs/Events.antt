-- What can happen to draws, one event at a time. A seat is a place in the list of views.
use Rattle.std.specs.Prelude.{◌≢◌, ℕ, ◌+◌, ◌<◌, ◌≤◌, ⊤, List, [], ◌∷◌, length, slice_set, slice_index_or}
use Rattle.ga_draws.specs.SeatViews.{after_split, after_join}
use Rattle.ga_draws.specs.Draws.{DrawState, drew, given, left, joined, nothing}
use Rattle.ga_draws.specs.declared.view.DrawView.{DrawView}

pub data DrawEvent : Type 0 where
  -- a seat draws
  draws : (seat : ℕ) → DrawEvent
  -- a seat gives a share and an allowance to a new seat
  splits : (seat share allowance : ℕ) → DrawEvent
  -- a seat takes in another
  joins : (seat other : ℕ) → DrawEvent

abbrev pub view_of : DrawState → ℕ → DrawView
view_of s seat = slice_index_or s.views seat nothing

-- an event is lawful where its conditions hold
abbrev pub IsLawful : DrawState → DrawEvent → Type 0
IsLawful s (draws seat) = (seat < length s.views) × (1 ≤ (view_of s seat).allowance)
IsLawful s (splits seat share allowance) = (seat < length s.views) × (1 ≤ share) × (share < (view_of s seat).share) × (allowance ≤ (view_of s seat).allowance)
IsLawful s (joins seat other) = (seat < length s.views) × (other < length s.views) × (other ≢ seat)

abbrev pub after : DrawState → DrawEvent → DrawState
after s (draws seat) = record { counter = s.counter + 1; views = slice_set s.views seat (drew (view_of s seat) s.counter) }
after s (splits seat share allowance) = record {
  counter = s.counter;
  views = after_split s.views seat (left (view_of s seat) share allowance) (given share allowance);
}
after s (joins seat other) = record {
  counter = s.counter;
  views = after_join s.views seat (joined (view_of s seat) (view_of s other)) other nothing;
}

-- the same for a list of events, each lawful where it happens
abbrev pub AreLawful : DrawState → List DrawEvent → Type 0
AreLawful s [] = ⊤
AreLawful s (e ∷ es) = IsLawful s e × AreLawful (after s e) es

abbrev pub after_all : DrawState → List DrawEvent → DrawState
after_all s [] = s
after_all s (e ∷ es) = after_all (after s e) es
