-- What can happen to counts, one event at a time. A seat is a place in the list of views.
use Rattle.std.specs.Prelude.{◌≢◌, ℕ, ◌+◌, ◌<◌, ◌≤◌, max, ⊤, List, [], ◌∷◌, length, slice_index, slice_set, slice_index_or}
use Rattle.ga_draws.specs.SeatViews.{after_split, after_join}
use Rattle.ga_counts.specs.Counts.{CountState, tally_at, tallied, raised, given, left, joined, nothing}
use Rattle.ga_counts.specs.declared.view.CountView.{CountView}

pub data CountEvent : Type 0 where
  -- a seat adds n to a word
  adds : (seat word n : ℕ) → CountEvent
  -- a seat raises a place to n
  raises : (seat place n : ℕ) → CountEvent
  -- a seat gives a share and an allowance to a new seat
  splits : (seat share allowance : ℕ) → CountEvent
  -- a seat takes in another
  joins : (seat other : ℕ) → CountEvent

abbrev pub view_of : CountState → ℕ → CountView
view_of s seat = slice_index_or s.views seat nothing

-- the seat is there, and has a share
abbrev pub IsSeat : CountState → ℕ → Type 0
IsSeat s seat = (seat < length s.views) × (1 ≤ (view_of s seat).share)

-- an event is lawful where its conditions hold
abbrev pub IsLawful : CountState → CountEvent → Type 0
IsLawful s (adds seat word n) = IsSeat s seat × (word < length s.words) × (tally_at word (view_of s seat) + n ≤ (view_of s seat).allowance)
IsLawful s (raises seat place n) = IsSeat s seat × (place < length s.maxima)
IsLawful s (splits seat share allowance) =
    IsSeat s seat × (1 ≤ share) × (share < (view_of s seat).share)
    × ((word : ℕ) → tally_at word (view_of s seat) + allowance ≤ (view_of s seat).allowance)
IsLawful s (joins seat other) = IsSeat s seat × IsSeat s other × (other ≢ seat)

abbrev pub after : CountState → CountEvent → CountState
after s (adds seat word n) = record {
  words = slice_set s.words word (slice_index s.words word + n);
  maxima = s.maxima;
  views = slice_set s.views seat (tallied (view_of s seat) word n);
}
after s (raises seat place n) = record {
  words = s.words;
  maxima = slice_set s.maxima place (max (slice_index s.maxima place) n);
  views = slice_set s.views seat (raised (view_of s seat) place n);
}
after s (splits seat share allowance) = record {
  words = s.words;
  maxima = s.maxima;
  views = after_split s.views seat (left (view_of s seat) share allowance) (given (view_of s seat) share allowance);
}
after s (joins seat other) = record {
  words = s.words;
  maxima = s.maxima;
  views = after_join s.views seat (joined (view_of s seat) (view_of s other)) other nothing;
}

-- the same for a list of events, each lawful where it happens
abbrev pub AreLawful : CountState → List CountEvent → Type 0
AreLawful s [] = ⊤
AreLawful s (e ∷ es) = IsLawful s e × AreLawful (after s e) es

abbrev pub after_all : CountState → List CountEvent → CountState
after_all s [] = s
after_all s (e ∷ es) = after_all (after s e) es
