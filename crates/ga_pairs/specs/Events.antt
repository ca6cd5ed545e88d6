-- What can happen to claims, one event at a time. A seat is a place in the list of views.
use Rattle.std.specs.Prelude.{◌≡◌, ◌≢◌, ℕ, ◌+◌, ◌<◌, ◌≤◌, Bool, true, false, ◌==◌, ⊤, List, [], ◌∷◌, length, slice_index, slice_set, slice_index_or, Option, Some, None, IfSome}
use Rattle.ga_draws.specs.SeatViews.{after_split, after_join}
use Rattle.ga_pairs.specs.Homes.{IsPair, word_of}
use Rattle.ga_pairs.specs.Pairs.{PairState, place_after, cell_after, won, met, given, left, joined}
use Rattle.ga_pairs.specs.declared.view.Claims.{Claims}
use Rattle.ga_pairs.specs.declared.view.Pair.{Pair}
use Rattle.ga_pairs.specs.declared.view.PairView.{PairView}
use Rattle.ga_pairs.specs.declared.view.Probe.{Probe}

pub data PairEvent : Type 0 where
  -- a seat looks for a pair at the next cell
  tries : (seat : ℕ) (pair : Pair) → PairEvent
  -- a seat gives a share and an allowance to a new seat
  splits : (seat share allowance : ℕ) → PairEvent
  -- a seat takes in another
  joins : (seat other : ℕ) → PairEvent

-- a view that looks for nothing
abbrev pub resting : Claims → PairView
resting claims = record { claims = claims; probe = None }

-- a view that looks for a pair, and has passed this many cells
abbrev pub looking : Claims → Pair → ℕ → PairView
looking claims pair passed = record { claims = claims; probe = Some (record { pair = pair; passed = passed }) }

-- no share, no allowance and nothing asked
abbrev pub nothing : PairView
nothing = resting (given 0 0)

abbrev pub view_of : PairState → ℕ → PairView
view_of s seat = slice_index_or s.views seat nothing

-- how many cells a view has passed
abbrev pub cells_passed : Option Probe → ℕ
cells_passed None = 0
cells_passed (Some probe) = probe.passed

abbrev pub passed_of : PairView → ℕ
passed_of v = cells_passed v.probe

-- a view that looks for no other pair
abbrev pub IsFreeFor : PairView → Pair → Type 0
IsFreeFor v pair = IfSome v.probe (λ probe. probe.pair ≡ pair)

-- an event is lawful where its conditions hold
abbrev pub IsLawful : PairState → PairEvent → Type 0
IsLawful s (tries seat pair) = (seat < length s.views) × (1 ≤ (view_of s seat).claims.allowance) × IsPair pair × IsFreeFor (view_of s seat) pair
IsLawful s (splits seat share allowance) =
    (seat < length s.views) × ((view_of s seat).probe ≡ None) × (1 ≤ share) × (share < (view_of s seat).claims.share) × (allowance ≤ (view_of s seat).claims.allowance)
IsLawful s (joins seat other) =
    (seat < length s.views) × (other < length s.views) × (other ≢ seat) × ((view_of s seat).probe ≡ None) × ((view_of s other).probe ≡ None)

-- what a seat makes of the cell at a place: whether it is 0, and whether it is the pair's
abbrev pub after_look : PairState → ℕ → PairView → Pair → Bool → Bool → PairState
after_look s seat v pair true is_pair = record {
  cells = slice_set s.cells (place_after (length s.cells) pair (passed_of v)) (word_of pair);
  views = slice_set s.views seat (resting (won v.claims pair));
}
after_look s seat v pair false true = record { cells = s.cells; views = slice_set s.views seat (resting (met v.claims pair)) }
after_look s seat v pair false false = record { cells = s.cells; views = slice_set s.views seat (looking v.claims pair (passed_of v + 1)) }

abbrev pub after : PairState → PairEvent → PairState
after s (tries seat pair) =
    after_look s seat (view_of s seat) pair (cell_after s.cells pair (passed_of (view_of s seat)) == 0) (cell_after s.cells pair (passed_of (view_of s seat)) == word_of pair)
after s (splits seat share allowance) = record {
  cells = s.cells;
  views = after_split s.views seat (resting (left (view_of s seat).claims share allowance)) (resting (given share allowance));
}
after s (joins seat other) = record {
  cells = s.cells;
  views = after_join s.views seat (resting (joined (view_of s seat).claims (view_of s other).claims)) other nothing;
}

-- the same for a list of events, each lawful where it happens
abbrev pub AreLawful : PairState → List PairEvent → Type 0
AreLawful s [] = ⊤
AreLawful s (e ∷ es) = IsLawful s e × AreLawful (after s e) es

abbrev pub after_all : PairState → List PairEvent → PairState
after_all s [] = s
after_all s (e ∷ es) = after_all (after s e) es

-- each cell that is not 0 before is the same afterwards
abbrev pub ChangesOnlyFromZero : List ℕ → List ℕ → Type 0
ChangesOnlyFromZero old new = (at : ℕ) → slice_index old at ≢ 0 → slice_index new at ≡ slice_index old at
