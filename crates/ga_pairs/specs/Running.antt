-- The running set: the cells, and the views of all seats. Each atomic step is one event.
use Rattle.std.specs.Prelude.{◌≡◌, ◌≢◌, ℕ, ◌+◌, ◌<◌, Contains}
use Rattle.atomic_table.specs.Table.{State, Me}
use Rattle.ga_pairs.specs.Homes.{word_of}
use Rattle.ga_pairs.specs.Pairs.{Inv, won, met, given}
use Rattle.ga_pairs.specs.Events.{resting, looking, passed_of}
use Rattle.ga_pairs.specs.declared.insert.Insert.{Insert}
use Rattle.ga_pairs.specs.declared.insert.Insert.TheVariants.{Won, Present}
use Rattle.ga_pairs.specs.declared.view.Claims.{Claims}
use Rattle.ga_pairs.specs.declared.view.Opening.{Opening}
use Rattle.ga_pairs.specs.declared.view.Pair.{Pair}
use Rattle.ga_pairs.specs.declared.view.PairView.{PairView}

-- the rule over words and views is the invariant of the state that they are
abbrev pub Holds : Opening → State (Unit {0}) PairView → Type 0
Holds opening s = Inv opening record { cells = s.words; views = s.views }

-- the view of the first seat
abbrev pub first_view : Opening → PairView
first_view opening = resting (given opening.shares opening.allowance)

-- what a try tells: the pair was won, which the seat had not asked before; it is there; or another does, and there is a
-- further cell
pub record Tries (pair : Pair) (cells : ℕ) (before : Me (Unit {0}) PairView) (found : ℕ) (seat : Me (Unit {0}) PairView) : Type 0 where
  pub won_it : found ≡ 0 → (seat ≡ (resting (won before.0.claims pair), before.1)) × (Contains before.0.claims.asked pair → ⊥)
  pub same : found ≡ word_of pair → seat ≡ (resting (met before.0.claims pair), before.1)
  pub another : found ≢ 0 → found ≢ word_of pair → (seat ≡ (looking before.0.claims pair (passed_of before.0 + 1), before.1)) × (passed_of before.0 + 1 < cells)

-- what an answer says of the claims before and after it
abbrev pub Answers : Insert → Claims → Pair → Claims → Type 0
Answers Won old pair new = (new ≡ won old pair) × (Contains old.asked pair → ⊥)
Answers Present old pair new = new ≡ met old pair
