-- Draws as plain data: a counter, and what the seat of each thread has drawn of it.
use Rattle.std.specs.Prelude.{◌≡◌, ℕ, ◌+◌, ◌-◌, if◌then◌else◌, nat_lt, ◌==◌, List, [], ◌∷◌, ◌++◌, length, count_by, sum_by, All}
use Rattle.atomic_table.specs.Seated.{TableId}
use Rattle.ga_draws.specs.declared.view.DrawView.{DrawView}
use Rattle.ga_draws.specs.declared.view.Opening.{Opening}

-- how often a number is in a list
abbrev pub times : ℕ → List ℕ → ℕ
times number numbers = count_by (λ n. n == number) numbers

-- 1 for the numbers below a bound, and 0 for the others
abbrev pub once_below : ℕ → ℕ → ℕ
once_below bound number = if nat_lt number bound then 1 else 0

-- the list has the numbers below its length, each once, and no other
abbrev pub AreAllBelow : List ℕ → Type 0
AreAllBelow numbers = (number : ℕ) → times number numbers ≡ once_below (length numbers) number

pub record DrawState : Type 0 where
  -- the number that is drawn next
  pub counter : ℕ
  pub views : List DrawView

-- a view without a share has nothing
abbrev pub IsSpent : DrawView → Type 0
IsSpent v = (v.allowance ≡ 0) × (v.drawn ≡ [])

-- what holds of the draws at each moment, by what they were opened with
pub record Inv (opening : Opening) (s : DrawState) : Type 0 where
  -- the drawn lists of all views together are the numbers below the counter, each once
  pub numbers : (number : ℕ) → sum_by (λ v. times number v.drawn) s.views ≡ once_below s.counter number
  -- and they are as many
  pub many : sum_by (λ v. length v.drawn) s.views ≡ s.counter
  -- the counter and all allowances are the opening allowance
  pub allowances : s.counter + sum_by (λ v. v.allowance) s.views ≡ opening.allowance
  pub shares : sum_by (λ v. v.share) s.views ≡ opening.shares
  pub spent : All (λ v. v.share ≡ 0 → IsSpent v) s.views

-- the view after a draw of a number
abbrev pub drew : DrawView → ℕ → DrawView
drew v number = record { share = v.share; allowance = v.allowance - 1; drawn = v.drawn ++ number ∷ [] }

-- a new view of a split, and what is left of the first
abbrev pub given : ℕ → ℕ → DrawView
given share allowance = record { share = share; allowance = allowance; drawn = [] }

abbrev pub left : DrawView → ℕ → ℕ → DrawView
left v share allowance = record { share = v.share - share; allowance = v.allowance - allowance; drawn = v.drawn }

-- two views as one
abbrev pub joined : DrawView → DrawView → DrawView
joined v w = record { share = v.share + w.share; allowance = v.allowance + w.allowance; drawn = v.drawn ++ w.drawn }

-- no share, no allowance and nothing drawn
abbrev pub nothing : DrawView
nothing = given 0 0

-- what contracts see of the draws: which they are, and what they were opened with
pub record DrawsSeen : Type 0 where
  pub table : TableId
  pub shares : ℕ
  pub allowance : ℕ

-- what contracts see of a seat: which draws it is of, and what it knows
pub record SeatSeen : Type 0 where
  pub table : TableId
  pub view : DrawView
