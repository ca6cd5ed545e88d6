-- The two sides of a disk.
use Rattle.std.specs.Prelude.{ℕ, zero, suc, List}

-- one thing of each side
pub record Both (A : Type 0) : Type 0 where
  pub side0 : A
  pub side1 : A

-- the bytes of both sides at one moment
abbrev pub Sides : Type 0
Sides = Both (List ℕ)

-- that of one side; any number but 0 is side 1
abbrev pub of_side : {A : Type 0} → ℕ → Both A → A
of_side zero both = both.side0
of_side (suc n) both = both.side1

-- the same with another thing for one side
abbrev pub with_side : {A : Type 0} → ℕ → A → Both A → Both A
with_side zero thing both = record { side0 = thing; side1 = both.side1 }
with_side (suc n) thing both = record { side0 = both.side0; side1 = thing }
