-- The greatest value over the views of a table's seats.
use Rattle.std.specs.Prelude.{ℕ, max, List, [], ◌∷◌}

-- the greatest value of f over the views, or 0
abbrev pub greatest_by : {V : Type 0} → (V → ℕ) → List V → ℕ
greatest_by f [] = 0
greatest_by f (v ∷ views) = max (f v) (greatest_by f views)
