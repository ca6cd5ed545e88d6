-- Hundredths as they are printed: the whole part, a dot, and two digits.
use Rattle.std.specs.Prelude.{ℕ, List, ◌∷◌, ◌++◌, ◌/◌, ◌%◌, decimal}

abbrev pub dot : ℕ
dot = 46

unfoldable pub percent_text : ℕ → List ℕ
percent_text hundredths = decimal (hundredths / 100) ++ (dot ∷ (decimal (hundredths / 10 % 10) ++ decimal (hundredths % 10)))
