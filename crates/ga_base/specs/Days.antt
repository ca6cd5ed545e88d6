-- Days as numbers, `10000 * year + 100 * month + day`, and digits as texts.
use Rattle.std.specs.Prelude.{ℕ, ◌+◌, ◌≤◌, ◌/◌, ◌%◌, ◌^◌, List, [], ◌∷◌, map}

-- a day is written with eight digits
abbrev pub HasEightDigits : ℕ → Type 0
HasEightDigits date = (10000000 ≤ date) × (date ≤ 99999999)

-- these digits; 48 is the digit 0
abbrev pub eight_digits : ℕ → List ℕ
eight_digits date = map (λ place. 48 + date / 10 ^ place % 10) (7 ∷ 6 ∷ 5 ∷ 4 ∷ 3 ∷ 2 ∷ 1 ∷ 0 ∷ [])

-- a number below 100 with two digits
abbrev pub two_digits : ℕ → List ℕ
two_digits n = (48 + n / 10) ∷ (48 + n % 10) ∷ []
