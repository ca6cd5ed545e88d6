-- Shares of a whole.
use Rattle.std.specs.Prelude.{ℕ, ◌+◌, ◌*◌, ◌/◌, ◌==◌, if◌then◌else◌}

-- a hundred times the percents that n is of t, rounded to the nearest, halves up; nothing is no share
abbrev pub hundredths : ℕ → ℕ → ℕ
hundredths n t = if t == 0 then 0 else (20000 * n + t) / (2 * t)
