-- The Gregorian calendar, in the years that log lines may have.
use Rattle.std.specs.Prelude.{ℕ, ◌+◌, ◌*◌, ◌%◌, ◌≤◌, Bool, not, ◌&&◌, ◌||◌, ◌==◌, if◌then◌else◌}

-- every fourth year, but of the centuries only every fourth
abbrev pub is_leap_year : ℕ → Bool
is_leap_year year = (year % 4 == 0) && (not (year % 100 == 0) || (year % 400 == 0))

-- thirty days have April, June, September and November
abbrev pub days_in_month : ℕ → ℕ → ℕ
days_in_month year month =
    if month == 2 then (if is_leap_year year then 29 else 28)
    else (if (month == 4) || (month == 6) || (month == 9) || (month == 11) then 30 else 31)

-- the calendar has this day, and its year has four digits, the first of them not 0
pub record IsDay (year month day : ℕ) : Type 0 where
  pub first_year : 1000 ≤ year
  pub last_year : year ≤ 9999
  pub first_month : 1 ≤ month
  pub last_month : month ≤ 12
  pub first_day : 1 ≤ day
  pub last_day : day ≤ days_in_month year month

-- the number that represents a day, as 20240229
abbrev pub number_of_day : ℕ → ℕ → ℕ → ℕ
number_of_day year month day = 10000 * year + 100 * month + day
