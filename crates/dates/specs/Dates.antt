-- Days counted from 0, Saturday 1 January 2000, and months counted from 0, January 2000. Assumes nothing.
use Rattle.std.specs.Prelude.{◌≡◌, ℕ, zero, suc, ◌+◌, ◌%◌, ◌<◌, ◌≤◌, Bool, cond, List, [], ◌∷◌, Some, None, Option, ◌==◌, nat_le, nat_lt, slice_index}

-- an answer that is given where a test passes
abbrev pub when : {A : Type 0} → Bool → A → Option A
when b x = cond b (Some x) None

-- the days of each month of a common year
abbrev pub common : List ℕ
common = 31 ∷ 28 ∷ 31 ∷ 30 ∷ 31 ∷ 30 ∷ 31 ∷ 31 ∷ 30 ∷ 31 ∷ 30 ∷ 31 ∷ []

-- a month is the February of a leap year: from 2000 to 2099 each fourth year is one
abbrev pub leap_february : ℕ → Bool
leap_february m = m % 48 == 1

abbrev pub days_in : ℕ → ℕ
days_in m = slice_index common (m % 12) + cond (leap_february m) 1 0

-- the first day of a month
unfoldable pub start : ℕ → ℕ
start zero = 0
start (suc m) = start m + days_in m

-- the month of a day: it turns where the next month starts
unfoldable pub month_of : ℕ → ℕ
month_of zero = 0
month_of (suc d) = let m = month_of d in cond (suc d == start (suc m)) (suc m) m

-- a day lies in a month
pub record InMonth (d m : ℕ) : Type 0 where
  pub from : start m ≤ d
  pub to : d < start (m + 1)

-- the law of days and months, both ways: the month of a day is the one month in which it lies
pub record DaysAndMonths : Type 0 where
  pub lies : (d : ℕ) → InMonth d (month_of d)
  pub only : (d m : ℕ) → InMonth d m → m ≡ month_of d

-- there are 36,525 days and 1,200 months
abbrev pub month_of_day : ℕ → Option ℕ
month_of_day d = when (nat_lt d 36525) (month_of d)

abbrev pub first_day : ℕ → Option ℕ
first_day m = when (nat_lt m 1200) (start m)

abbrev pub month_length : ℕ → Option ℕ
month_length m = when (nat_lt m 1200) (days_in m)

-- Monday to Friday: day 0 is a Saturday
abbrev pub is_weekday : ℕ → Bool
is_weekday d = nat_le 2 (d % 7)
