-- The year of a list of closed days. Assumes nothing.
use Rattle.std.specs.Prelude.{ℕ, ◌-◌, ◌%◌, List, [], ◌∷◌}
use Rattle.std.specs.Option.{unwrap_or}
use Rattle.dates.specs.Dates.{month_of_day}
use Rattle.holidays.specs.Builtin.{builtin_days}

-- the first of a list, and 0 for the empty one
abbrev pub first_of : List ℕ → ℕ
first_of [] = 0
first_of (d ∷ ds) = d

-- the list, or the built-in one where it is empty
abbrev pub or_builtin : List ℕ → List ℕ
or_builtin [] = builtin_days
or_builtin (d ∷ ds) = d ∷ ds

-- the first month of the year of a day
abbrev pub first_month : ℕ → ℕ
first_month d = unwrap_or (month_of_day d) 0 - unwrap_or (month_of_day d) 0 % 12
