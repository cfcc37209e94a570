-- The built-in closed days. Assumes nothing.
use Rattle.std.specs.Prelude.{◌≡◌, ℕ, List, [], ◌∷◌, map, Some, Option}
use Rattle.std.specs.List.{flat_map}
use Rattle.std.specs.Option.{option_to_list}
use Rattle.dates.specs.Written.{day_of}

-- the day of a date of 2008, which is given by its month and its day of the month
abbrev pub day_in2008 : ℕ × ℕ → Option ℕ
day_in2008 x = day_of (record { year = 2008; month = x.0; day = x.1 })

-- the days of those that are dates
abbrev pub days_in2008 : List (ℕ × ℕ) → List ℕ
days_in2008 = flat_map (λ x. option_to_list (day_in2008 x))

-- 21 March is Good Friday, 24 March Easter Monday
abbrev pub closed_in2008 : List (ℕ × ℕ)
closed_in2008 = (1, 1) ∷ (3, 21) ∷ (3, 24) ∷ (4, 25) ∷ (5, 1) ∷ (6, 2) ∷ (8, 15) ∷ (12, 8) ∷ (12, 25) ∷ (12, 26) ∷ []

abbrev pub builtin_days : List ℕ
builtin_days = days_in2008 closed_in2008

-- each of them is a date and has its day
abbrev pub EachHasADay : Type 0
EachHasADay = map day_in2008 closed_in2008 ≡ map Some builtin_days
