-- The day of the week, and its name. Assumes nothing.
use Rattle.std.specs.Prelude.{ℕ, ◌%◌, List, [], ◌∷◌, codes, slice_index_or}
use Rattle.dates.specs.declared.weekday.Weekday.{Weekday}
use Rattle.dates.specs.declared.weekday.Weekday.TheVariants.{Saturday, Sunday, Monday, Tuesday, Wednesday, Thursday, Friday}

-- the week in the order of the day numbers
abbrev pub week : List Weekday
week = Saturday ∷ Sunday ∷ Monday ∷ Tuesday ∷ Wednesday ∷ Thursday ∷ Friday ∷ []

abbrev pub weekday_of : ℕ → Weekday
weekday_of d = slice_index_or week (d % 7) Saturday

abbrev pub weekday_name : Weekday → List ℕ
weekday_name Saturday = codes "Saturday"
weekday_name Sunday = codes "Sunday"
weekday_name Monday = codes "Monday"
weekday_name Tuesday = codes "Tuesday"
weekday_name Wednesday = codes "Wednesday"
weekday_name Thursday = codes "Thursday"
weekday_name Friday = codes "Friday"
