-- The law of calendars, and the weekday and list calendars. Assumes nothing.
use Rattle.std.specs.Prelude.{◌≡◌, ℕ, ◌+◌, ◌<◌, ◌≤◌, Bool, false, not, ◌&&◌, List, length, is_some, Option, nat_lt, slice_index}
use Rattle.coded.specs.Places.{Rising, place}
use Rattle.dates.specs.Dates.{when, start, is_weekday}
use Rattle.calendars.specs.Sets.{between}

-- how many days of the set come after a month's ninth, within the month
abbrev pub after_ninth : (ℕ → Bool) → ℕ → Option ℕ
after_ninth f m = when (nat_lt m 1200) (between f (start m + 9) (start (m + 1)))

-- every month has at least four after its ninth
abbrev pub Four : (ℕ → Bool) → Type 0
Four f = (m : ℕ) → m < 1200 → 4 ≤ between f (start m + 9) (start (m + 1))

-- the law of calendars
pub record Lawful (f : ℕ → Bool) : Type 0 where
  pub closed : (d : ℕ) → 36525 ≤ d → f d ≡ false
  pub four : Four f

-- Monday to Friday
abbrev pub weekdays : ℕ → Bool
weekdays d = nat_lt d 36525 && is_weekday d

-- Monday to Friday but for the days of a list
abbrev pub listed : List ℕ → ℕ → Bool
listed closed d = weekdays d && not (is_some (place closed d))

-- strictly rising days of the range
abbrev pub Ordered : List ℕ → Type 0
Ordered xs = Rising xs × ((i : ℕ) → i < length xs → slice_index xs i < 36525)
