-- The hours of each month. Assumes nothing.
use Rattle.std.specs.Prelude.{ℕ, ◌+◌, ◌-◌, ◌*◌, ◌%◌, ◌<◌, ◌≤◌, cond, ◌==◌}
use Rattle.calendars.specs.Calendars.{weekdays}
use Rattle.calendars.specs.Sets.{between}
use Rattle.dates.specs.Dates.{days_in, start}

-- 24 hours for each day, less one in March, plus one in October
abbrev pub baseload : ℕ → ℕ
baseload m = 24 * days_in m + cond (m % 12 == 9) 1 0 - cond (m % 12 == 2) 1 0

-- 12 hours for each Monday to Friday, whatever the calendar
abbrev pub peakload : ℕ → ℕ
peakload m = 12 * between weekdays (start m) (start (m + 1))

-- hours that terms may have
abbrev pub Bounded : (ℕ → ℕ) → Type 0
Bounded q = (m : ℕ) → m < 1200 → (1 ≤ q m) × (q m ≤ 745)
