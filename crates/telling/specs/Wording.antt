-- Days and months in words. Assumes nothing.
use Rattle.std.specs.Prelude.{ℕ, ◌+◌, ◌-◌, ◌/◌, ◌%◌, ◌^◌, List, ◌++◌, Option, Some, None, codes, decimal, min, nat_le, nat_lt, cond}
use Rattle.dates.specs.Weekdays.{weekday_of, weekday_name}
use Rattle.dates.specs.Written.{date_of, date_text, month_name}
use Rattle.dates.specs.declared.date.Date.{Date}

-- by the day's date, if it has one
abbrev pub dated : ℕ → Option Date → List ℕ
dated d None = codes "day " ++ decimal d
dated d (Some x) = weekday_name (weekday_of d) ++ (codes " " ++ date_text x)

-- as in Wednesday 26 March 2008
abbrev pub day_text : ℕ → List ℕ
day_text d = dated d (date_of d)

-- the same where a day is given
abbrev pub optional_day_text : Option ℕ → List ℕ
optional_day_text None = codes "none"
optional_day_text (Some d) = day_text d

-- as in March 2008
abbrev pub month_text : ℕ → List ℕ
month_text m =
    cond (nat_lt 99 (m / 12)) (codes "month " ++ decimal m) (month_name (m % 12 + 1) ++ (codes " " ++ decimal (2000 + m / 12)))

-- one month, or the first and the last of several
abbrev pub months_text : ℕ → ℕ → List ℕ
months_text first count =
    cond (nat_le count 1) (month_text first) (month_text first ++ (codes " to " ++ month_text (min (first + (count - 1)) (2 ^ 32 - 1))))
