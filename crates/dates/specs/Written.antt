-- Dates as year, month and day, and as text. Assumes nothing.
use Rattle.std.specs.Prelude.{◌≡◌, ℕ, ◌+◌, ◌-◌, ◌*◌, ◌/◌, ◌%◌, Bool, ◌&&◌, List, [], ◌∷◌, ◌++◌, Some, codes, decimal, Option, nat_le, nat_lt, slice_index_or}
use Rattle.dates.specs.Dates.{when, days_in, start, month_of}
use Rattle.dates.specs.declared.date.Date.{Date}

-- the date of the n-th day of a month, counted from 0
abbrev pub date_in : ℕ → ℕ → Date
date_in m n = record { year = 2000 + m / 12; month = m % 12 + 1; day = n + 1 }

abbrev pub date_of : ℕ → Option Date
date_of d = when (nat_lt d 36525) (date_in (month_of d) (d - start (month_of d)))

-- the month of a date, where its year and month are of the range
abbrev pub month_of_date : Date → ℕ
month_of_date x = 12 * (x.year - 2000) + (x.month - 1)

-- there is such a date from 2000 to 2099
abbrev pub is_date : Date → Bool
is_date x =
    nat_le 2000 x.year && (nat_lt x.year 2100 && (nat_le 1 x.month && (nat_le x.month 12 && (nat_le 1 x.day && nat_le x.day (days_in (month_of_date x))))))

abbrev pub day_of : Date → Option ℕ
day_of x = when (is_date x) (start (month_of_date x) + (x.day - 1))

-- each day has one date, and each date of the range one day
pub record DatesAndDays : Type 0 where
  pub there : (d : ℕ) (x : Date) → date_of d ≡ Some x → day_of x ≡ Some d
  pub back : (x : Date) (d : ℕ) → day_of x ≡ Some d → date_of d ≡ Some x

-- names by the number of the month in its year; 0 is no month, nor is any number above 12
abbrev pub month_names : List (List ℕ)
month_names =
    codes "no month" ∷ codes "January" ∷ codes "February" ∷ codes "March" ∷ codes "April" ∷ codes "May" ∷ codes "June" ∷ codes "July" ∷ codes "August" ∷ codes "September" ∷ codes "October" ∷ codes "November" ∷ codes "December" ∷ []

abbrev pub month_name : ℕ → List ℕ
month_name n = slice_index_or month_names n (codes "no month")

-- as in 26 March 2008
abbrev pub date_text : Date → List ℕ
date_text x = decimal x.day ++ (codes " " ++ (month_name x.month ++ (codes " " ++ decimal x.year)))
