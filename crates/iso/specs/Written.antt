-- Days and months as programs read them. Assumes nothing.
use Rattle.std.specs.Prelude.{ℕ, ◌+◌, ◌/◌, ◌%◌, List, ◌++◌, Some, None, Option, codes, decimal}
use Rattle.dates.specs.Written.{date_of}
use Rattle.dates.specs.declared.date.Date.{Date}

-- two digits
abbrev pub two_digits : ℕ → List ℕ
two_digits n = decimal (n / 10) ++ decimal (n % 10)

-- as in 2008-03-26
abbrev pub dated : ℕ → Option Date → List ℕ
dated d None = codes "day " ++ decimal d
dated d (Some x) =
    decimal x.year ++ (codes "-" ++ (two_digits x.month ++ (codes "-" ++ two_digits x.day)))

abbrev pub day_written : ℕ → List ℕ
day_written d = dated d (date_of d)

-- as in 2008-03
abbrev pub month_written : ℕ → List ℕ
month_written m = decimal (2000 + m / 12) ++ (codes "-" ++ two_digits (m % 12 + 1))
