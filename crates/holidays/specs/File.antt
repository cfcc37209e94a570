-- A file of closed days: the day of a line, and the days of a text. Assumes nothing.
use Rattle.std.specs.Prelude.{◌≡◌, ℕ, ◌+◌, cond, ◌&&◌, List, [], ◌∷◌, ◌++◌, length, take, drop, Some, None, Ok, Err, Option, Result, codes, decimal, ◌==◌, slice_index}
use Rattle.dates.specs.Written.{day_of}
use Rattle.text.specs.Lines.{lines}
use Rattle.text.specs.Numbers.{digits_value}
use Rattle.holidays.specs.declared.file.ReadFault.{ReadFault}
use Rattle.holidays.specs.declared.file.ReadFault.TheVariants.{NotADate, NoMemory}

-- the day of a year, a month and a day of the month, where each is given
abbrev pub day_by : Option ℕ → Option ℕ → Option ℕ → Option ℕ
day_by None month day = None
day_by (Some y) None day = None
day_by (Some y) (Some m) None = None
day_by (Some y) (Some m) (Some d) = day_of (record { year = y; month = m; day = d })

-- four digits, a dash, two digits, a dash and two digits
abbrev pub iso_day : List ℕ → Option ℕ
iso_day line =
    cond (length line == 10 && (slice_index line 4 == 45 && slice_index line 7 == 45))
    (day_by (digits_value (take 4 line)) (digits_value (take 2 (drop 5 line))) (digits_value (take 2 (drop 8 line))))
    None

-- a line with number n in front of other lines: its day in front of theirs, or n where it is no date
abbrev pub in_front : ℕ → Option ℕ → Result (List ℕ) ℕ → Result (List ℕ) ℕ
in_front n None others = Err n
in_front n (Some day) (Ok days) = Ok (day ∷ days)
in_front n (Some day) (Err bad) = Err bad

-- the days of lines that are numbered from n on, or the number of the first that is no date
unfoldable pub days_from : ℕ → List (List ℕ) → Result (List ℕ) ℕ
days_from n [] = Ok []
days_from n (line ∷ others) = in_front n (iso_day line) (days_from (n + 1) others)

-- the lines of a text are numbered from 1 on
abbrev pub days_read : List ℕ → Result (List ℕ) ℕ
days_read text = days_from 1 (lines text)

-- what a refusal says of the text; where memory ran out, nothing
abbrev pub Refuses : List ℕ → ReadFault → Type 0
Refuses text (NotADate n) = days_read text ≡ Err n
Refuses text NoMemory = Unit {0}

-- a refusal in words
abbrev pub fault_text : ReadFault → List ℕ
fault_text (NotADate n) =
    codes "line " ++ (decimal n ++ codes " is no date of the form YYYY-MM-DD from 2000 to 2099")
fault_text NoMemory = codes "no memory for the closed days"
