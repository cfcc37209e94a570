-- What the arguments of a life ask for. Assumes nothing.
use Rattle.std.specs.Prelude.{◌≡◌, ℕ, ◌+◌, ◌-◌, ◌*◌, ◌^◌, ◌&&◌, ◌==◌, List, [], ◌∷◌, Ok, Err, Some, None, Option, Result, cond, codes, bytes_eq, find, option_map, drop, take, length, map, max, min, nat_le, nat_lt, slice_get, slice_index, slice_index_or}
use Rattle.coded.specs.declared.class_line.ClassLine.{ClassLine}
use Rattle.products.specs.declared.product.Product.{Product}
use Rattle.products.specs.declared.product.Product.TheVariants.{Power, Wheat as OfWheat}
use Rattle.rows.specs.Fields.{fields}
use Rattle.setup.specs.declared.fault.ArgumentFault.{ArgumentFault}
use Rattle.setup.specs.declared.fault.ArgumentFault.TheVariants.{Product as NoProduct, Month as NoMonth, Accounts as NoAccounts, Intervals as NoIntervals, Followed as NoneFollowed, Count as WrongCount, NoMemory}
use Rattle.setup.specs.declared.traded.Traded.{Traded}
use Rattle.setup.specs.declared.traded.Traded.TheVariants.{Baseload, Peakload, Wheat}
use Rattle.std.specs.List.{range_with_len}
use Rattle.std.specs.Option.{ok_or}
use Rattle.text.specs.Numbers.{digits_value}

-- ---- one argument each

-- what is traded, by name
abbrev pub traded_names : List (List ℕ × Traded)
traded_names = (codes "baseload", Baseload) ∷ (codes "peakload", Peakload) ∷ (codes "wheat", Wheat) ∷ []

abbrev pub traded_named : List ℕ → Option Traded
traded_named name = option_map (λ row. row.1) (find (λ row. bytes_eq row.0 name) traded_names)

abbrev pub product_of : Traded → Product
product_of Baseload = Power
product_of Peakload = Power
product_of Wheat = OfWheat

-- the month of a year from 2000 to 2099 and a month of the year
abbrev pub month_by : Option ℕ → Option ℕ → Option ℕ
month_by None month = None
month_by (Some y) None = None
month_by (Some y) (Some m) =
    cond ((nat_le 2000 y && nat_lt y 2100) && (nat_le 1 m && nat_le m 12)) (Some (12 * (y - 2000) + (m - 1))) None

-- four digits, a dash and two digits
abbrev pub month_named : List ℕ → Option ℕ
month_named word =
    cond (length word == 7 && slice_index word 4 == 45) (month_by (digits_value (take 4 word)) (digits_value (drop 5 word))) None

-- an interval: a number that a class line has room for
abbrev pub interval_or_none : Option ℕ → Option ℕ
interval_or_none None = None
interval_or_none (Some n) = cond (nat_le n 65535) (Some n) None

abbrev pub interval_named : List ℕ → Option ℕ
interval_named field = interval_or_none (digits_value field)

-- a number in front of others, if there are all of them
abbrev pub in_front : Option ℕ → Option (List ℕ) → Option (List ℕ)
in_front None others = None
in_front (Some n) None = None
in_front (Some n) (Some others) = Some (n ∷ others)

unfoldable pub numbers_in : List (List ℕ) → Option (List ℕ)
numbers_in [] = Some []
numbers_in (field ∷ others) = in_front (interval_named field) (numbers_in others)

-- the numbers between the commas of a word, if each is one
abbrev pub intervals_named : List ℕ → Option (List ℕ)
intervals_named word = numbers_in (fields word)

-- an account of so many, if one is named
abbrev pub below : ℕ → Option ℕ → Result (Option ℕ) ArgumentFault
below accounts None = Err NoneFollowed
below accounts (Some a) = cond (nat_lt a accounts) (Ok (Some a)) (Err NoneFollowed)

abbrev pub followed_named : ℕ → Option (List ℕ) → Result (Option ℕ) ArgumentFault
followed_named accounts None = Ok None
followed_named accounts (Some word) = below accounts (digits_value word)

-- ---- all of them

-- what is asked for
pub record Asked : Type 0 where
  pub traded : Traded
  pub month : ℕ
  pub accounts : ℕ
  pub intervals : List ℕ
  pub followed : Option ℕ

-- an answer, and what goes on with it; the first fault ends all
infixl 10 ◌>>=◌
abbrev pub ◌>>=◌ : {A B : Type 0} → Result A ArgumentFault → (A → Result B ArgumentFault) → Result B ArgumentFault
Ok answer >>= next = next answer
Err fault >>= next = Err fault

abbrev pub setup_by : (ℕ → List ℕ) → Option (List ℕ) → Result Asked ArgumentFault
setup_by word last = do
  traded ← ok_or (traded_named (word 0)) NoProduct
  month ← ok_or (month_named (word 1)) NoMonth
  accounts ← ok_or (digits_value (word 2)) NoAccounts
  intervals ← ok_or (intervals_named (word 3)) NoIntervals
  followed ← followed_named accounts last
  Ok (record { traded = traded; month = month; accounts = accounts; intervals = intervals; followed = followed })

-- five words, of which the last is the file of closed days, or a sixth that names the account that is followed
unfoldable pub setup_of : List (List ℕ) → Result Asked ArgumentFault
setup_of words =
    cond (nat_le 5 (length words) && nat_le (length words) 6) (setup_by (λ k. slice_index_or words k []) (slice_get words 5)) (Err WrongCount)

-- what a refusal says of the arguments; where memory ran out, nothing
abbrev pub Refuses : {A : Type 0} → Result A ArgumentFault → ArgumentFault → Type 0
Refuses asked NoMemory = Unit {0}
Refuses asked NoProduct = asked ≡ Err NoProduct
Refuses asked NoMonth = asked ≡ Err NoMonth
Refuses asked NoAccounts = asked ≡ Err NoAccounts
Refuses asked NoIntervals = asked ≡ Err NoIntervals
Refuses asked NoneFollowed = asked ≡ Err NoneFollowed
Refuses asked WrongCount = asked ≡ Err WrongCount

-- ---- the class lines

-- the interval of a class: the last one listed serves every class for which none is listed
abbrev pub interval_at : List ℕ → ℕ → ℕ
interval_at intervals c = slice_index_or intervals c (slice_index_or intervals (length intervals - 1) 0)

abbrev pub class_line : List ℕ → ℕ → ClassLine
class_line intervals c = record { class = c; interval = interval_at intervals c }

-- a line for each class, and for each interval that is listed beyond them
abbrev pub class_lines : ℕ → List ℕ → List ClassLine
class_lines classes intervals = map (class_line intervals) (range_with_len 0 (max classes (min (length intervals) (2 ^ 32 - 1))))
