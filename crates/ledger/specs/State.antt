-- What a book holds: what it was made with, a market, and a row for each account. Assumes nothing.
use Rattle.std.specs.Prelude.{ℕ, List, ℤ, pos, None, Option}
use Rattle.calendars.specs.Walks.{first_in_month}
use Rattle.coded.specs.declared.class_line.ClassLine.{ClassLine}
use Rattle.std.specs.Option.{unwrap_or}
use Rattle.terms.specs.Meaning.{Meaning, class_quantity}
use Rattle.terms.specs.declared.class_terms.ClassTerms.{ClassTerms}

-- what a book was made with: its start month, how many accounts it has, and its class lines
pub record Made : Type 0 where
  pub month : ℕ
  pub accounts : ℕ
  pub lines : List ClassLine

-- what is the same for all accounts: the day, how many trades were accepted, and by class the last price, the day's price
-- and the repricing
pub record Market : Type 0 where
  pub day : ℕ
  pub accepted : ℕ
  pub last : ℕ → Option ℤ
  pub today : ℕ → Option ℤ
  pub repriced : ℕ → Option ℤ

-- what one account has: by class its lots now, and the day's trades in lots and at cost (lots × price), a buy counting
-- positive; its cash in cents
pub record Row : Type 0 where
  pub lots : ℕ → ℤ
  pub traded : ℕ → ℤ
  pub cost : ℕ → ℤ
  pub cash : ℤ

pub record State : Type 0 where
  pub made : Made
  pub market : Market
  pub rows : ℕ → Row

-- a class on the book's day, and the quantity of one lot in it
abbrev pub class_now : Meaning → State → ℕ → Option ClassTerms
class_now w s c = w.on s.market.day c

abbrev pub quantity_now : Meaning → State → ℕ → ℕ
quantity_now w s c = class_quantity w (class_now w s c)

-- ---- a new book

-- the first open day of a month
abbrev pub start_day : Meaning → ℕ → ℕ
start_day w m = unwrap_or (first_in_month w.opens m) 0

-- without prices
abbrev pub new_market : ℕ → Market
new_market d = record { day = d; accepted = 0; last = λ c. None; today = λ c. None; repriced = λ c. None }

-- without lots and cash
abbrev pub nil_row : Row
nil_row = record { lots = λ c. pos 0; traded = λ c. pos 0; cost = λ c. pos 0; cash = pos 0 }

-- on the start month's first open day
abbrev pub new_state : Meaning → Made → State
new_state w m = record { made = m; market = new_market (start_day w m.month); rows = λ a. nil_row }
