-- The market, as a table of prices has it. Assumes nothing.
use Rattle.std.specs.Prelude.{ℕ, List, ℤ, Some, None, Option, slice_index_or}
use Rattle.book.specs.declared.prices.Price.{Price}
use Rattle.book.specs.declared.prices.Prices.{Prices}
use Rattle.ledger.specs.State.{Market}

-- a price in cents, or none
abbrev pub cents_in : Option Price → Option ℤ
cents_in None = None
cents_in (Some p) = Some p.cents

-- the prices of a class, and none past the table
abbrev pub prices_at : List Prices → ℕ → Prices
prices_at ps c = slice_index_or ps c (record { last = None; today = None; repriced = None })

-- a market on a day, after so many accepted trades
abbrev pub market_of : ℕ → ℕ → List Prices → Market
market_of d n ps = record {
  day = d;
  accepted = n;
  last = λ c. cents_in (prices_at ps c).last;
  today = λ c. cents_in (prices_at ps c).today;
  repriced = λ c. cents_in (prices_at ps c).repriced;
}
