-- The figures of the law of the ledger, by what a book holds and a reading tells. Assumes nothing.
use Rattle.std.specs.Prelude.{ℕ, ℤ, pos, ◌-ℤ◌, ◌*ℤ◌, None, slice_index_or}
use Rattle.amounts.specs.SumsOfWhole.{sum_z, if_z}
use Rattle.history.specs.declared.reading.Reading.{Reading}
use Rattle.ledger.specs.State.{State, class_now, quantity_now}
use Rattle.ledger.specs.Words.{at, or_zero}
use Rattle.terms.specs.Meaning.{Meaning, has}

module _ (w : Meaning) (s : State) where
  -- lots in a class, if the class has a month
  abbrev pub held_in : ℕ → ℕ → ℕ → ℤ
  held_in a m c = if_z (has (class_now w s c) m) ((s.rows a).lots c)

  -- the lots of a class at the last close, at its last price
  abbrev pub last_in : Reading → ℕ → ℕ → ℤ
  last_in r a c = ((s.rows a).lots c -ℤ at r.since c) *ℤ (pos (quantity_now w s c) *ℤ or_zero (s.market.last c))

-- a month at its final price; one that is not settled counts 0
abbrev pub final_in : Meaning → Reading → ℕ → ℤ
final_in w r m = at r.nets m *ℤ (pos (w.quantity m) *ℤ or_zero (slice_index_or r.finals m None))

-- ---- over all accounts

-- the lots in a class
abbrev pub sum_of_lots : State → ℕ → ℤ
sum_of_lots s c = sum_z s.made.accounts (λ a. (s.rows a).lots c)

-- the cash
abbrev pub sum_of_cash : State → ℤ
sum_of_cash s = sum_z s.made.accounts (λ a. (s.rows a).cash)
