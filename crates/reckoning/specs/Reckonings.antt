-- The law of the ledger in figures, in sentences. Assumes nothing.
use Rattle.std.specs.Prelude.{ℕ, Bool, List, [], ◌++◌, ℤ, Option, Some, None, ◌==◌, ◌&&◌, cond, codes, nat_lt, decimal, length, unsigned_abs}
use Rattle.iso.specs.Written.{month_written}
use Rattle.journal.specs.Figures.{sum_of_lots, sum_of_cash}
use Rattle.ledger.specs.Calls.{known}
use Rattle.ledger.specs.History.{History, net, booked, final}
use Rattle.ledger.specs.Ledger.{held, at_last, at_final}
use Rattle.ledger.specs.State.{State}
use Rattle.std.specs.Fmt.{signed_decimal}
use Rattle.std.specs.List.{filter, flat_map, range_with_len}
use Rattle.terms.specs.Meaning.{Meaning}

-- a sentence on a line of its own
abbrev pub line : List ℕ → List ℕ
line sentence = sentence ++ codes "\n"

-- ---- over all accounts

-- a class of the terms in which the lots of all accounts sum to zero
abbrev pub even : Meaning → State → ℕ → Bool
even w s c = nat_lt c w.classes && unsigned_abs (sum_of_lots s c) == 0

-- how many such classes there are
abbrev pub even_classes : Meaning → State → ℕ
even_classes w s = length (filter (even w s) (range_with_len 0 w.classes))

-- over all accounts: in how many of the classes the lots sum to zero, and to what the cash sums
unfoldable pub sums_told : ℕ → ℕ → ℤ → List ℕ
sums_told even classes cash =
    codes "over all accounts: lots sum to zero in " ++ (decimal even ++ (codes " of " ++ (decimal classes ++ (codes " classes; cash sums to " ++ (signed_decimal cash ++ codes " cents")))))

abbrev pub sums_text : Meaning → State → List ℕ
sums_text w s = line (sums_told (even_classes w s) w.classes (sum_of_cash s))

-- ---- of one account

-- whether a month is finally settled, and at which price
unfoldable pub settled_told : Option ℤ → List ℕ
settled_told None = codes "not settled"
settled_told (Some price) = codes "settled at " ++ signed_decimal price

-- an account and a month
unfoldable pub place_told : ℕ → ℕ → List ℕ
place_told a m = codes "account " ++ (decimal a ++ (codes ", " ++ month_written m))

-- an account's month: its buys less sells, what it holds, and whether the month is settled
unfoldable pub month_told : ℕ → ℕ → ℤ → ℤ → Option ℤ → List ℕ
month_told a m bought holds settled =
    place_told a m ++ (codes ": buys less sells " ++ (signed_decimal bought ++ (codes " lots; holds " ++ (signed_decimal holds ++ (codes " lots; " ++ settled_told settled)))))

-- it is told where the account has bought more or less than it sold
abbrev pub month_line : ℕ → ℕ → ℤ → ℤ → Option ℤ → List ℕ
month_line a m bought holds settled =
    cond (unsigned_abs bought == 0) [] (line (month_told a m bought holds settled))

-- the account's cash, and what explains it
unfoldable pub cash_told : ℕ → ℤ → ℤ → ℤ → ℤ → List ℕ
cash_told a at_last at_final booked cash =
    codes "account " ++ (decimal a ++ (codes ": holdings at last prices " ++ (signed_decimal at_last ++ (codes ", plus settled months at final prices " ++ (signed_decimal at_final ++ (codes ", less trades at cost " ++ (signed_decimal booked ++ (codes "; cash " ++ (signed_decimal cash ++ codes " cents")))))))))

-- by the terms, the history and what the book holds, as the law has it
module _ (w : Meaning) (h : History) (s : State) (a : ℕ) where
  abbrev pub month_text : ℕ → List ℕ
  month_text m = month_line a m (net w s.made.month h a m) (held w h s a m) (final w s.made.month h m)

  abbrev pub cash_text : List ℕ
  cash_text = line (cash_told a (at_last w h s a) (at_final w h s a) (booked w s.made.month h a) (s.rows a).cash)

  -- all its months
  unfoldable pub months_text : List ℕ
  months_text = flat_map month_text (range_with_len 0 1200)

  -- its months, and its cash
  unfoldable pub account_text : List ℕ
  account_text = months_text ++ cash_text

-- of an account that the book does not have, nothing is told
abbrev pub known_text : Meaning → History → State → ℕ → List ℕ
known_text w h s a = cond (known s a) (account_text w h s a) []
