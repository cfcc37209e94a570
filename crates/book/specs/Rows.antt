-- Accounts as rows. Assumes nothing.
use Rattle.std.specs.Prelude.{◌≡◌, ℕ, ◌<◌, ◌≤◌, false, List, map, length, ℤ, pos, ◌+ℤ◌, ◌*ℤ◌, Some, None, Option, slice_index_or, unsigned_abs}
use Rattle.amounts.specs.Amounts.{part_payment}
use Rattle.amounts.specs.SumsOfWhole.{sum_z, if_z}
use Rattle.book.specs.declared.account.Account.{Account}
use Rattle.day_table.specs.Table.{day_in}
use Rattle.day_table.specs.declared.table.DayTable.{DayTable}
use Rattle.ledger.specs.Calls.{after_parts}
use Rattle.ledger.specs.State.{Row, nil_row}
use Rattle.ledger.specs.Words.{at, put, from}
use Rattle.terms.specs.Day.{Day}

-- an account's row
abbrev pub row_of : Account → Row
row_of x = record { lots = at x.lots; traded = at x.traded; cost = at x.cost; cash = x.cash }

-- the rows of accounts in a list; past its end nothing is held
abbrev pub rows_of : List Account → ℕ → Row
rows_of xs a = slice_index_or (map row_of xs) a nil_row

-- ---- steps of a settle and a close

-- a row that is paid cents for all its lots of a class
abbrev pub row_paid : ℕ → ℤ → Row → Row
row_paid c cents r = record r { lots = put r.lots c (pos 0); cash = r.cash +ℤ cents }

-- a row that is paid cents by a close, after which no trades of the day are left
abbrev pub row_credited : ℤ → Row → Row
row_credited cents r = record r { traded = λ c. pos 0; cost = λ c. pos 0; cash = r.cash +ℤ cents }

-- a row whose lots went to their parts and then from these classes to those that succeed them
abbrev pub row_carried : Day → (ℕ → Option ℕ) → Row → Row
row_carried d source r = record r { lots = λ t. from (source t) (pos 0) (after_parts d r) }

-- what a row is paid for the parts, where each class has a newest price in cents
abbrev pub parts_pay_at : Day → (ℕ → ℤ) → Row → ℤ
parts_pay_at d newest r =
    sum_z d.classes (λ c. sum_z d.classes (λ p. if_z (d.part c p) (part_payment (d.quantity p) (r.lots c) (newest p) (newest c))))

-- ---- ranges

-- a row has room for a trade of lots at a price in a class
pub record Room (r : Row) (c : ℕ) (n p : ℤ) : Type 0 where
  pub lots : unsigned_abs (r.lots c +ℤ n) ≤ 1000
  pub traded : unsigned_abs (r.traded c +ℤ n) ≤ 100000000
  pub cost : unsigned_abs (r.cost c +ℤ n *ℤ p) ≤ 10000000000000

-- where no class has parts, none is whole or a part
abbrev pub Flagged : DayTable → Type 0
Flagged t = t.some_parts ≡ false → (c p : ℕ) → ((day_in t).whole c ≡ false) × ((day_in t).part c p ≡ false)

-- the quantities of a day
abbrev pub SmallDay : DayTable → Type 0
SmallDay t = (c : ℕ) → (day_in t).quantity c ≤ 8940

-- prices in cents
abbrev pub SmallCents : List ℤ → Type 0
SmallCents xs = (c : ℕ) → unsigned_abs (at xs c) ≤ 100000

-- each class that is succeeded is one of so many
abbrev pub Known : ℕ → List (Option ℕ) → Type 0
Known n sources = (t c : ℕ) → slice_index_or sources t None ≡ Some c → c < n

-- payments that leave the cash of each account in range
abbrev pub CashFits : List Account → List ℤ → Type 0
CashFits xs pays = (a : ℕ) → a < length xs → unsigned_abs ((rows_of xs a).cash +ℤ at pays a) ≤ 9000000000000000000
