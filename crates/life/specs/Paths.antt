-- The path of an account: what it has after a close or a settle, and in which classes. Assumes nothing.
use Rattle.std.specs.Prelude.{ℕ, ◌+◌, ◌-◌, List, [], ◌++◌, ℤ, Option, Some, None, ◌==◌, cond, codes, decimal, unsigned_abs, unwrap_or}
use Rattle.std.specs.Fmt.{signed_decimal}
use Rattle.std.specs.List.{flat_map, range_with_len}
use Rattle.ledger.specs.Calls.{known}
use Rattle.ledger.specs.Questions.{margins_refusal, margins}
use Rattle.ledger.specs.State.{State, class_now, quantity_now}
use Rattle.ledger.specs.declared.fault.Fault.{Fault}
use Rattle.iso.specs.Written.{day_written, month_written}
use Rattle.products.specs.Products.{class_name}
use Rattle.products.specs.declared.product.Product.{Product}
use Rattle.terms.specs.Meaning.{Meaning}
use Rattle.terms.specs.declared.class_terms.ClassTerms.{ClassTerms}
use Rattle.terms.specs.declared.class_terms.Months.{Months}

-- a price or margins, or nothing where there are none
abbrev pub amount_or_blank : Option ℤ → List ℕ
amount_or_blank None = []
amount_or_blank (Some x) = signed_decimal x

-- the margins, unless they are refused
abbrev pub unless_refused : Option Fault → ℤ → Option ℤ
unless_refused None x = Some x
unless_refused (Some fault) x = None

-- the first and the last month of a class
abbrev pub span_written : Months → List ℕ
span_written months = month_written months.first ++ (codes "," ++ month_written (months.first + (months.count - 1)))

-- the quantity of one lot, the lots and the last price
abbrev pub holding_written : ℕ → ℤ → Option ℤ → List ℕ
holding_written quantity lots price =
    decimal quantity ++ (codes "," ++ (signed_decimal lots ++ (codes "," ++ amount_or_blank price)))

module _ (w : Meaning) (product : Product) (s : State) where
  -- the day, the account, its cash and its margins
  abbrev pub account_row : ℕ → List ℕ
  account_row a =
      codes "account," ++ (day_written s.market.day ++ (codes "," ++ (decimal a ++ (codes "," ++ (signed_decimal (s.rows a).cash ++ (codes "," ++ (amount_or_blank (unless_refused (margins_refusal w s a) (margins w s a)) ++ codes "\n")))))))

  -- the day, the class, its first and last month, the quantity of one lot, the lots and the last price
  abbrev pub position_row : ℕ → Months → ℤ → List ℕ
  position_row c months lots =
      codes "position," ++ (day_written s.market.day ++ (codes "," ++ (unwrap_or (class_name product c) (codes "no class") ++ (codes "," ++ (span_written months ++ (codes "," ++ (holding_written (quantity_now w s c) lots (s.market.last c) ++ codes "\n")))))))

  -- a row for a class, if the account holds lots in it
  abbrev pub row_of : Option ClassTerms → ℕ → ℤ → List ℕ
  row_of None c lots = []
  row_of (Some here) c lots = position_row c here.months lots

  abbrev pub class_row : ℕ → ℕ → List ℕ
  class_row a c =
      cond (unsigned_abs ((s.rows a).lots c) == 0) [] (row_of (class_now w s c) c ((s.rows a).lots c))

  -- a row for the account, and one for each class that it holds
  unfoldable pub path_text : ℕ → List ℕ
  path_text a = account_row a ++ flat_map (class_row a) (range_with_len 0 w.classes)

-- the path of the account that is followed, if one is and the book has it
abbrev pub followed_text : Meaning → Product → State → Option ℕ → List ℕ
followed_text w product s None = []
followed_text w product s (Some a) = cond (known s a) (path_text w product s a) []
