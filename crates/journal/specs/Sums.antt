-- Sums over all accounts of a book. Assumes nothing.
use Rattle.std.specs.Prelude.{ℕ, ℤ, None, Option, nat_lt}
use Rattle.book.specs.Books.{book_of, meaning_of}
use Rattle.book.specs.declared.book.Book.{Book}
use Rattle.journal.specs.Figures.{sum_of_lots, sum_of_cash}
use Rattle.ledger.specs.Words.{ask}
use Rattle.ledger.specs.declared.fault.Fault.{Fault}
use Rattle.ledger.specs.declared.fault.Fault.TheVariants.{UnknownClass}
use Rattle.terms.specs.declared.terms.Terms.{Ghosts}

module _ {T : Type 0} {g : Ghosts T} where
  -- the question of a number that is no class
  abbrev pub unknown_class : Book T g → ℕ → Option Fault
  unknown_class b c = ask (nat_lt c (meaning_of b).classes) UnknownClass None

  abbrev pub all_lots : Book T g → ℕ → ℤ
  all_lots b c = sum_of_lots (book_of b) c

  abbrev pub all_cash : Book T g → ℤ
  all_cash b = sum_of_cash (book_of b)
