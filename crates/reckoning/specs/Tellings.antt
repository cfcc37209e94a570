-- What is told of a book, and of an account of a journal. Assumes nothing.
use Rattle.std.specs.Prelude.{◌≡◌, ℕ, List, ◌++◌, String, string_bytes}
use Rattle.book.specs.Books.{book_of, meaning_of as meaning_of_book}
use Rattle.book.specs.declared.book.Book.{Book}
use Rattle.journal.specs.Journals.{meaning_of, state_of, history_of}
use Rattle.journal.specs.declared.journal.Journal.{Journal}
use Rattle.reckoning.specs.Reckonings.{sums_text, month_text, months_text, cash_text, account_text, known_text}
use Rattle.terms.specs.declared.terms.Terms.{Ghosts}

-- a text has so much more than before
abbrev pub Adds : {A : Type 0} → String A → String A → List ℕ → Type 0
Adds old new more = string_bytes new ≡ string_bytes old ++ more

module _ {T : Type 0} {g : Ghosts T} where
  -- the sums over all accounts of a book
  abbrev pub sums_of : Book T g → List ℕ
  sums_of b = sums_text (meaning_of_book b) (book_of b)

  -- of an account of a journal: a month, all its months, its cash, and all of it
  abbrev pub month_of : Journal T g → ℕ → ℕ → List ℕ
  month_of j a m = month_text (meaning_of j) (history_of j) (state_of j) a m

  abbrev pub months_of : Journal T g → ℕ → List ℕ
  months_of j a = months_text (meaning_of j) (history_of j) (state_of j) a

  abbrev pub cash_of : Journal T g → ℕ → List ℕ
  cash_of j a = cash_text (meaning_of j) (history_of j) (state_of j) a

  abbrev pub account_of : Journal T g → ℕ → List ℕ
  account_of j a = account_text (meaning_of j) (history_of j) (state_of j) a

  -- nothing, where the book does not have the account
  abbrev pub reckoned : Journal T g → ℕ → List ℕ
  reckoned j a = known_text (meaning_of j) (history_of j) (state_of j) a
