-- What a journal keeps: a book over terms, and all its calls with their answers. Assumes nothing.
use Rattle.std.specs.Prelude.{◌≡◌, ℕ, min, List, [], ◌∷◌, ◌++◌, reverse, ℤ, ⊤, Option, Result, vec_capacity}
use Rattle.book.specs.Books.{terms_of as terms_of_book, book_of}
use Rattle.coded.specs.declared.class_line.ClassLine.{ClassLine}
use Rattle.journal.specs.Statements.{States}
use Rattle.journal.specs.declared.journal.Journal.{Journal}
use Rattle.journal.specs.declared.statement.Statement.{Statement}
use Rattle.ledger.specs.Calls.{refusal, after}
use Rattle.ledger.specs.History.{History}
use Rattle.ledger.specs.Ledger.{Life, held}
use Rattle.ledger.specs.Make.{made_of}
use Rattle.ledger.specs.Questions.{list_after, cash_refusal}
use Rattle.ledger.specs.State.{State, new_state}
use Rattle.ledger.specs.Words.{reply}
use Rattle.ledger.specs.declared.call.Call.{Call}
use Rattle.ledger.specs.declared.entry.Entry.{Entry}
use Rattle.ledger.specs.declared.fault.Fault.{Fault}
use Rattle.ledger.specs.declared.payment.Payment.{Payment}
use Rattle.terms.specs.Meaning.{Meaning}
use Rattle.terms.specs.declared.terms.Terms.{Ghosts}

module _ {T : Type 0} {g : Ghosts T} where
  -- the terms that its book was made over, and what they mean
  abbrev pub terms_of : Journal T g → T
  terms_of j = terms_of_book j.book

  abbrev pub meaning_of : Journal T g → Meaning
  meaning_of j = g.meaning (terms_of j)

  -- what its book holds
  abbrev pub state_of : Journal T g → State
  state_of j = book_of j.book

  -- the calls and their answers, the first at the head, and the same as a history, the latest first
  abbrev pub entries_of : Journal T g → List Entry
  entries_of j = j.entries.items

  abbrev pub history_of : Journal T g → History
  history_of j = reverse (entries_of j)

  -- for how many entries it has memory, of those that can be read
  abbrev pub room_of : Journal T g → ℕ
  room_of j = min (vec_capacity j.entries) 1000000000

  -- the history reached the book, and the law of the ledger held at the start and after each of its calls
  abbrev pub Lives : Journal T g → Type 0
  Lives j = Life (meaning_of j) (history_of j) (state_of j)

  -- ---- its make

  -- no lots, cash and prices yet, on the first open day of its month
  abbrev pub IsNew : Journal T g → ℕ → ℕ → List ClassLine → Type 0
  IsNew j month accounts lines = state_of j ≡ new_state (meaning_of j) (made_of month accounts lines)

  -- ---- a call

  -- the question that is answered no, if one is; the answer; what the book holds afterwards; a payment list and the entries
  -- afterwards
  abbrev pub refused : Journal T g → Call → Option Fault
  refused j call = refusal (meaning_of j) (state_of j) call

  abbrev pub answer : Journal T g → Call → Result ⊤ Fault
  answer j call = reply (refused j call) tt

  abbrev pub left : Journal T g → Call → State
  left j call = after (meaning_of j) (state_of j) call

  abbrev pub listed : Journal T g → Call → List Payment → List Payment
  listed j call list = list_after (meaning_of j) (state_of j) call list

  abbrev pub noted : Journal T g → Call → List Entry
  noted j call = entries_of j ++ record { call = call; answer = refused j call } ∷ []

  -- ---- an account

  -- the question of a number that is no account
  abbrev pub unknown : Journal T g → ℕ → Option Fault
  unknown j a = cash_refusal (state_of j) a

  -- what it holds in a month, by the law
  abbrev pub held_in_month : Journal T g → ℕ → ℕ → ℤ
  held_in_month j a m = held (meaning_of j) (history_of j) (state_of j) a m

  abbrev pub held_answer : Journal T g → ℕ → ℕ → Result ℤ Fault
  held_answer j a m = reply (unknown j a) (held_in_month j a m)

  -- what the law says of it
  abbrev pub Stated : Journal T g → ℕ → Statement → Type 0
  Stated j a x = States (meaning_of j) (history_of j) (state_of j) a x
