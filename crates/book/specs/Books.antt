-- What a book holds, and what a call makes of it. Assumes nothing.
use Rattle.std.specs.Prelude.{◌≡◌, ℕ, List, ℤ, ⊤, None, Option, Some, Err, Ok, Result}
use Rattle.book.specs.Stores.{terms_in, state_in}
use Rattle.book.specs.declared.book.Book.{Book}
use Rattle.book.specs.declared.make.NotMade.{NotMade}
use Rattle.coded.specs.declared.class_line.ClassLine.{ClassLine}
use Rattle.ledger.specs.Calls.{refusal, after}
use Rattle.ledger.specs.Ledger.{LivesOn}
use Rattle.ledger.specs.Make.{made_of, make_refusal}
use Rattle.ledger.specs.Questions.{margins_refusal, margins, holding_refusal, holding, cash_refusal, cash, list_after}
use Rattle.ledger.specs.State.{State, new_state}
use Rattle.ledger.specs.Words.{reply}
use Rattle.ledger.specs.declared.call.Call.{Call}
use Rattle.ledger.specs.declared.fault.Fault.{Fault}
use Rattle.ledger.specs.declared.payment.Payment.{Payment}
use Rattle.terms.specs.Meaning.{Meaning}
use Rattle.terms.specs.declared.terms.Terms.{Ghosts}

-- the question of a make that is answered no, if one is
abbrev pub refused_make : Meaning → ℕ → ℕ → List ClassLine → Option Fault
refused_make w month accounts lines = make_refusal w (made_of month accounts lines)

-- why nothing was made, where nothing was
abbrev pub unmade : {A T : Type 0} → Result A (NotMade T) → Option Fault
unmade (Ok x) = None
unmade (Err e) = Some e.fault

module _ {T : Type 0} {g : Ghosts T} where
  -- the terms that a book was made over, and what they mean
  abbrev pub terms_of : Book T g → T
  terms_of b = terms_in b.store

  abbrev pub meaning_of : Book T g → Meaning
  meaning_of b = g.meaning (terms_of b)

  -- what it holds
  abbrev pub book_of : Book T g → State
  book_of b = state_in b.store

  -- no lots, cash and prices yet, on the first open day of its month
  abbrev pub IsNew : Book T g → ℕ → ℕ → List ClassLine → Type 0
  IsNew b month accounts lines = book_of b ≡ new_state (meaning_of b) (made_of month accounts lines)

  -- the question of a call that is answered no, if one is; the answer; what the book holds afterwards; a payment list afterwards
  abbrev pub refused : Book T g → Call → Option Fault
  refused b call = refusal (meaning_of b) (book_of b) call

  abbrev pub answer : Book T g → Call → Result ⊤ Fault
  answer b call = reply (refused b call) tt

  abbrev pub left : Book T g → Call → State
  left b call = after (meaning_of b) (book_of b) call

  abbrev pub listed : Book T g → Call → List Payment → List Payment
  listed b call list = list_after (meaning_of b) (book_of b) call list

  -- whatever history a book has had, a call adds itself and its answer to it
  abbrev pub GoesOn : Book T g → Call → Book T g → Type 0
  GoesOn b call c = LivesOn (meaning_of b) (book_of b) call (book_of c)

  -- the answers of the calls that only ask
  abbrev pub margins_answer : Book T g → ℕ → Result ℤ Fault
  margins_answer b a = reply (margins_refusal (meaning_of b) (book_of b) a) (margins (meaning_of b) (book_of b) a)

  abbrev pub holding_answer : Book T g → ℕ → ℕ → Result ℤ Fault
  holding_answer b a c = reply (holding_refusal (meaning_of b) (book_of b) a c) (holding (book_of b) a c)

  abbrev pub cash_answer : Book T g → ℕ → Result ℤ Fault
  cash_answer b a = reply (cash_refusal (book_of b) a) (cash (book_of b) a)
