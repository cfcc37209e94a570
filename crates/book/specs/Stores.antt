-- What a store holds. Assumes nothing.
use Rattle.std.specs.Prelude.{◌≡◌, ℕ, ◌<◌, List, ℤ, None, Option}
use Rattle.book.specs.Tables.{state_of}
use Rattle.book.specs.declared.store.Store.{Store}
use Rattle.ledger.specs.Calls.{refusal, done, after, today}
use Rattle.ledger.specs.Ledger.{Keeps}
use Rattle.ledger.specs.Make.{make_refusal}
use Rattle.ledger.specs.Questions.{list_after}
use Rattle.ledger.specs.State.{Row, State}
use Rattle.ledger.specs.Words.{at}
use Rattle.ledger.specs.declared.call.Call.{Call}
use Rattle.ledger.specs.declared.fault.Fault.{Fault}
use Rattle.ledger.specs.declared.payment.Payment.{Payment}
use Rattle.terms.specs.Day.{Day}
use Rattle.terms.specs.Meaning.{Meaning}
use Rattle.terms.specs.declared.terms.Terms.{Ghosts}

module _ {T : Type 0} {g : Ghosts T} where
  -- the terms of a store, what they mean, and the state that it holds
  abbrev pub terms_in : Store T g → T
  terms_in s = s.dated.terms

  abbrev pub meaning_in : Store T g → Meaning
  meaning_in s = g.meaning s.dated.terms

  abbrev pub state_in : Store T g → State
  state_in s = state_of s.dated.table s.tables

  -- what the terms say of its day, and how many accounts it has
  abbrev pub day_in_store : Store T g → Day
  day_in_store s = today (meaning_in s) (state_in s)

  abbrev pub accounts_in : Store T g → ℕ
  accounts_in s = (state_in s).made.accounts

  -- the question of a call that is answered no, if one is; what an accepted call makes of the state; the state and a payment
  -- list after any call
  abbrev pub refused_in : Store T g → Call → Option Fault
  refused_in s call = refusal (meaning_in s) (state_in s) call

  abbrev pub done_in : Store T g → Call → State
  done_in s call = done (meaning_in s) (state_in s) call

  abbrev pub left_in : Store T g → Call → State
  left_in s call = after (meaning_in s) (state_in s) call

  abbrev pub listed_in : Store T g → Call → List Payment → List Payment
  listed_in s call list = list_after (meaning_in s) (state_in s) call list

  -- payments are of each account what a figure of its row is
  abbrev pub Pays : Store T g → (Row → ℤ) → List ℤ → Type 0
  Pays s f pays = (a : ℕ) → a < accounts_in s → at pays a ≡ f ((state_in s).rows a)

  -- it keeps what every book keeps, and was made by an accepted make
  pub record Ready (s : Store T g) : Type 0 where
    pub keeps : Keeps (meaning_in s) (state_in s)
    pub made : make_refusal (meaning_in s) (state_in s).made ≡ None
