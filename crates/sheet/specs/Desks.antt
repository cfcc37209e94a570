-- What is had at a desk, what a line that is called there is answered and leaves, and what a whole sheet makes of a journal.
-- Assumes nothing.
use Rattle.std.specs.Prelude.{ℕ, List, ◌++◌, Result}
use Rattle.journal.specs.Journals.{terms_of, meaning_of, state_of, entries_of, room_of}
use Rattle.journal.specs.declared.journal.Journal.{Journal}
use Rattle.ledger.specs.State.{State}
use Rattle.ledger.specs.declared.entry.Entry.{Entry}
use Rattle.ledger.specs.declared.payment.Payment.{Payment}
use Rattle.products.specs.declared.product.Product.{Product}
use Rattle.rows.specs.declared.fault.SheetFault.{SheetFault}
use Rattle.rows.specs.declared.request.Request.{Request}
use Rattle.sheet.specs.Replies.{reply, left, noted}
use Rattle.sheet.specs.Sheets.{sheet_text, sheet_state, sheet_entries}
use Rattle.sheet.specs.declared.cause.Cause.{Cause}
use Rattle.sheet.specs.declared.desk.Desk.{Desk}
use Rattle.terms.specs.Meaning.{Meaning}
use Rattle.terms.specs.declared.terms.Terms.{Ghosts}

-- ---- at a desk

module _ {T : Type 0} {g : Ghosts T} where
  -- the terms of its journal, and what they mean
  abbrev pub terms_at : Desk T g → T
  terms_at d = terms_of d.journal

  abbrev pub meaning_at : Desk T g → Meaning
  meaning_at d = meaning_of d.journal

  -- what its book holds
  abbrev pub state_at : Desk T g → State
  state_at d = state_of d.journal

  -- the calls that were made, with their answers, the first at the head
  abbrev pub entries_at : Desk T g → List Entry
  entries_at d = entries_of d.journal

  -- for how many entries there is memory
  abbrev pub room_at : Desk T g → ℕ
  room_at d = room_of d.journal

  -- the reply to a line of values that asks this
  abbrev pub reply_at : Desk T g → Result Request SheetFault → Result (List Payment) Cause
  reply_at d asked = reply (meaning_at d) (state_at d) asked

  -- what the book holds afterwards, and the entries afterwards
  abbrev pub state_left : Desk T g → Result Request SheetFault → State
  state_left d asked = left (meaning_at d) (state_at d) asked

  abbrev pub entries_left : Desk T g → Result Request SheetFault → List Entry
  entries_left d asked = entries_at d ++ noted (meaning_at d) (state_at d) asked

-- ---- a sheet that is called on the book of a journal

module _ {T : Type 0} {g : Ghosts T} (j : Journal T g) (product : Product) (sheet : List ℕ) where
  -- the answers
  abbrev pub text_by : List ℕ
  text_by = sheet_text (meaning_of j) product (state_of j) sheet

  -- what the book holds afterwards, and the entries afterwards
  abbrev pub state_by : State
  state_by = sheet_state (meaning_of j) product (state_of j) sheet

  abbrev pub entries_by : List Entry
  entries_by = entries_of j ++ sheet_entries (meaning_of j) product (state_of j) sheet
