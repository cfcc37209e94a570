-- A whole sheet: the lines that are written, and what becomes of the book. Assumes nothing.
use Rattle.std.specs.Prelude.{ℕ, ◌+◌, List, [], ◌∷◌, ◌++◌, Ok, Err, Result, cond, codes, length, nat_le}
use Rattle.ledger.specs.State.{State}
use Rattle.ledger.specs.declared.entry.Entry.{Entry}
use Rattle.products.specs.declared.product.Product.{Product}
use Rattle.rows.specs.Columns.{names_of}
use Rattle.rows.specs.Requests.{request}
use Rattle.rows.specs.declared.fault.SheetFault.{SheetFault}
use Rattle.rows.specs.declared.fault.SheetFault.TheVariants.{TooLong, ColumnNames}
use Rattle.sheet.specs.Answers.{answer_line, refused}
use Rattle.sheet.specs.Replies.{reply, reply_text, left, noted}
use Rattle.sheet.specs.declared.cause.Cause.TheVariants.{Sheet}
use Rattle.sheet.specs.declared.cause.LineFault.{LineFault}
use Rattle.terms.specs.Meaning.{Meaning}
use Rattle.text.specs.Lines.{lines}

-- ---- the names line

-- where the columns stand, and the lines of values below the names line
abbrev pub below : Result (List ℕ) SheetFault → List (List ℕ) → Result (List ℕ × List (List ℕ)) LineFault
below (Ok places) rows = Ok (places, rows)
below (Err fault) rows = Err (record { line = 1; cause = Sheet fault })

abbrev pub headed : List (List ℕ) → Result (List ℕ × List (List ℕ)) LineFault
headed [] = Err (record { line = 1; cause = Sheet ColumnNames })
headed (names ∷ rows) = below (names_of names) rows

-- a sheet is at most 65,536 bytes long and begins with a names line
abbrev pub opened : List ℕ → Result (List ℕ × List (List ℕ)) LineFault
opened sheet = cond (nat_le (length sheet) 65536) (headed (lines sheet)) (Err (record { line = 0; cause = Sheet TooLong }))

-- ---- the lines of values, one after the other on the same book

module _ (w : Meaning) (product : Product) (places : List ℕ) where
  -- the answers, from line n on
  unfoldable pub rows_text : ℕ → State → List (List ℕ) → List ℕ
  rows_text n s [] = []
  rows_text n s (row ∷ rows) =
      reply_text n (reply w s (request product places row)) ++ rows_text (n + 1) (left w s (request product places row)) rows

  -- what the book holds afterwards
  unfoldable pub rows_state : State → List (List ℕ) → State
  rows_state s [] = s
  rows_state s (row ∷ rows) = rows_state (left w s (request product places row)) rows

  -- the calls that reach the book, with their answers
  unfoldable pub rows_entries : State → List (List ℕ) → List Entry
  rows_entries s [] = []
  rows_entries s (row ∷ rows) =
      noted w s (request product places row) ++ rows_entries (left w s (request product places row)) rows

-- ---- the sheet

module _ (w : Meaning) (product : Product) (s : State) where
  abbrev pub body_text : Result (List ℕ × List (List ℕ)) LineFault → List ℕ
  body_text (Err fault) = answer_line (refused fault)
  body_text (Ok head) = rows_text w product head.0 2 s head.1

  abbrev pub body_state : Result (List ℕ × List (List ℕ)) LineFault → State
  body_state (Err fault) = s
  body_state (Ok head) = rows_state w product head.0 s head.1

  abbrev pub body_entries : Result (List ℕ × List (List ℕ)) LineFault → List Entry
  body_entries (Err fault) = []
  body_entries (Ok head) = rows_entries w product head.0 s head.1

  -- the answers to a sheet: a names line, and then the answer lines
  abbrev pub sheet_text : List ℕ → List ℕ
  sheet_text sheet = codes "line,refusal,account,amount\n" ++ body_text (opened sheet)

  -- what the book holds after a sheet
  abbrev pub sheet_state : List ℕ → State
  sheet_state sheet = body_state (opened sheet)

  -- the calls of a sheet that reach the book, with their answers
  abbrev pub sheet_entries : List ℕ → List Entry
  sheet_entries sheet = body_entries (opened sheet)
