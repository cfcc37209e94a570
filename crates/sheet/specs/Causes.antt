-- Why a line is refused: the number of the question that was answered no, and its layer. Assumes nothing.
use Rattle.std.specs.Prelude.{ℕ}
use Rattle.ledger.specs.Faults.{fault_number as book_number}
use Rattle.rows.specs.Faults.{fault_number as sheet_number}
use Rattle.sheet.specs.declared.cause.Cause.{Cause}
use Rattle.sheet.specs.declared.cause.Cause.TheVariants.{Sheet, Book}
use Rattle.sheet.specs.declared.cause.Layer.{Layer}
use Rattle.sheet.specs.declared.cause.Layer.TheVariants.{Sheet as InSheet, Book as InBook}

abbrev pub cause_number : Cause → ℕ
cause_number (Sheet fault) = sheet_number fault
cause_number (Book fault) = book_number fault

abbrev pub cause_layer : Cause → Layer
cause_layer (Sheet fault) = InSheet
cause_layer (Book fault) = InBook
