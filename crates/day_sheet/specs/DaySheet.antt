-- The day sheet: a sheet that is called on the bench's book. Assumes nothing.
use Rattle.std.specs.Prelude.{ℕ, true, List, map, reverse}
use Rattle.calendars.specs.Calendars.{weekdays}
use Rattle.coded.specs.declared.class_line.ClassLine.{ClassLine}
use Rattle.ledger.specs.Ledger.{Life}
use Rattle.ledger.specs.Make.{made_of}
use Rattle.ledger.specs.State.{State, new_state}
use Rattle.ledger.specs.declared.entry.Entry.{Entry}
use Rattle.power.specs.Hours.{baseload}
use Rattle.power.specs.Power.{power}
use Rattle.products.specs.declared.product.Product.TheVariants.{Power}
use Rattle.sheet.specs.Sheets.{sheet_text, sheet_state, sheet_entries}
use Rattle.std.specs.List.{range_with_len}
use Rattle.terms.specs.Meaning.{Meaning}

-- Baseload on the weekday calendar
abbrev pub bench_meaning : Meaning
bench_meaning = power weekdays baseload true

-- every interval is 1,000
abbrev pub bench_line : ℕ → ClassLine
bench_line c = record { class = c; interval = 1000 }

abbrev pub bench_lines : List ClassLine
bench_lines = map bench_line (range_with_len 0 11)

-- two accounts, from March 2008 on
abbrev pub bench_state : State
bench_state = new_state bench_meaning (made_of 98 2 bench_lines)

-- the answers to a sheet
abbrev pub day_sheet_text : List ℕ → List ℕ
day_sheet_text sheet = sheet_text bench_meaning Power bench_state sheet

-- what the bench's book holds after a sheet, and the calls of the sheet that reach it, with their answers
abbrev pub day_sheet_state : List ℕ → State
day_sheet_state sheet = sheet_state bench_meaning Power bench_state sheet

abbrev pub day_sheet_entries : List ℕ → List Entry
day_sheet_entries sheet = sheet_entries bench_meaning Power bench_state sheet

-- the law of the ledger held at the start and after each of these calls
abbrev pub DayLives : List ℕ → Type 0
DayLives sheet = Life bench_meaning (reverse (day_sheet_entries sheet)) (day_sheet_state sheet)
