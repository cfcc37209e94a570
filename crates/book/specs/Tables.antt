-- What tables hold on a day. Assumes nothing.
use Rattle.std.specs.Prelude.{take, length}
use Rattle.book.specs.Markets.{market_of}
use Rattle.book.specs.Rows.{rows_of}
use Rattle.book.specs.declared.tables.Tables.{Tables}
use Rattle.day_table.specs.declared.table.DayTable.{DayTable}
use Rattle.ledger.specs.State.{State}

-- the state of a book, by the table of its day and its own tables
abbrev pub state_of : DayTable → Tables → State
state_of day t = record {
  made = record { month = t.month; accounts = length t.accounts.items; lines = take day.classes t.lines };
  market = market_of day.day t.accepted t.prices;
  rows = rows_of t.accounts.items;
}
