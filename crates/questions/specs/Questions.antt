-- The questions in words, and the refusal that names one. Assumes nothing.
use Rattle.std.specs.Prelude.{ℕ, List, ◌++◌, codes, decimal}
use Rattle.ledger.specs.declared.fault.Fault.{Fault}
use Rattle.ledger.specs.declared.fault.Fault.TheVariants.{AccountCount, StartMonth, ClassLines, UnknownAccount, SameAccount, NotTradable, LotsOutOfRange, PriceOutOfRange, TooManyTrades, HoldingOutOfRange, NotRepriceable, ListTooShort, NothingToSettle, CashOutOfRange, ClassUnpriced, SettlingUnsettled, PartsOutOfRange, NoDayLeft, HeldUnpriced, UnknownClass}
use Rattle.rows.specs.declared.fault.SheetFault.{SheetFault}
use Rattle.rows.specs.declared.fault.SheetFault.TheVariants.{TooLong, ColumnNames, ValueCount, UnknownCall, FieldsFilled, NotANumber, UnknownClass as UnknownName}
use Rattle.sheet.specs.Causes.{cause_number}
use Rattle.sheet.specs.declared.cause.Cause.{Cause}
use Rattle.sheet.specs.declared.cause.Cause.TheVariants.{Sheet, Book}

-- a question of the book
abbrev pub book_question : Fault → List ℕ
book_question AccountCount = codes "are there 2 to 32 accounts?"
book_question StartMonth = codes "does the start month lie in 2001 to 2096?"
book_question ClassLines = codes "has each class one interval, from 0 to 10,000?"
book_question UnknownAccount = codes "is every account one of the book's?"
book_question SameAccount = codes "are buyer and seller two different accounts?"
book_question NotTradable = codes "is the class tradable?"
book_question LotsOutOfRange = codes "are there 1 to 1,000 lots?"
book_question PriceOutOfRange = codes "does the price lie in -100,000 to 100,000?"
book_question TooManyTrades = codes "have fewer than 100,000 trades been accepted?"
book_question HoldingOutOfRange = codes "do both accounts then hold at most 1,000 lots in the class?"
book_question NotRepriceable = codes "is the class one that cannot be traded, with a last price?"
book_question ListTooShort = codes "has the payment list a line for each account?"
book_question NothingToSettle = codes "has the settling class a last price?"
book_question CashOutOfRange = codes "does all cash then lie within 9 x 10^18 cents?"
book_question ClassUnpriced = codes "has every tradable class a price of the day?"
book_question SettlingUnsettled = codes "is the settling class, to which another class succeeds, settled?"
book_question PartsOutOfRange = codes "does each account then hold at most 1,000 lots in each class, the parts added?"
book_question NoDayLeft = codes "is there a next open day by 31 December 2096?"
book_question HeldUnpriced = codes "has every class held a last price?"
book_question UnknownClass = codes "is the class one of the terms?"

-- a question of the sheet
abbrev pub sheet_question : SheetFault → List ℕ
sheet_question TooLong = codes "is the sheet at most 65,536 bytes long?"
sheet_question ColumnNames = codes "does the names line have each of the six names once?"
sheet_question ValueCount = codes "are there six values?"
sheet_question UnknownCall = codes "is it one of the calls?"
sheet_question FieldsFilled = codes "are just the fields filled that the call needs?"
sheet_question NotANumber = codes "has each number 1 to 9 digits, with a minus at most before a price?"
sheet_question UnknownName = codes "is it a class of the product?"

abbrev pub question : Cause → List ℕ
question (Sheet fault) = sheet_question fault
question (Book fault) = book_question fault

-- the layer whose question it is
abbrev pub layer_name : Cause → List ℕ
layer_name (Sheet fault) = codes "sheet"
layer_name (Book fault) = codes "book"

-- who refuses, and by which question
unfoldable pub refusal_text : Cause → List ℕ
refusal_text cause =
    codes "refused by the " ++ (layer_name cause ++ (codes ", question " ++ (decimal (cause_number cause) ++ (codes ": " ++ question cause))))
