-- The number of each question. Assumes nothing.
use Rattle.std.specs.Prelude.{ℕ}
use Rattle.ledger.specs.declared.fault.Fault.{Fault}
use Rattle.ledger.specs.declared.fault.Fault.TheVariants.{AccountCount, StartMonth, ClassLines, UnknownAccount, SameAccount, NotTradable, LotsOutOfRange, PriceOutOfRange, TooManyTrades, HoldingOutOfRange, NotRepriceable, ListTooShort, NothingToSettle, CashOutOfRange, ClassUnpriced, SettlingUnsettled, PartsOutOfRange, NoDayLeft, HeldUnpriced, UnknownClass}

abbrev pub fault_number : Fault → ℕ
fault_number AccountCount = 1
fault_number StartMonth = 2
fault_number ClassLines = 3
fault_number UnknownAccount = 7
fault_number SameAccount = 8
fault_number NotTradable = 9
fault_number LotsOutOfRange = 10
fault_number PriceOutOfRange = 11
fault_number TooManyTrades = 12
fault_number HoldingOutOfRange = 13
fault_number NotRepriceable = 14
fault_number ListTooShort = 15
fault_number NothingToSettle = 16
fault_number CashOutOfRange = 17
fault_number ClassUnpriced = 18
fault_number SettlingUnsettled = 19
fault_number PartsOutOfRange = 20
fault_number NoDayLeft = 21
fault_number HeldUnpriced = 22
fault_number UnknownClass = 23
