-- The number of each question of a sheet. Assumes nothing.
use Rattle.std.specs.Prelude.{ℕ}
use Rattle.rows.specs.declared.fault.SheetFault.{SheetFault}
use Rattle.rows.specs.declared.fault.SheetFault.TheVariants.{TooLong, ColumnNames, ValueCount, UnknownCall, FieldsFilled, NotANumber, UnknownClass}

abbrev pub fault_number : SheetFault → ℕ
fault_number TooLong = 29
fault_number ColumnNames = 30
fault_number ValueCount = 31
fault_number UnknownCall = 32
fault_number FieldsFilled = 33
fault_number NotANumber = 34
fault_number UnknownClass = 35
