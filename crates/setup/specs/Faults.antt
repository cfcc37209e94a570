-- What is said of a wrong argument. Assumes nothing.
use Rattle.std.specs.Prelude.{ℕ, List, codes}
use Rattle.setup.specs.declared.fault.ArgumentFault.{ArgumentFault}
use Rattle.setup.specs.declared.fault.ArgumentFault.TheVariants.{Product, Month, Accounts, Intervals, Followed, Count, NoMemory}

abbrev pub argument_fault_text : ArgumentFault → List ℕ
argument_fault_text Product = codes "argument 1 is not baseload, peakload or wheat"
argument_fault_text Month = codes "argument 2 is no month of the form YYYY-MM from 2000 to 2099"
argument_fault_text Accounts = codes "argument 3 is no number of accounts"
argument_fault_text Intervals = codes "argument 4 is no list of numbers up to 65535 with commas between them"
argument_fault_text Followed = codes "argument 6 is no account of the book"
argument_fault_text Count = codes "there are not five or six arguments"
argument_fault_text NoMemory = codes "there is no memory for the arguments"
