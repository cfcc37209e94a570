-- How long the periods of classes are. Assumes nothing.
use Rattle.std.specs.Prelude.{ℕ}
use Rattle.terms.specs.declared.class_row.Period.{Period}
use Rattle.terms.specs.declared.class_row.Period.TheVariants.{Month, Quarter, Year}

-- the months of a period
abbrev pub months_in : Period → ℕ
months_in Month = 1
months_in Quarter = 3
months_in Year = 12
