-- Where a names line that was read puts the columns. Assumes nothing.
use Rattle.std.specs.Prelude.{ℕ, List}
use Rattle.rows.specs.declared.names.Names.{Names}

abbrev pub places_in : Names → List ℕ
places_in names = names.places
