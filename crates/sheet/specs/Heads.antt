-- The head of a sheet that was read. Assumes nothing.
use Rattle.std.specs.Prelude.{ℕ, List}
use Rattle.rows.specs.Headings.{places_in}
use Rattle.sheet.specs.declared.opening.Head.{Head}
use Rattle.text.specs.Readers.{lines_left}

-- where the columns stand, and the lines of values below the names line
abbrev pub head_of : Head → List ℕ × List (List ℕ)
head_of h = (places_in h.names, lines_left h.rows)
