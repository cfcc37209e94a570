use Rattle.std.proofs.Common.{◌≡◌, ℕ, ◌<◌, length, get_or, None}
use Rattle.day_table.specs.Table.{class_in}
use Rattle.terms.specs.Day.{source_below}
use Rattle.terms.specs.Meaning.{successor}
use Rattle.day_table.proofs.table.DayTable.sources.Given as goal

abbrev pub invariant-loop-class : goal.invariant-loop-class
invariant-loop-class l = (length l.sources ≡ 12) × ((t : ℕ) → t < 12 → get_or l.sources t None ≡ source_below (λ c. successor (class_in l.self c)) t l.class)
