use Rattle.book.proofs.Loops.{Summed}
use Rattle.amounts.specs.Amounts.{part_payment}
use Rattle.amounts.specs.SumsOfWhole.{if_z}
use Rattle.book.specs.Rows.{row_of}
use Rattle.day_table.specs.Table.{day_in}
use Rattle.ledger.specs.Words.{at}
use Rattle.book.proofs.account.Account.class_parts.Given as goal

abbrev pub invariant-loop-part : goal.invariant-loop-part
invariant-loop-part l = Summed (λ p. if_z ((day_in l.day).part l.class p) (part_payment ((day_in l.day).quantity p) ((row_of l.self).lots l.class) (at l.newest p) (at l.newest l.class))) 1788000000000 l.part l.sum
