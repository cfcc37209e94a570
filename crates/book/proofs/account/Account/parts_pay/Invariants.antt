use Rattle.book.proofs.Loops.{Summed}
use Rattle.amounts.specs.Amounts.{part_payment}
use Rattle.amounts.specs.SumsOfWhole.{sum_z, if_z}
use Rattle.book.specs.Rows.{row_of}
use Rattle.day_table.specs.Table.{day_in}
use Rattle.ledger.specs.Words.{at}
use Rattle.book.proofs.account.Account.parts_pay.Given as goal

abbrev pub invariant-loop-class : goal.invariant-loop-class
invariant-loop-class l = Summed (λ c. sum_z l.day.classes (λ p. if_z ((day_in l.day).part c p) (part_payment ((day_in l.day).quantity p) ((row_of l.self).lots c) (at l.newest p) (at l.newest c)))) 21456000000000 l.class l.sum
