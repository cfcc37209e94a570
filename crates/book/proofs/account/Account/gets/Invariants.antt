use Rattle.book.proofs.Loops.{Summed}
use Rattle.amounts.specs.SumsOfWhole.{if_z}
use Rattle.book.specs.Rows.{row_of}
use Rattle.day_table.specs.Table.{day_in}
use Rattle.book.proofs.account.Account.gets.Given as goal

abbrev pub invariant-loop-class : goal.invariant-loop-class
invariant-loop-class l = Summed (λ e. if_z ((day_in l.day).part e l.part) ((row_of l.self).lots e)) 1000 l.class l.sum
