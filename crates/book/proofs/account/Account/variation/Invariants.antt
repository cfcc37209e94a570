use Rattle.book.proofs.Loops.{Summed}
use Rattle.book.specs.Quotes.{quote_at, quote_pay}
use Rattle.book.specs.Rows.{row_of}
use Rattle.book.proofs.account.Account.variation.Given as goal

abbrev pub invariant-loop-class : goal.invariant-loop-class
invariant-loop-class l = Summed (λ c. quote_pay (quote_at l.quotes c) (row_of l.self) c) 178802682000000000 l.class l.sum
