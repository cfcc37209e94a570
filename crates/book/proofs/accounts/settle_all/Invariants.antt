use Rattle.book.proofs.Passes.{Passed}
use Rattle.book.specs.Rows.{row_paid}
use Rattle.ledger.specs.Words.{at}
use Rattle.book.proofs.accounts.settle_all.Given as goal

abbrev pub invariant-loop-account : goal.invariant-loop-account
invariant-loop-account l = Passed (λ k. row_paid l.class (at l.pays k)) l.account l.initial.accounts l.accounts
