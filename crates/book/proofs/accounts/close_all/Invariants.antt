use Rattle.book.proofs.Passes.{Passed}
use Rattle.book.specs.Rows.{row_credited}
use Rattle.ledger.specs.Words.{at}
use Rattle.book.proofs.accounts.close_all.Given as goal

abbrev pub invariant-loop-account : goal.invariant-loop-account
invariant-loop-account l = Passed (λ k. row_credited (at l.pays k)) l.account l.initial.accounts l.accounts
