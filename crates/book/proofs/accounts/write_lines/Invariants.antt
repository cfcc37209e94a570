use Rattle.std.proofs.Common.{◌≡◌}
use Rattle.ledger.specs.Questions.{written}
use Rattle.ledger.specs.Words.{at}
use Rattle.book.proofs.accounts.write_lines.Given as goal

abbrev pub invariant-loop-account : goal.invariant-loop-account
invariant-loop-account l = l.list ≡ written l.initial.list l.account (at l.pays)
