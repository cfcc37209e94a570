-- An account's statement: the figures of the law of the ledger. Assumes nothing.
use Rattle.std.specs.Prelude.{◌≡◌, ℕ}
use Rattle.history.specs.Told.{Told}
use Rattle.journal.specs.declared.statement.Statement.{Statement}
use Rattle.ledger.specs.History.{History}
use Rattle.ledger.specs.Ledger.{at_last, at_final}
use Rattle.ledger.specs.State.{State}
use Rattle.terms.specs.Meaning.{Meaning}

-- what the law says of an account of a book that a history reached
pub record States (w : Meaning) (h : History) (s : State) (a : ℕ) (x : Statement) : Type 0 where
  pub told : Told w s.made.month h a x.reading
  pub at_last : x.at_last ≡ at_last w h s a
  pub at_final : x.at_final ≡ at_final w h s a
