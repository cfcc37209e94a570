use Rattle.std.proofs.Common.{◌≡◌, ℕ, length}
use Rattle.book.specs.Rows.{rows_of}
use Rattle.ledger.specs.State.{nil_row}
use Rattle.book.proofs.accounts.empty_accounts.Given as goal

abbrev pub invariant-loop : goal.invariant-loop
invariant-loop l = (length l.accounts.items ≡ l.counter) × ((a : ℕ) → rows_of l.accounts.items a ≡ nil_row)
