use Rattle.std.proofs.Common.{None, slice_index_or}
use Rattle.book.proofs.Passes.{Passed}
use Rattle.book.specs.Rows.{row_carried}
use Rattle.day_table.specs.Table.{day_in}
use Rattle.book.proofs.accounts.carry_all.Given as goal

abbrev pub invariant-loop-account : goal.invariant-loop-account
invariant-loop-account l = Passed (λ k. row_carried (day_in l.day) (λ t. slice_index_or l.sources t None)) l.account l.initial.accounts l.accounts
