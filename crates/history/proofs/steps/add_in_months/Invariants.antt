use Rattle.std.proofs.Common.{◌≡◌, ℕ, ◌≤◌, length, ◌+ℤ◌}
use Rattle.amounts.specs.SumsOfWhole.{if_z}
use Rattle.history.proofs.Runs.{in_run}
use Rattle.ledger.specs.Words.{at}
use Rattle.history.proofs.steps.add_in_months.Given as goal

-- the months before this one are done
abbrev pub invariant-loop-month : goal.invariant-loop-month
invariant-loop-month l =
    (l.fn.months.first ≤ l.month) × (length l.nets ≡ 1200) × ((m : ℕ) → at l.nets m ≡ at l.fn.nets m +ℤ if_z (in_run l.fn.months.first l.month m) l.fn.lots)
