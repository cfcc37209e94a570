use Rattle.std.proofs.Common.{◌≡◌, ℕ, ◌≤◌, length, cond, get_or, Some, None}
use Rattle.history.proofs.Runs.{in_run}
use Rattle.ledger.specs.History.{first_of}
use Rattle.history.proofs.steps.settle_months.Given as goal

-- the months before this one are done
abbrev pub invariant-loop-month : goal.invariant-loop-month
invariant-loop-month l =
    (l.fn.months.first ≤ l.month) × (length l.finals ≡ 1200) × ((m : ℕ) → get_or l.finals m None ≡ first_of (cond (in_run l.fn.months.first l.month m) (Some l.fn.price) None) (get_or l.fn.finals m None))
