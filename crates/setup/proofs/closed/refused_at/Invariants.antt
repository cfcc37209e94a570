use Rattle.std.proofs.Common.{ℕ, ◌<◌, ◌≤◌, take}
use Rattle.calendars.specs.Refusals.{Accepted}
use Rattle.setup.proofs.closed.refused_at.Given as goal

-- fewer days than these make a calendar each
abbrev pub invariant-loop-days : goal.invariant-loop-days
invariant-loop-days l = (k : ℕ) → 1 ≤ k → k < l.days → Accepted (take k l.closed)
