-- Where a list of closed days is refused. Assumes nothing.
use Rattle.std.specs.Prelude.{ℕ, ◌<◌, ◌≤◌, List, length, take}
use Rattle.calendars.specs.Refusals.{Accepted, Refused}
use Rattle.calendars.specs.declared.fault.ListFault.{ListFault}

-- So many days, from the head of a list, make no calendar, or they are the whole list; and no fewer do, but for none at all.
pub record RefusedAt (closed : List ℕ) (days : ℕ) : Type 0 where
  pub within : days ≤ length closed
  pub fewer : (k : ℕ) → 1 ≤ k → k < days → Accepted (take k closed)
  pub refused : days < length closed → (f : ListFault) × Refused (take days closed) f
