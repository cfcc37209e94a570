use Rattle.std.proofs.Common.{◌≡◌, ◌+◌, ◌≤◌}
use Rattle.calendars.specs.Sets.{before}
use Rattle.wheat.proofs.wheat.is_near.Given as goal

-- the open days found so far, of which there are not too many
abbrev pub invariant-loop-later : goal.invariant-loop-later
invariant-loop-later g l =
    let f = g.C.Calendar.opens l.calendar in
    (before f l.later ≡ before f (l.day + 1) + l.found) × (l.found ≤ 6)
