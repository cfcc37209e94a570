use Rattle.std.proofs.Common.{arith}
use Rattle.dates.proofs.MonthLaws.{cycle-later, cycle-least}
use Rattle.dates.proofs.months.cycle_month.Goals as goal

pub returns-then-cycle_start-day : goal.returns-then-cycle_start-day
returns-then-cycle_start-day c = cycle-later c.args.day c.requires (omega arith)

pub returns-else-cycle_start-day : goal.returns-else-cycle_start-day
returns-else-cycle_start-day c = cycle-least c.args.day c.requires (omega arith)
