use Rattle.std.proofs.Common.{◌+◌, arith}
use Rattle.calendars.proofs.Firsts.{none_is}
use Rattle.calendars.proofs.walks.next_after.Goals as goal

pub returns-then-day-ge-DAY_COUNT-clause-is : goal.returns-then-day-ge-DAY_COUNT-clause-is
returns-then-day-ge-DAY_COUNT-clause-is g c = none_is (g.S.DaySet.has c.args.days.now) (c.args.day + 1) 36525 (λ k l u. absurd (omega arith))
