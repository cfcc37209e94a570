use Rattle.dates.proofs.MonthLaws.{cycle-starts}
use Rattle.dates.proofs.months.cycle_start.Goals as goal

pub returns : goal.returns
returns c = cycle-starts c.args.place c.requires
