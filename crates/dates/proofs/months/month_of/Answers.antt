use Rattle.dates.proofs.MonthLaws.{days-and-months}
use Rattle.dates.proofs.months.month_of.Goals as goal

pub returns-clause-law : goal.returns-clause-law
returns-clause-law c = days-and-months
