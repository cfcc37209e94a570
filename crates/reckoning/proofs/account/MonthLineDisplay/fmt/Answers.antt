use Rattle.reckoning.specs.Reckonings.{month_told}
use Rattle.reckoning.proofs.account.MonthLineDisplay.fmt.Goals as goal

pub returns-clause-writes : goal.returns-clause-writes
unfolding month_told
returns-clause-writes g c = λ plain ok. rw (c.place.ensures, c.settled.ensures) at (c.write.ensures.writes plain ok)
