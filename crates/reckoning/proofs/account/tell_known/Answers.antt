use Rattle.std.proofs.Common.{append_assoc}
use Rattle.reckoning.specs.Reckonings.{account_text}
use Rattle.reckoning.proofs.account.tell_known.Goals as goal

pub returns : goal.returns
unfolding account_text
returns g c = rw (← append_assoc, ← c.in_ok-tell_months.ensures) c.tell_cash.ensures
