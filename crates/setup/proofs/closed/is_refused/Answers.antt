use Rattle.std.proofs.Common.{subst}
use Rattle.calendars.specs.Refusals.{Refused}
use Rattle.setup.proofs.closed.is_refused.Goals as goal

pub returns : goal.returns
returns c =
    let fault = c.in-Err.field-0.fault in
    (fault, subst (λ xs. Refused xs fault) c.in_ok-first_days.ensures c.in-Err.ensures.1)
