use Rattle.dates.proofs.MonthLaws.{given, month-told}
use Rattle.calendars.proofs.walks.days_of.Goals as goal

pub returns-clause-is : goal.returns-clause-is
returns-clause-is c =
    let t = month-told c.args.month _ _ c.in_ok-first.ensures.is c.in_ok-length.ensures.is in
    given c.args.month 1200 _ _ t.0 (λ i. record { start = t.1 i; end = t.2 i })
