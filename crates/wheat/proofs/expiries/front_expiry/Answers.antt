use Rattle.std.proofs.Common.{Some, ap, ◌∙◌}
use Rattle.wheat.specs.FrontLaws.{front-answer}
use Rattle.wheat.proofs.expiries.front_expiry.Goals as goal

pub returns-clause-number : goal.returns-clause-number
returns-clause-number g c =
    ap Some c.not_past.ensures.number ∙ front-answer (g.C.Calendar.opens c.args.calendar.now) c.args.day c.in_ok-month.month c.expiries_before.result c.in_ok-month.ensures.is c.expiries_before.ensures.is
