use Rattle.std.proofs.Common.{sym, ◌∙◌}
use Rattle.std.proofs.lemmas.Bool.{and_parts}
use Rattle.wheat.proofs.Days.{front-range}
use Rattle.wheat.proofs.wheat.answered_day.Goals as goal

pub invariant_of-result : goal.invariant_of-result
invariant_of-result g c =
    record { in_range = front-range (g.C.Calendar.opens c.args.calendar.now) (g.met.C.Calendar.lawful c.args.calendar.now) c.args.day _ (and_parts _ _ (sym c.answers_for.ensures ∙ c.if-not-answers_for.false)).0 c.in_ok-front.ensures.number }
