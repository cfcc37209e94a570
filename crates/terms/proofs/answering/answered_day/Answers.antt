use Rattle.std.proofs.Common.{sym, ◌∙◌, arith}
use Rattle.dates.proofs.MonthLaws.{month-only}
use Rattle.terms.proofs.Listings.{is-answered, answered-month}
use Rattle.terms.proofs.answering.answered_day.Goals as goal

-- the month of an answered day is one of 2001 to 2096
pub invariant_of-result : goal.invariant_of-result
invariant_of-result g c =
    let a = is-answered (g.C.Calendar.opens c.args.calendar.now) c.args.classes c.args.day c.args.class (sym c.answers_for.ensures ∙ c.if-not-answers_for.false) in
    let m = answered-month _ c.args.day a.0 in
    let e = month-only c.args.day c.in_ok-month_of.field-0 c.in_ok-month_of.ensures.inside.0 in
    record { in_range = (omega (arith, e, m.0), omega (arith, e, m.1)) }
