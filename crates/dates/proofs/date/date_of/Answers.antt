use Rattle.std.proofs.Common.{Some, ap, ◌∙◌}
use Rattle.dates.proofs.MonthLaws.{not-given}
use Rattle.dates.proofs.DateLaws.{dates-and-days, date-answer}
use Rattle.dates.proofs.date.date_of.Goals as goal

pub returns-in_err-month : goal.returns-in_err-month
returns-in_err-month c =
    record { is = c.from_residual.ensures ∙ not-given c.args.day 36525 _ c.in_err-month.ensures.inside; law = dates-and-days }

pub returns : goal.returns
returns c = record {
  is = ap Some c.date_in.ensures ∙ date-answer c.args.day c.in_ok-month.month c.in_ok-first.first c.in_ok-month.ensures.is c.in_ok-first.ensures.is;
  law = dates-and-days;
}
