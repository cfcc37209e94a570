use Rattle.dates.proofs.MonthLaws.{month-answer, month-only, days-and-months}
use Rattle.dates.proofs.months.month_in_range.Goals as goal

pub returns : goal.returns
returns c =
    let t = month-answer c.args.day c.cycle_month.result c.requires c.cycle_month.ensures.0 in
    record { is = month-only c.args.day _ t.0; inside = t; law = days-and-months }
