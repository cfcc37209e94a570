use Rattle.std.proofs.Common.{◌+◌, ◌*◌, ◌/◌, ◌%◌, ap, ◌∙◌, arith}
use Rattle.dates.proofs.MonthLaws.{start-answer, start-inside, start-most}
use Rattle.dates.proofs.months.days_before.Goals as goal

pub overflow_add-result : goal.overflow_add-result
overflow_add-result c = omega (arith, c.cycle_start.ensures, start-most (c.args.month % 48))

pub returns : goal.returns
returns c =
    let m = c.args.month in
    let e = ap (λ n. 1461 * (m / 48) + n) c.cycle_start.ensures ∙ start-answer m in
    record { is = e; inside = omega (arith, e, start-inside m c.requires) }
