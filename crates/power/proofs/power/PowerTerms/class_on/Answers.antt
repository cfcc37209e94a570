use Rattle.std.proofs.Common.{Some, sym, ap, ◌∙◌, arith}
use Rattle.dates.proofs.MonthLaws.{given}
use Rattle.power.proofs.Days.{class-answer}
use Rattle.power.specs.Monthly.{class_by}
use Rattle.terms.proofs.Listings.{is-answered}
use Rattle.power.proofs.power.PowerTerms.class_on.Goals as goal

pub returns : goal.returns
returns g c =
    let f = g.C.Calendar.opens c.args.self.now.calendar in
    let d = c.args.day in
    let day = c.in_ok-day.day in
    let told = c.in_ok-day.ensures in
    let a = is-answered f 11 d c.args.class (sym told.answers) in
    ap Some (c.class_at.ensures ∙ ap (λ b. class_by day.month day.left b c.args.class) c.trades_second_year.ensures)
    ∙ class-answer f _ d c.args.class day.month day.left (g.met.C.Calendar.lawful c.args.self.now.calendar) a.0 a.1 (given d 36525 _ _ (omega (arith, a.0.to)) told.month) (given d 36525 _ _ (omega (arith, a.0.to)) told.left)
