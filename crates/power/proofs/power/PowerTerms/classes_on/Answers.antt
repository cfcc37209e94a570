use Rattle.std.proofs.Common.{None, sym, ap, ◌∙◌, rules}
use Rattle.std.proofs.lemmas.Bool.{and_parts}
use Rattle.power.proofs.Days.{answer-is}
use Rattle.power.specs.Power.{power}
use Rattle.terms.proofs.Made.{made-by}
use Rattle.power.proofs.power.PowerTerms.classes_on.Goals as goal

pub returns : goal.returns
returns g c =
    let told = c.in-Some.ensures in
    let here = c.of-periods.ensures in
    let f = g.C.Calendar.opens c.args.self.now.calendar in
    let second = g.P.Profile.second c.args.self.now.profile in
    let answer = answer-is f second (g.met.C.Calendar.lawful c.args.self.now.calendar) c.args.day _ _ _ c.trades_second_year-second_year.ensures (and_parts _ _ (sym told.answers)).0 (ap (λ x. x.month) here ∙ told.month) (ap (λ x. x.left) here ∙ told.left) in
    made-by _ _ ((power f (λ _. 0) second).on c.args.day) (λ i y q k. (search (rules, answer i), search rules)) c.from_fn.result 12 None c.from_fn.ensures.items
