use Rattle.std.proofs.Common.{None, sym, rules}
use Rattle.std.proofs.lemmas.Bool.{and_parts}
use Rattle.terms.proofs.Made.{made-by}
use Rattle.wheat.proofs.Days.{answer-is}
use Rattle.wheat.specs.Wheat.{wheat}
use Rattle.wheat.proofs.wheat.WheatTerms.classes_on.Goals as goal

pub returns : goal.returns
returns g c =
    let told = c.in-Some.ensures in
    let f = g.C.Calendar.opens c.args.self.now.calendar in
    let answer = answer-is f c.args.day _ _ _ (and_parts _ _ (sym told.answers)).0 told.front told.near told.lasts in
    made-by _ _ ((wheat f).on c.args.day) (λ i y q k. (search (rules, answer i), search rules)) c.from_fn.result 12 None c.from_fn.ensures.items
