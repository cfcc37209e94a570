use Rattle.std.proofs.Common.{arith, rules, sym}
use Rattle.std.proofs.lemmas.Int.{to_z-of_z}
use Rattle.amounts.specs.Steps.{factor_of}
use Rattle.amounts.proofs.MarginLaws.{by-whole}
use Rattle.amounts.proofs.holding.Holding.step_result.Goals as goal

pub returns : goal.returns
returns c =
    let e = by-whole c.args.price (factor_of c.args.step) c.args.self.now.lots c.whole_quantity.result c.args.interval c.args.self.now.quantity c.whole_quantity.ensures.is in
    record { is = grind (arith, to_z-of_z, e); floor = rw (sym e) (search (rules, to_z-of_z)) }
