use Rattle.std.proofs.Common.{◌^◌, pos, ◌*ℤ◌, arith, lit<}
use mir.Syntax.{w128}
use Rattle.amounts.proofs.Exact.{exact}
use Rattle.amounts.proofs.Ring.{product_le}
use Rattle.std.proofs.lemmas.Int.{ints, to_z-of_z}
use Rattle.history.proofs.steps.at_cost.Goals as goal

pub returns : goal.returns
returns c =
    let e = (exact w128 c.from.result c.worth.result (pos c.args.quantity) (c.args.dealt *ℤ c.args.price) (2 ^ 14) (2 ^ 62) (omega (arith, ints)) (grind (arith, to_z-of_z)) (omega (arith, ints)) (grind (arith, to_z-of_z)) (lit< tt)).is in
    record { is = e; bound = rw e (product_le (pos c.args.quantity) (c.args.dealt *ℤ c.args.price) (2 ^ 14) (2 ^ 62) (omega (arith, ints)) (grind (arith, to_z-of_z))) }
