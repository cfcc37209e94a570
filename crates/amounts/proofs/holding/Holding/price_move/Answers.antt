use Rattle.std.proofs.Common.{◌≡◌, ◌^◌, ◌-ℤ◌, ◌*ℤ◌, arith, to_z, of_z}
use mir.Syntax.{w128}
use Rattle.std.proofs.lemmas.Int.{ints, to_z-of_z}
use Rattle.amounts.proofs.PaymentLaws.{other-side-pays}
use Rattle.amounts.proofs.Ring.{product_le}
use Rattle.amounts.proofs.holding.Holding.price_move.Goals as goal

pub returns-clause-bound : goal.returns-clause-bound
returns-clause-bound c =
    let e : to_z w128 (of_z w128 c.times.result) ≡ c.whole_quantity.result *ℤ (c.args.new -ℤ c.args.old) = grind (arith, to_z-of_z) in
    rw e (product_le c.whole_quantity.result (c.args.new -ℤ c.args.old) (2 ^ 63) (2 ^ 33) c.whole_quantity.ensures.bound (omega (arith, ints)))

pub returns-clause-other_side : goal.returns-clause-other_side
returns-clause-other_side c = other-side-pays
