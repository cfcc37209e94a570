use Rattle.std.proofs.Common.{◌≡◌, ◌^◌, ◌*ℤ◌, arith, to_z, of_z}
use mir.Syntax.{w128}
use Rattle.std.proofs.lemmas.Int.{to_z-of_z}
use Rattle.amounts.proofs.Exact.{fits-size}
use Rattle.amounts.proofs.Ring.{product_le}
use Rattle.amounts.proofs.payments.worth.Goals as goal

pub returns-clause-bound : goal.returns-clause-bound
returns-clause-bound c =
    let e : to_z w128 (of_z w128 c.times.result) ≡ c.args.price *ℤ c.args.lots = grind (arith, to_z-of_z) in
    rw e (product_le c.args.price c.args.lots (2 ^ 31) (2 ^ 32) (fits-size _ c.ranges.price) c.requires)
