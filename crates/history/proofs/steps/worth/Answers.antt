use Rattle.std.proofs.Common.{◌^◌, arith, lit<}
use mir.Syntax.{w128}
use Rattle.amounts.proofs.Exact.{exact, fits-size}
use Rattle.amounts.proofs.Ring.{product_le}
use Rattle.std.proofs.lemmas.Int.{to_z-of_z}
use Rattle.history.proofs.steps.worth.Goals as goal

pub returns : goal.returns
returns c =
    let e = (exact w128 c.from.result c.from-2.result c.args.dealt c.args.price (2 ^ 31) (2 ^ 31) (grind (arith, to_z-of_z)) (grind (arith, to_z-of_z)) c.requires (fits-size _ c.ranges.price) (lit< tt)).is in
    record { is = e; bound = rw e (product_le c.args.dealt c.args.price (2 ^ 31) (2 ^ 31) c.requires (fits-size _ c.ranges.price)) }
