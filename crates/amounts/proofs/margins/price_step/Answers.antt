use Rattle.std.proofs.Common.{◌^◌, pos, ◌*ℤ◌, arith, lit<, w64, to_z, of_z}
use Rattle.std.proofs.lemmas.Int.{ints}
use Rattle.amounts.proofs.Exact.{Exact, exact}
use Rattle.amounts.proofs.Ring.{product_le}
use Rattle.amounts.proofs.margins.price_step.Goals as goal
use Rattle.amounts.proofs.margins.price_step.Goals.{After-from-3}

product : (c : After-from-3) → Exact w64 (to_z w64 (of_z w64 c.from.result) *ℤ to_z w64 (of_z w64 c.from-2.result)) c.from-3.result (c.args.price *ℤ pos c.args.interval *ℤ c.args.factor)
product c =
    let size = product_le c.args.price (pos c.args.interval) (2 ^ 31) (2 ^ 16) (omega (arith, ints)) (omega (arith, ints)) in
    exact w64 _ c.from-3.result (c.args.price *ℤ pos c.args.interval) c.args.factor (2 ^ 47) (2 ^ 7) (grind (arith, ints)) (omega (arith, ints)) size (omega (arith, ints)) (lit< tt)

pub overflow_mul-result-2 : goal.overflow_mul-result-2
overflow_mul-result-2 c = (product c).fits

pub returns : goal.returns
returns c = (product c).is
