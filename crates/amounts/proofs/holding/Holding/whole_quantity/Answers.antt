use Rattle.std.proofs.Common.{◌-◌, ◌^◌, pos, arith, lit<, w64}
use Rattle.std.proofs.lemmas.Int.{ints}
use Rattle.amounts.proofs.Exact.{exact}
use Rattle.amounts.proofs.holding.Holding.whole_quantity.Goals as goal

pub returns-clause-is : goal.returns-clause-is
returns-clause-is c =
    (exact w64 c.from.result c.from-2.result (pos c.args.self.now.quantity) c.args.self.now.lots (2 ^ 32 - 1) (2 ^ 31) (omega (arith, ints)) (omega (arith, ints)) (omega (arith, ints)) (omega (arith, ints)) (lit< tt)).is
