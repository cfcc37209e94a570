use Rattle.std.proofs.Common.{◌^◌, pos, arith, lit<}
use mir.Syntax.{w128}
use Rattle.std.proofs.lemmas.Int.{ints}
use Rattle.amounts.proofs.Exact.{exact}
use Rattle.amounts.proofs.PaymentLaws.{other-side-pays}
use Rattle.amounts.proofs.Ring.{product_le}
use Rattle.amounts.proofs.holding.Holding.for_quantity.Goals as goal

pub returns : goal.returns
returns c =
    let e = (exact w128 c.from.result c.args.gain (pos c.args.self.now.quantity) c.args.gain (2 ^ 32) (2 ^ 65) (omega (arith, ints)) (omega (arith, ints)) (omega (arith, ints)) (omega (arith, ints)) (lit< tt)).is in
    record {
      is = e;
      bound = rw e (product_le (pos c.args.self.now.quantity) c.args.gain (2 ^ 33) (2 ^ 65) (omega (arith, ints)) (omega (arith, ints)));
      other_side = other-side-pays;
    }
