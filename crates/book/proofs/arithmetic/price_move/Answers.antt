use Rattle.std.proofs.Common.{◌≡◌, pos, ◌-ℤ◌, ◌*ℤ◌, ap, ◌∙◌, arith, lit<, to_z, of_z, w32, w64}
use Rattle.std.proofs.lemmas.Int.{ints}
use Rattle.amounts.proofs.Exact.{Exact, exact}
use Rattle.amounts.proofs.Ring.{product_le}
use Rattle.amounts.proofs.PaymentLaws.{other-side-pays}
use Rattle.book.proofs.arithmetic.price_move.Goals as goal

module _ (c : goal.After-from-2) where
  product : Exact w64 c.whole_quantity.result (to_z w64 (of_z w64 c.from.result) -ℤ to_z w64 (of_z w64 c.from-2.result)) (c.whole_quantity.result *ℤ (c.args.new -ℤ c.args.old))
  product = exact w64 c.whole_quantity.result (to_z w64 (of_z w64 c.from.result) -ℤ to_z w64 (of_z w64 c.from-2.result)) c.whole_quantity.result (c.args.new -ℤ c.args.old) 8940000 200000 (omega (arith, ints, c.whole_quantity.ensures.bound)) (omega (arith, ints)) c.whole_quantity.ensures.bound (omega (arith, ints)) (lit< tt)

pub overflow_mul-result : goal.overflow_mul-result
overflow_mul-result c = (product c).fits

pub returns : goal.returns
returns c =
    let e = (product c).is in
    let n : to_z w32 (of_z w32 c.args.lots) ≡ c.args.lots = omega (arith, ints) in
    record {
      is = e ∙ ap (λ q. q *ℤ (c.args.new -ℤ c.args.old)) (c.whole_quantity.ensures.is ∙ ap (λ n. pos c.args.quantity *ℤ n) n);
      other_side = other-side-pays;
      bound = rw e (product_le c.whole_quantity.result (c.args.new -ℤ c.args.old) 8940000 200000 c.whole_quantity.ensures.bound (omega (arith, ints)));
    }
