use Rattle.std.proofs.Common.{◌≡◌, ◌-ℤ◌, ◌*ℤ◌, ◌∙◌, arith, to_z, of_z, w32, w64}
use Rattle.std.proofs.lemmas.Int.{ints}
use Rattle.amounts.proofs.Ring.{product_le}
use Rattle.book.proofs.arithmetic.gain.Goals as goal

module _ (c : goal.After-worth-2) where
  now : c.worth.result ≡ c.args.today *ℤ c.args.lots
  now =
      let p : to_z w32 (of_z w32 c.args.today) ≡ c.args.today = omega (arith, ints) in
      let n : to_z w64 (of_z w64 c.from-3.result) ≡ c.args.lots = omega (arith, ints) in
      c.worth.ensures.is ∙ (λ i. p i *ℤ n i)

  was : c.worth-2.result ≡ c.args.last *ℤ (c.args.lots -ℤ c.args.traded)
  was =
      let p : to_z w32 (of_z w32 c.args.last) ≡ c.args.last = omega (arith, ints) in
      let n : to_z w64 (of_z w64 (to_z w64 (of_z w64 c.from.result) -ℤ to_z w64 (of_z w64 c.from-2.result))) ≡ c.args.lots -ℤ c.args.traded = omega (arith, ints) in
      c.worth-2.ensures.is ∙ (λ i. p i *ℤ n i)

pub overflow_sub-result : goal.overflow_sub-result
overflow_sub-result c = omega (arith, ints, c.worth.ensures.bound, c.worth-2.ensures.bound)

pub returns : goal.returns
returns c =
    let small = product_le c.args.today c.args.lots 100000 1000 c.requires.prices.0 c.requires.lots.0 in
    record {
      is = omega (arith, ints, now c, was c, c.worth.ensures.bound, c.worth-2.ensures.bound);
      bound = omega (arith, ints, now c, small, c.worth-2.ensures.bound);
    }
