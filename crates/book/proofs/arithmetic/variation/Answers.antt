use Rattle.std.proofs.Common.{◌≡◌, pos, ◌-ℤ◌, ◌*ℤ◌, ap, ◌∙◌, arith, to_z, of_z, w32, w64}
use Rattle.std.proofs.lemmas.Int.{ints}
use Rattle.amounts.proofs.PaymentLaws.{other-side-pays}
use Rattle.book.proofs.arithmetic.variation.Goals as goal

pub returns-clause-is : goal.returns-clause-is
returns-clause-is c =
    let today : to_z w32 (of_z w32 c.args.today) ≡ c.args.today = omega (arith, ints) in
    let lots : to_z w32 (of_z w32 c.args.lots) ≡ c.args.lots = omega (arith, ints) in
    let last : to_z w32 (of_z w32 c.args.last) ≡ c.args.last = omega (arith, ints) in
    let traded : to_z w32 (of_z w32 c.args.traded) ≡ c.args.traded = omega (arith, ints) in
    let gain = c.gain.ensures.is ∙ (λ i. today i *ℤ lots i -ℤ last i *ℤ (lots i -ℤ traded i)) in
    let less : to_z w64 (of_z w64 (to_z w64 (of_z w64 c.gain.result) -ℤ to_z w64 (of_z w64 c.args.cost))) ≡ c.gain.result -ℤ c.args.cost = omega (arith, ints, c.gain.ensures.bound) in
    let same : to_z w64 (of_z w64 c.times.result) ≡ c.times.result = omega (arith, ints) in
    same ∙ c.times.ensures.is ∙ (λ i. pos c.args.quantity *ℤ (less ∙ ap (λ g. g -ℤ c.args.cost) gain) i)

pub returns-clause-other_side : goal.returns-clause-other_side
returns-clause-other_side c = other-side-pays
