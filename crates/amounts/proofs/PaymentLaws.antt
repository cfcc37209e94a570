-- What one side is paid, the other pays. Assumes nothing.
use Rattle.std.proofs.Common.{◌≡◌, ℤ, pos, ◌-ℤ◌, ◌*ℤ◌, neg_ℤ, ap, ◌∙◌, arith}
use Rattle.std.proofs.lemmas.Int.{ints}
use Rattle.amounts.specs.Amounts.{OtherSidePays}
use Rattle.amounts.proofs.Ring.{neg-*ℤ, *ℤ-neg}

move-opposite : (q h d : ℤ) → q *ℤ neg_ℤ h *ℤ d ≡ neg_ℤ (q *ℤ h *ℤ d)
move-opposite q h d = ap (λ x. x *ℤ d) (*ℤ-neg q h) ∙ neg-*ℤ (q *ℤ h) d

gain-opposite : (price lots last traded cost : ℤ) → price *ℤ neg_ℤ lots -ℤ last *ℤ (neg_ℤ lots -ℤ neg_ℤ traded) -ℤ neg_ℤ cost ≡ neg_ℤ (price *ℤ lots -ℤ last *ℤ (lots -ℤ traded) -ℤ cost)
gain-opposite price lots last traded cost =
    let d : neg_ℤ lots -ℤ neg_ℤ traded ≡ neg_ℤ (lots -ℤ traded) = omega (arith, ints) in
    let e = ap (λ x. last *ℤ x) d ∙ *ℤ-neg last (lots -ℤ traded) in
    omega (arith, ints, e, *ℤ-neg price lots)

pub other-side-pays : OtherSidePays
other-side-pays = record {
  variations = λ q price lots last traded cost. ap (λ x. pos q *ℤ x) (gain-opposite price lots last traded cost) ∙ *ℤ-neg (pos q) (price *ℤ lots -ℤ last *ℤ (lots -ℤ traded) -ℤ cost);
  parts = λ q lots part whole. move-opposite (pos q) lots (part -ℤ whole);
  finals = λ q lots final last. move-opposite (pos q) lots (final -ℤ last);
}
