-- Sums and products of signed numbers, as the checker has them: each number through its bits. Assumes nothing.
use Rattle.std.proofs.Common.{◌≡◌, ℕ, ◌*◌, ◌^◌, ◌<◌, ◌≤◌, ℤ, ◌+ℤ◌, ◌*ℤ◌, nat_abs, ◌∙◌, arith, SFits, to_z, of_z}
use lib.Signed.{nat_abs-le}
use mir.Syntax.{Width}
use mir.Val.{hbits}
use Rattle.std.proofs.lemmas.Int.{to_z-of_z, fits_signed_from_abs}
use Rattle.amounts.proofs.Ring.{product_le}

pub small-fits : (w : Width) (z : ℤ) → nat_abs z < 2 ^ hbits w → SFits w z
small-fits = fits_signed_from_abs

pub fits-size : {w : Width} (z : ℤ) → SFits w z → nat_abs z ≤ 2 ^ hbits w
fits-size z f = nat_abs-le z f.sfits

-- a number of the width v that was widened to w
pub widened : (v w : Width) (x a : ℤ) → x ≡ to_z v (of_z v a) → SFits v a → SFits w x → to_z w (of_z w x) ≡ a
widened v w x a e f g = to_z-of_z w x g ∙ e ∙ to_z-of_z v a f

pub added : (w : Width) (x y : ℤ) → SFits w x → SFits w y → SFits w (x +ℤ y) → to_z w (of_z w (to_z w (of_z w x) +ℤ to_z w (of_z w y))) ≡ x +ℤ y
added w x y f g s =
    let ex = to_z-of_z w x f in
    let ey = to_z-of_z w y g in
    rw (ex, ey) (to_z-of_z w (x +ℤ y) s)

-- the product of what the bits of x and y hold fits, and is z
pub record Exact (w : Width) (x y z : ℤ) : Type 0 where
  pub fits : SFits w (to_z w (of_z w x) *ℤ to_z w (of_z w y))
  pub is : to_z w (of_z w (to_z w (of_z w x) *ℤ to_z w (of_z w y))) ≡ z

pub exact : (w : Width) (x y a b : ℤ) (m n : ℕ) → to_z w (of_z w x) ≡ a → to_z w (of_z w y) ≡ b → nat_abs a ≤ m → nat_abs b ≤ n → m * n < 2 ^ hbits w → Exact w x y (a *ℤ b)
exact w x y a b m n ea eb ha hb l =
    let p = product_le a b m n ha hb in
    let f : SFits w (a *ℤ b) = small-fits w (a *ℤ b) (omega arith) in
    record { fits = rw (ea, eb) f; is = rw (ea, eb) (to_z-of_z w (a *ℤ b) f) }
