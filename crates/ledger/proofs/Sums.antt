-- Sums of numbers as sums of whole numbers, and a sum with nothing. Assumes nothing.
use Rattle.std.proofs.Common.{◌≡◌, ℕ, zero, suc, Bool, true, false, cond, ℤ, pos, ◌+ℤ◌, refl, ap, arith}
use Rattle.amounts.specs.SumsOfWhole.{sum_z, if_z}
use Rattle.std.proofs.lemmas.Int.{ints}
use Rattle.terms.specs.Meaning.{sum_below}

pub sum-pos : (n : ℕ) (f : ℕ → ℕ) → sum_z n (λ k. pos (f k)) ≡ pos (sum_below n f)
sum-pos zero f = refl
sum-pos (suc n) f = ap (λ v. v +ℤ pos (f n)) (sum-pos n f)

pub if_pos : (b : Bool) (q : ℕ) → if_z b (pos q) ≡ pos (cond b q 0)
if_pos true q = refl
if_pos false q = refl

pub plus_none : (x y : ℤ) → y ≡ pos 0 → x +ℤ y ≡ x
plus_none x y e = omega (arith, ints)
