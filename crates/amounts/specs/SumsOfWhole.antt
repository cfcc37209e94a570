-- Sums of whole numbers. Assumes nothing.
use Rattle.std.specs.Prelude.{ℕ, zero, suc, Bool, cond, ℤ, pos, ◌+ℤ◌}

-- f 0 + .. + f (n - 1)
abbrev pub sum_z : ℕ → (ℕ → ℤ) → ℤ
sum_z zero f = pos 0
sum_z (suc n) f = sum_z n f +ℤ f n

-- v where a test passes, else 0
abbrev pub if_z : Bool → ℤ → ℤ
if_z b v = cond b v (pos 0)
