-- How many days of a set there are. Assumes nothing.
use Rattle.std.specs.Prelude.{ℕ, zero, suc, ◌+◌, ◌-◌, Bool, cond}

-- how many days of the set come before a day
unfoldable pub before : (ℕ → Bool) → ℕ → ℕ
before f zero = 0
before f (suc d) = before f d + cond (f d) 1 0

-- how many there are from a on, before b
abbrev pub between : (ℕ → Bool) → ℕ → ℕ → ℕ
between f a b = before f b - before f a
