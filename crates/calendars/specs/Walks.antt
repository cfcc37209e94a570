-- Steps from day to day of a set, and its days within a month. Assumes nothing.
use Rattle.std.specs.Prelude.{◌≡◌, ℕ, zero, suc, ◌+◌, ◌-◌, ◌<◌, ◌≤◌, Bool, true, false, cond, ◌&&◌, Some, None, Option, ◌==◌, nat_lt}
use Rattle.std.specs.declared.ops.Range.{Range}
use Rattle.dates.specs.Dates.{when, days_in, start, month_of}
use Rattle.calendars.specs.Sets.{between}

-- the days of a month, from its first, before the first of the next
abbrev pub days_of : ℕ → Option (Range ℕ)
days_of m = when (nat_lt m 1200) (record { start = start m; end = start (m + 1) })

-- the first day of the set among the n days from a on
unfoldable pub first_from : (ℕ → Bool) → ℕ → ℕ → Option ℕ
first_from f a zero = None
first_from f a (suc n) = cond (f a) (Some a) (first_from f (suc a) n)

-- no day from a on, before b, is in the set
abbrev pub NoneIn : (ℕ → Bool) → ℕ → ℕ → Type 0
NoneIn f a b = (k : ℕ) → a ≤ k → k < b → f k ≡ false

-- d is the least day of the set from a on, before b
pub record First (f : ℕ → Bool) (a b d : ℕ) : Type 0 where
  pub from : a ≤ d
  pub to : d < b
  pub inside : f d ≡ true
  pub none : NoneIn f a d

-- e is the least day of the set after d
pub record Next (f : ℕ → Bool) (d e : ℕ) : Type 0 where
  pub after : d < e
  pub inside : f e ≡ true
  pub none : (k : ℕ) → d < k → k < e → f k ≡ false

-- the next day of the set after a day, up to the last of the range
abbrev pub next_after : (ℕ → Bool) → ℕ → Option ℕ
next_after f d = first_from f (d + 1) (36525 - (d + 1))

abbrev pub first_in_month : (ℕ → Bool) → ℕ → Option ℕ
first_in_month f m = cond (nat_lt m 1200) (first_from f (start m) (days_in m)) None

-- how many days of the set come after a day within its month
abbrev pub left : (ℕ → Bool) → ℕ → ℕ
left f d = between f (d + 1) (start (month_of d + 1))

abbrev pub left_in_month : (ℕ → Bool) → ℕ → Option ℕ
left_in_month f d = when (nat_lt d 36525) (left f d)

-- a day of the set after which k more come within its month
abbrev pub leaves : (ℕ → Bool) → ℕ → ℕ → Bool
leaves f k d = f d && (nat_lt d 36525 && left f d == k)

-- the day of a month that leaves k more
abbrev pub with_left : (ℕ → Bool) → ℕ → ℕ → Option ℕ
with_left f m k = first_in_month (leaves f k) m
