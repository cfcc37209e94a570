-- What terms mean: the classes of each day. Assumes nothing.
use Rattle.std.specs.Prelude.{ℕ, zero, suc, ◌+◌, Bool, true, false, cond, ◌&&◌, ◌||◌, Some, None, Option, nat_le, nat_lt, slice_index_or}
use Rattle.terms.specs.declared.class_terms.ClassTerms.{ClassTerms}
use Rattle.terms.specs.declared.class_terms.Months.{Months}

pub record Meaning : Type 0 where
  -- the open days
  pub opens : ℕ → Bool
  -- how many classes there are, and which of them settles
  pub classes : ℕ
  pub settling : ℕ
  -- the quantity of one lot in a month, the same on all days and in all classes
  pub quantity : ℕ → ℕ
  -- a class on a day, or none
  pub on : ℕ → ℕ → Option ClassTerms

-- the days for which terms answer: the open days from 2001 to 2096
abbrev pub answers : Meaning → ℕ → Bool
answers w d = nat_le 366 d && (nat_lt d 35430 && w.opens d)

-- f 0 + .. + f (n - 1)
abbrev pub sum_below : ℕ → (ℕ → ℕ) → ℕ
sum_below zero f = 0
sum_below (suc n) f = sum_below n f + f n

abbrev pub any_below : ℕ → (ℕ → Bool) → Bool
any_below zero f = false
any_below (suc n) f = any_below n f || f n

abbrev pub all_below : ℕ → (ℕ → Bool) → Bool
all_below zero f = true
all_below (suc n) f = all_below n f && f n

-- 1 where a test passes, else 0: so a sum counts
abbrev pub one : Bool → ℕ
one b = cond b 1 0

-- What a class on a day is told by; where terms do not answer, it has no month, no part and no successor.

abbrev pub months_of : Option ClassTerms → Option Months
months_of None = None
months_of (Some t) = Some t.months

abbrev pub in_months : Option Months → ℕ → Bool
in_months None m = false
in_months (Some r) m = nat_le r.first m && nat_lt m (r.first + r.count)

-- the class has the month
abbrev pub has : Option ClassTerms → ℕ → Bool
has t m = in_months (months_of t) m

abbrev pub tradable : Option ClassTerms → Bool
tradable None = false
tradable (Some t) = t.tradable

-- class p is a part of the class
abbrev pub is_part : Option ClassTerms → ℕ → Bool
is_part None p = false
is_part (Some t) p = slice_index_or t.parts p false

abbrev pub has_some_part : Option ClassTerms → Bool
has_some_part t = any_below 12 (is_part t)

abbrev pub successor : Option ClassTerms → Option ℕ
successor None = None
successor (Some t) = t.successor

-- The quantity of one lot in a class: the sum over the months that it has.
unfoldable pub class_quantity : Meaning → Option ClassTerms → ℕ
class_quantity w t = sum_below 1200 (λ m. cond (has t m) (w.quantity m) 0)
