-- What each class of power is on a day, told by the day's month m and the open days l that are left in it, as the code
-- reckons: specs/Power counts to the end of the quarter or the year instead. Assumes nothing.
use Rattle.std.specs.Prelude.{◌≡◌, ℕ, ◌+◌, ◌-◌, ◌/◌, ◌%◌, ◌≤◌, Bool, cond, not, ◌&&◌, ◌==◌, nat_lt}
use Rattle.power.specs.Classes.{length_of}
use Rattle.power.specs.Power.{class_from}
use Rattle.power.specs.declared.class.PeriodDay.{PeriodDay}
use Rattle.terms.specs.Meaning.{one}
use Rattle.terms.specs.declared.class_terms.ClassTerms.{ClassTerms}

-- the number of the day's own period of k months
abbrev pub own_by : ℕ → ℕ → ℕ → ℕ
own_by k m l = m / k + one (not (k == 1) && (m % k == k - 1 && nat_lt l 3))

-- whether the classes with such a period move up after the day
abbrev pub turns_by : ℕ → ℕ → ℕ → Bool
turns_by k m l = cond (k == 1) (l == 0) (m % k == k - 1 && l == 3)

-- what a day is to the classes with periods of k months
pub record PeriodOn (k m l : ℕ) (p : PeriodDay) : Type 0 where
  pub own : p.own ≡ own_by k m l
  pub turning : p.turning ≡ turns_by k m l
  pub bound : p.own ≤ 1200

-- a class, where `second` tells whether Y02 is tradable
abbrev pub class_by : ℕ → ℕ → Bool → ℕ → ClassTerms
class_by m l second c = class_from (own_by (length_of c) m l) (turns_by (length_of c) m l) l second c
