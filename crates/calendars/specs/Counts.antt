-- Counts of the days of a set. Assumes nothing.
use Rattle.std.specs.Prelude.{◌≡◌, ℕ, zero, suc, ◌+◌, ◌-◌, ◌*◌, ◌/◌, ◌%◌, ◌<◌, ◌≤◌, Bool, true, false, cond, nat_le, refl}
use Rattle.std.proofs.Common.{sym, ap, ◌∙◌, arith}
use Rattle.std.proofs.Math.Numerals.{add-one}
use Rattle.std.proofs.Math.Nat.{add-zero, add-suc}
use Rattle.std.proofs.lemmas.Bool.{lt-ltb, leb-true, leb-false, cond_both}
use Rattle.calendars.specs.Sets.{before}
use Rattle.calendars.specs.Calendars.{weekdays}
use Rattle.calendars.specs.Walks.{NoneIn}

module _ (f : ℕ → Bool) where
  pub before-next : (d : ℕ) → before f (d + 1) ≡ before f d + cond (f d) 1 0
  unfolding before
  before-next d = rw add-one

  pub before-in : (d : ℕ) → f d ≡ true → before f (d + 1) ≡ before f d + 1
  before-in d e = before-next d ∙ rw e

  pub before-out : (d : ℕ) → f d ≡ false → before f (d + 1) ≡ before f d
  before-out d e = before-next d ∙ rw e (add-zero _)

  before_more : (d k : ℕ) → before f d ≤ before f (d + k)
  unfolding before
  before_more d zero = rw add-zero (omega arith)
  before_more d (suc k) = rw add-suc (omega (arith, before_more d k))

  pub before-rises : (a b : ℕ) → a ≤ b → before f a ≤ before f b
  before-rises a b h = let e : a + (b - a) ≡ b = omega arith in rw e at (before_more a (b - a))

  flat : (a k : ℕ) → NoneIn f a (a + k) → before f (a + k) ≡ before f a
  flat a zero h = ap (before f) (add-zero a)
  flat a (suc k) h =
      let e : a + suc k ≡ (a + k) + 1 = omega arith in
      ap (before f) e ∙ before-out (a + k) (h (a + k) (omega arith) (omega arith)) ∙ flat a k (λ i l u. h i l (omega arith))

  -- the count stands still where no day is in the set
  pub before-flat : (a b : ℕ) → a ≤ b → NoneIn f a b → before f b ≡ before f a
  before-flat a b l h =
      let e : a + (b - a) ≡ b = omega arith in
      ap (before f) (sym e) ∙ flat a (b - a) (λ i low high. h i low (omega arith))

-- one weekday more, or none
weekdays-at : (d : ℕ) → d < 36525 → cond (weekdays d) 1 0 + (5 * (d / 7) + (d % 7 - 2)) ≡ 5 * (suc d / 7) + (suc d % 7 - 2)
weekdays-at d h =
    rw (lt-ltb d 36525 h)
    (cond_both (nat_le 2 (d % 7)) 1 0 (λ x. x + (5 * (d / 7) + (d % 7 - 2)) ≡ 5 * (suc d / 7) + (suc d % 7 - 2))
    (λ e. omega (arith, leb-true 2 (d % 7) e)) (λ e. omega (arith, leb-false 2 (d % 7) e)))

-- there are five weekdays to the week
pub weekdays-before : (d : ℕ) → d ≤ 36525 → before weekdays d ≡ 5 * (d / 7) + (d % 7 - 2)
unfolding before
weekdays-before zero h = refl
weekdays-before (suc d) h = omega (arith, weekdays-before d (omega arith), weekdays-at d h)
