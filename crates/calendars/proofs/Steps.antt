-- What the law of calendars gives of the step to the next open day. Assumes nothing.
use Rattle.std.proofs.Common.{◌≡◌, ℕ, ◌+◌, ◌<◌, ◌≤◌, Bool, sym, ap, ◌∙◌, ⊎_elim, arith}
use Rattle.std.proofs.lemmas.Bool.{cases_lt}
use Rattle.dates.specs.Dates.{start, month_of}
use Rattle.dates.proofs.MonthLaws.{month-holds, month-only}
use Rattle.calendars.specs.Sets.{before}
use Rattle.calendars.specs.Walks.{left, Next}
use Rattle.calendars.specs.Calendars.{Four}
use Rattle.calendars.specs.Counts.{before-in, before-rises, before-flat}

module _ (f : ℕ → Bool) (d e : ℕ) (n : Next f d e) where
  pub next-before : before f e ≡ before f (d + 1)
  next-before = before-flat f (d + 1) e (omega (arith, n.after)) (λ i low high. n.none i (omega arith) high)

  next_past : before f (e + 1) ≡ before f (d + 1) + 1
  next_past = before-in f e n.inside ∙ omega (arith, next-before)

  -- with an open day left, the next lies in the month
  pub next-same : 0 < left f d → month_of e ≡ month_of d
  next-same h =
      let t = month-holds d in
      let high : e < start (month_of d + 1) = ⊎_elim (λ s. s) (λ s. absurd (omega (arith, before-rises f (start (month_of d + 1)) e s, next-before))) (cases_lt e (start (month_of d + 1))) in
      sym (month-only e (month_of d) (record { from = omega (arith, t.from, n.after); to = high }))

  pub next-left : 0 < left f d → left f d ≡ left f e + 1
  next-left h =
      let s = ap (λ (k : ℕ). before f (start (k + 1))) (next-same h) in
      omega (arith, s, next_past)

  -- with none left, it lies in the next month and has three after it at least
  pub next-turn : Four f → left f d ≡ 0 → month_of d + 1 < 1200 → (month_of e ≡ month_of d + 1) × (3 ≤ left f e)
  next-turn four h r =
      let t = month-holds d in
      let m = month_of d in
      let low : start (m + 1) ≤ e = ⊎_elim (λ s. absurd (omega (arith, before-rises f (e + 1) (start (m + 1)) (omega arith), next_past))) (λ s. s) (cases_lt e (start (m + 1))) in
      let many = four (m + 1) r in
      let upto = before-rises f (start (m + 1)) (start (m + 1) + 9) (omega arith) in
      let flat = before-rises f (start (m + 1)) e low in
      let none = before-rises f (d + 1) (start (m + 1)) (omega (arith, t.to)) in
      let high : e < start (m + 1 + 1) = ⊎_elim (λ s. s) (λ s. absurd (omega (arith, before-rises f (start (m + 1 + 1)) e s, next-before))) (cases_lt e (start (m + 1 + 1))) in
      let is = sym (month-only e (m + 1) (record { from = low; to = high })) in
      let s = ap (λ (k : ℕ). before f (start (k + 1))) is in
      (is, omega (arith, s, next_past))
