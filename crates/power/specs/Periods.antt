-- The own period of a day, told by its month and the open days left, and on the next open day. Assumes nothing.
use Rattle.std.specs.Prelude.{◌≡◌, ℕ, ◌+◌, ◌-◌, ◌*◌, ◌/◌, ◌%◌, ◌<◌, ◌≤◌, Bool, false, cond, not, ◌&&◌, ◌==◌, ◌≢◌, nat_eq, nat_lt, refl}
use Rattle.std.proofs.Common.{sym, ap, ◌∙◌, ⊎_elim, arith}
use Rattle.std.proofs.lemmas.Bool.{cases_eq, cases_lt, eq-eqb, ne_eqb, le-ltb}
use Rattle.std.proofs.lemmas.Bool.Decides.{nat_tests}
use Rattle.calendars.specs.Counts.{before-rises}
use Rattle.calendars.proofs.Steps.{next-same, next-left, next-turn}
use Rattle.calendars.specs.Calendars.{Lawful}
use Rattle.calendars.specs.Sets.{between}
use Rattle.calendars.specs.Walks.{left, Next}
use Rattle.dates.proofs.MonthLaws.{month-holds, start-rises}
use Rattle.dates.specs.Dates.{start, month_of}
use Rattle.power.specs.Tables.{by_length}
use Rattle.power.specs.Classes.{length_of}
use Rattle.power.specs.Monthly.{own_by, turns_by}
use Rattle.power.specs.Power.{left_of, own, turns}
use Rattle.terms.specs.Meaning.{one}

-- In the last month of a period the open days left in it are those left in the month; before, there are four at least.
pub record Left (k m period month : ℕ) : Type 0 where
  pub last : m % k ≡ k - 1 → period ≡ month
  pub more : (m % k ≢ k - 1) → 4 ≤ period

module _ (f : ℕ → Bool) (law : Lawful f) (d : ℕ) (h : month_of d < 1200) where
  in-last : (k : ℕ) → k * (month_of d / k + 1) ≡ month_of d + 1 → left_of f k d ≡ left f d
  in-last k e = ap (λ m. between f (d + 1) (start m)) e

  in-earlier : (k : ℕ) → month_of d + 2 ≤ k * (month_of d / k + 1) → month_of d + 1 < 1200 → 4 ≤ left_of f k d
  in-earlier k l r =
      let m = month_of d in
      let e : m + 1 + 1 ≡ m + 2 = omega arith in
      let four = rw e at (law.four (m + 1) r) in
      let low = before-rises f (d + 1) (start (m + 1) + 9) (omega (arith, (month-holds d).to)) in
      let high = before-rises f (start (m + 2)) (start (k * (m / k + 1))) (start-rises _ _ l) in
      let mid = before-rises f (start (m + 1) + 9) (start (m + 2)) in
      omega arith

  pub left-of : (c : ℕ) → c < 11 → Left (length_of c) (month_of d) (left_of f (length_of c) d) (left f d)
  left-of =
      by_length (λ k. Left k (month_of d) (left_of f k d) (left f d))
      (record { last = λ _. in-last 1 (omega arith); more = λ n. absurd (n (omega arith)) })
      (record { last = λ e. in-last 3 (omega arith); more = λ n. in-earlier 3 (omega arith) (omega arith) })
      (record { last = λ e. in-last 12 (omega arith); more = λ n. in-earlier 12 (omega arith) (omega arith) })

-- the own period and its turn, by the month
own-by : (k m p l : ℕ) → Left k m p l → m / k + one (not (k == 1) && nat_lt p 3) ≡ own_by k m l
own-by k m p l t =
    ⊎_elim (λ e. let q = t.last e in rw (q, eq-eqb (m % k) (k - 1) e))
    (λ n. rw (ne_eqb (m % k) (k - 1) n, le-ltb p 3 (omega (arith, t.more n))))
    (cases_eq (m % k) (k - 1))

turns-by : (k m p l : ℕ) → (k == 1) ≡ false → Left k m p l → (p == cond (k == 1) 0 3) ≡ turns_by k m l
turns-by k m p l z t =
    rw z (⊎_elim (λ e. let q = t.last e in rw (q, eq-eqb (m % k) (k - 1) e))
    (λ n. rw (ne_eqb (m % k) (k - 1) n, ne_eqb p 3 (λ e. omega (arith, t.more n))))
    (cases_eq (m % k) (k - 1)))

turns-month : (m p l : ℕ) → Left 1 m p l → (p == 0) ≡ (l == 0)
turns-month m p l t = ap (λ n. nat_eq n 0) (t.last (omega arith))

module _ (f : ℕ → Bool) (law : Lawful f) (d : ℕ) (h : month_of d < 1200) where
  pub own_is : (c : ℕ) → c < 11 → own f (length_of c) d ≡ own_by (length_of c) (month_of d) (left f d)
  own_is c k = own-by (length_of c) (month_of d) (left_of f (length_of c) d) (left f d) (left-of f law d h c k)

  turning : (k : ℕ) → Type 0
  turning k = Left k (month_of d) (left_of f k d) (left f d) → turns f k d ≡ turns_by k (month_of d) (left f d)

  pub turns-is : (c : ℕ) → c < 11 → turns f (length_of c) d ≡ turns_by (length_of c) (month_of d) (left f d)
  unfolding turning
  turns-is c k =
      by_length turning (turns-month _ _ _) (turns-by 3 _ _ _ refl) (turns-by 12 _ _ _ refl) c k (left-of f law d h c k)

-- the own period moves on by one just after the days on which it turns
abbrev Step : ℕ → Type 0
Step k = ((m l : ℕ) → own_by k m l ≡ own_by k m (l + 1) + one (turns_by k m (l + 1))) × ((m l : ℕ) → 3 ≤ l → own_by k (m + 1) l ≡ own_by k m 0 + one (turns_by k m 0))

steps : (c : ℕ) → c < 11 → Step (length_of c)
steps =
    by_length Step ((λ m l. grind (arith, nat_tests)), (λ m l h. grind (arith, nat_tests))) ((λ m l. grind (arith, nat_tests)), (λ m l h. grind (arith, nat_tests))) ((λ m l. grind (arith, nat_tests)), (λ m l h. grind (arith, nat_tests)))

-- with equations as premises, since a rewrite by the month's would go into the count of days too
same-month : (k m l m' l' : ℕ) → Step k → m' ≡ m → l ≡ l' + 1 → own_by k m' l' ≡ own_by k m l + one (turns_by k m l)
same-month k m l m' l' s a b = rw (a, b) (s.0 m l')

next-month : (k m l m' l' : ℕ) → Step k → m' ≡ m + 1 → l ≡ 0 → 3 ≤ l' → own_by k m' l' ≡ own_by k m l + one (turns_by k m l)
next-month k m l m' l' s a b h = rw (a, b) (s.1 m l' h)

pub own-next : (f : ℕ → Bool) → Lawful f → (d e c : ℕ) → c < 11 → Next f d e → month_of d + 1 < 1200 → month_of e < 1200 → own f (length_of c) e ≡ own f (length_of c) d + one (turns f (length_of c) d)
own-next f law d e c k n r r' =
    let step : own_by (length_of c) (month_of e) (left f e) ≡ own_by (length_of c) (month_of d) (left f d) + one (turns_by (length_of c) (month_of d) (left f d)) =
    ⊎_elim (λ (h : 0 < left f d). same-month _ _ _ _ _ (steps c k) (next-same f d e n h) (next-left f d e n h))
    (λ h. let z : left f d ≡ 0 = omega arith in let t = next-turn f d e n law.four z r in next-month _ _ _ _ _ (steps c k) t.0 z t.1)
    (cases_lt 0 (left f d)) in
    let here = own_is f law d (omega arith) c k in
    let turn = turns-is f law d (omega arith) c k in
    own_is f law e r' c k ∙ step ∙ ap (λ n. n + one (turns_by (length_of c) (month_of d) (left f d))) (sym here) ∙ ap (λ b. own f (length_of c) d + one b) (sym turn)
