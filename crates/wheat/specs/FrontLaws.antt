-- T01's expiry from day to day. Assumes nothing.
use Rattle.std.specs.Prelude.{◌≡◌, ℕ, ◌+◌, ◌<◌, ◌≤◌, Bool, true, false, Some, ◌==◌, nat_lt, refl}
use Rattle.std.proofs.Math.Path.{ap}
use Rattle.std.proofs.Common.{◌∙◌, add-zero}
use Rattle.std.proofs.Math.Logic.{⊎_elim}
use native.Mathlib.Omega.{arith}
use Rattle.std.proofs.lemmas.Bool.{cases_lt, cases_eq, cases_order, cond_both, eqb-true, eqb-false, ltb-true, ltb-false, both_ways}
use Rattle.dates.specs.Dates.{when, month_of, month_of_day}
use Rattle.dates.proofs.MonthLaws.{month-holds, start-rises, given, told}
use Rattle.calendars.specs.Calendars.{Four}
use Rattle.calendars.specs.Walks.{Next}
use Rattle.terms.specs.Meaning.{one}
use Rattle.terms.proofs.Listings.{Answered, answered-month}
use Rattle.wheat.specs.Wheat.{expiry_month, expiries_before, last_day, not_past, front_expiry}
use Rattle.wheat.specs.ExpiryMonths.{expiry-near, before-near, month-past, month-ahead}
use Rattle.wheat.specs.LastDays.{last-is, last-rises}

-- the answer for a day, from that on its month
pub front-answer : (f : ℕ → Bool) (d m k : ℕ) → Some m ≡ month_of_day d → k ≡ expiries_before m → Some (not_past f k d) ≡ when (nat_lt d 36525) (front_expiry f d)
unfolding front_expiry
front-answer f d m k month e =
    let t = told (nat_lt d 36525) m (month_of d) month in
    given d 36525 _ _ (ltb-true d 36525 t.0) (ap (λ x. not_past f x d) (e ∙ ap expiries_before t.1))

module _ (f : ℕ → Bool) (four : Four f) (d : ℕ) (a : Answered f d) where
  abbrev here : ℕ
  here = expiries_before (month_of d)

  here-bounds : (4 ≤ here) × (here ≤ 387)
  here-bounds = let m = answered-month f d a in (omega arith, omega (arith, before-near (month_of d)))

  pub front-bounds : (4 ≤ front_expiry f d) × (front_expiry f d ≤ 388)
  unfolding front_expiry
  front-bounds =
      let b = here-bounds in
      cond_both (nat_lt (last_day f here) d) (here + 1) here (λ n. (4 ≤ n) × (n ≤ 388)) (λ _. (omega arith, omega arith)) (λ _. (omega arith, omega arith))

  -- the expiries of earlier and of later months
  earlier : (i : ℕ) → i < here → last_day f i < d
  earlier i h =
      let m = month-past i (month_of d) h in
      omega (arith, (last-is f four i (omega (arith, here-bounds))).1.to, start-rises (expiry_month i + 1) (month_of d) (omega arith), (month-holds d).from)

  later : (i : ℕ) → i < 400 → here < i → d < last_day f i
  later i r h =
      let m = month-ahead here (month_of d) (omega arith) in
      omega (arith, (last-is f four i r).1.from, start-rises (month_of d + 1) (expiry_month i) (omega (arith, expiry-near here, expiry-near i)), (month-holds d).to)

  pub front-past : (i : ℕ) → i < front_expiry f d → last_day f i < d
  unfolding front_expiry
  front-past i =
      cond_both (nat_lt (last_day f here) d) (here + 1) here (λ n. i < n → last_day f i < d)
      (λ e h. ⊎_elim (λ (q : i ≡ here). omega (arith, ap (last_day f) q, ltb-true _ _ e)) (λ q. earlier i (omega arith)) (cases_eq i here))
      (λ e h. earlier i h)

  pub front-ahead : (i : ℕ) → i < 400 → front_expiry f d ≤ i → d ≤ last_day f i
  unfolding front_expiry
  front-ahead i r =
      cond_both (nat_lt (last_day f here) d) (here + 1) here (λ n. n ≤ i → d ≤ last_day f i)
      (λ e h. omega (arith, later i r (omega arith)))
      (λ e h. ⊎_elim (λ (q : i ≡ here). omega (arith, ap (last_day f) q, ltb-false _ _ e)) (λ q. omega (arith, later i r (omega arith))) (cases_eq i here))

  -- no other expiry is the first not past
  front-only : (n : ℕ) → n < 400 → ((i : ℕ) → i < n → last_day f i < d) → d ≤ last_day f n → front_expiry f d ≡ n
  front-only n r past ahead =
      ⊎_elim (λ e. e)
      (⊎_elim (λ l. absurd (omega (arith, past (front_expiry f d) l, front-ahead (front_expiry f d) (omega arith) (omega arith))))
      (λ l. absurd (omega (arith, ahead, front-past n l))))
      (cases_order (front_expiry f d) n)

-- on the next open day T01 has the next expiry just after its last trading day, and else the same
module _ (f : ℕ → Bool) (four : Four f) (d e : ℕ) (a : Answered f d) (to : e < 35430) (n : Next f d e) where
  abbrev front : ℕ
  front = front_expiry f d

  -- an open day after d is e or later
  reached : (k : ℕ) → k < 400 → d < last_day f k → e ≤ last_day f k
  reached k r l =
      ⊎_elim (λ h. absurd (both_ways _ (n.none _ l h) (last-is f four k r).1.inside)) (λ h. h) (cases_lt (last_day f k) e)

  pub front-next : front_expiry f e ≡ front + one (last_day f front == d)
  front-next = go (last_day f front == d) refl
    where
      there : Answered f e
      there = record { from = omega (arith, a.from, n.after); to = to; opened = n.inside }

      go : (b : Bool) → (last_day f front == d) ≡ b → front_expiry f e ≡ front + one b
      go true q =
          let s = eqb-true _ _ q in
          let b = front-bounds f four d a in
          front-only f four e there (front + 1) (omega arith)
          (λ i h. ⊎_elim (λ (z : i ≡ front). omega (arith, ap (last_day f) z, n.after)) (λ z. omega (arith, front-past f four d a i (omega arith), n.after)) (cases_eq i front))
          (reached (front + 1) (omega arith) (omega (arith, last-rises f four front (front + 1) (omega arith) (omega arith))))
      go false q =
          let s = eqb-false _ _ q in
          let b = front-bounds f four d a in
          front-only f four e there (front + 0) (omega arith)
          (λ i h. omega (arith, front-past f four d a i (omega arith), n.after))
          (rw add-zero (reached front (omega arith) (omega (arith, s, front-ahead f four d a front (omega arith) (omega arith)))))
