-- The last trading days of the expiries. Assumes nothing.
use Rattle.std.specs.Prelude.{◌≡◌, ℕ, zero, suc, ◌+◌, ◌-◌, ◌<◌, ◌≤◌, Bool, true, false, Some, None, nat_lt}
use Rattle.std.proofs.Math.Path.{refl, ap, subst}
use Rattle.std.proofs.Common.{sym, ◌∙◌, ⊎_elim, add-zero, arith}
use Rattle.std.proofs.lemmas.Bool.{cases_lt, cases_Bool, cases_eq, cond_below, cond_above}
use Rattle.std.proofs.lemmas.Option.{none-some}
use Rattle.std.specs.Option.{unwrap_or}
use Rattle.dates.specs.Dates.{when, start}
use Rattle.dates.proofs.MonthLaws.{start-next, start-rises, start-last, days-bounds, told}
use Rattle.calendars.specs.Sets.{before}
use Rattle.calendars.specs.Calendars.{Four}
use Rattle.calendars.specs.Walks.{first_from, First}
use Rattle.calendars.specs.Counts.{before-out}
use Rattle.calendars.proofs.Firsts.{first-is}
use Rattle.wheat.specs.Wheat.{expiry_month, tenth, last_trading_day, last_day}
use Rattle.wheat.specs.ExpiryMonths.{expiry-near}

module _ (f : ℕ → Bool) where
  -- where a stretch of days has open days, it has a first
  some_first : (n a : ℕ) → before f a < before f (a + n) → (x : ℕ) × First f a (a + n) x
  some_first zero a h = absurd (omega (arith, ap (before f) (add-zero a)))
  some_first (suc n) a h =
      ⊎_elim (λ (e : f a ≡ true). (a, record { from = omega arith; to = omega arith; inside = e; none = λ k l u. absurd (omega arith) }))
      (λ (e : f a ≡ false).
      let s : a + 1 + n ≡ a + suc n = omega arith in
      let (x, t) = some_first n (a + 1) (omega (arith, ap (before f) s, before-out f a e)) in
      (x, record { from = omega (arith, t.from); to = omega (arith, t.to); inside = t.inside; none = λ k l u. ⊎_elim (λ (q : k ≡ a). ap f q ∙ e) (λ q. t.none k (omega arith) u) (cases_eq k a) }))
      (cases_Bool (f a))

  -- the answer for an expiry, from that on its tenth
  pub last-answer : (k a : ℕ) → k < 400 → Some a ≡ when (nat_lt k 400) (tenth k) → first_from f a (36525 - a) ≡ last_trading_day f k
  unfolding last_trading_day
  last-answer k a h e =
      ap (λ n. first_from f n (36525 - n)) (told (nat_lt k 400) a (tenth k) e).1 ∙ cond_below k 400 _ None h

  pub no_answer : (k : ℕ) → 400 ≤ k → None ≡ last_trading_day f k
  unfolding last_trading_day
  no_answer k h = cond_above k 400 _ None None h refl

  -- a last trading day is that of one of the expiries
  pub last-told : (k x : ℕ) → last_trading_day f k ≡ Some x → (k < 400) × (last_day f k ≡ x)
  last-told k x e =
      (⊎_elim (λ h. h) (λ h. absurd (none-some x (no_answer k h ∙ e))) (cases_lt k 400), ap (λ o. unwrap_or o 36525) e)

  module _ (four : Four f) where
    -- every expiry has a last trading day, in its month
    pub last-is : (k : ℕ) → k < 400 → (last_trading_day f k ≡ Some (last_day f k)) × First f (tenth k) (start (expiry_month k + 1)) (last_day f k)
    unfolding last_trading_day
    last-is k h =
        let m = expiry_month k in
        let a = tenth k in
        let b = start (m + 1) in
        let r : m < 1200 = omega (arith, expiry-near k) in
        let e : a + (b - a) ≡ b = omega (arith, start-next m, days-bounds m) in
        let (x, t) = some_first (b - a) a (omega (arith, ap (before f) e, four m r)) in
        let to : x < b = omega (arith, t.to) in
        let i : Some x ≡ last_trading_day f k = first-is f a 36525 x (record { from = t.from; to = omega (arith, start-rises (m + 1) 1200 (omega arith), start-last); inside = t.inside; none = t.none }) ∙ cond_below k 400 _ _ h in
        let v : x ≡ last_day f k = ap (λ o. unwrap_or o 36525) i in
        (sym i ∙ ap Some v, subst (First f a b) v (record { from = t.from; to = to; inside = t.inside; none = t.none }))

    pub last-below : (k : ℕ) → k < 400 → last_day f k < 36525
    last-below k h =
        omega (arith, (last-is k h).1.to, start-rises (expiry_month k + 1) 1200 (omega (arith, expiry-near k)), start-last)

    -- a later expiry's comes later
    pub last-rises : (i j : ℕ) → i < j → j < 400 → last_day f i < last_day f j
    last-rises i j l h =
        omega (arith, (last-is i (omega arith)).1.to, (last-is j h).1.from, start-rises (expiry_month i + 1) (expiry_month j) (omega (arith, expiry-near i, expiry-near j)))
