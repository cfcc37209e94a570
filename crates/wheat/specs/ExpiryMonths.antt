-- The order of the expiries and the months. Assumes nothing.
use Rattle.std.specs.Prelude.{◌≡◌, ℕ, ◌+◌, ◌*◌, ◌/◌, ◌%◌, ◌<◌, ◌≤◌, Bool, true, cond, ◌&&◌, leb, nat_le, nat_lt, slice_index, refl}
use Rattle.std.proofs.Common.{sym, ◌∙◌, ⊎_elim, arith}
use Rattle.std.proofs.lemmas.Bool.{and_parts, leb-true, ltb-true, lt-ltb, le-ltb, cond-true, cond-false, cases_lt}
use Rattle.dates.proofs.Below.{every, at}
use Rattle.wheat.specs.Wheat.{expiry_months, earlier_expiries, expiry_month, expiries_before}

abbrev in_year : ℕ → ℕ
in_year s = slice_index expiry_months s

abbrev gone : ℕ → ℕ
gone r = slice_index earlier_expiries r

-- each quarter has one expiry, and not in its first month
abbrev third : ℕ → Bool
third s = nat_le (3 * s + 1) (in_year s) && nat_le (in_year s) (3 * s + 2)

pub expiry-near : (k : ℕ) → (3 * k + 1 ≤ expiry_month k) × (expiry_month k ≤ 3 * k + 2)
expiry-near k =
    let t = and_parts _ _ (at third 4 refl (k % 4) (omega arith)) in
    let a : 3 * (k % 4) + 1 ≤ in_year (k % 4) = leb-true _ _ t.0 in
    let b : in_year (k % 4) ≤ 3 * (k % 4) + 2 = leb-true _ _ t.1 in
    (omega arith, omega arith)

-- which expiries of a year come before a month of it
abbrev side : ℕ → ℕ → Bool
side r s = cond (nat_lt s (gone r)) (nat_lt (in_year s) r) (nat_le r (in_year s))

side-holds : (r s : ℕ) → r < 12 → s < 4 → side r s ≡ true
side-holds r s h k = at (side r) 4 (at (λ r. every (side r) 4) 12 refl r h) s k

pub before-near : (m : ℕ) → expiries_before m ≤ 4 * (m / 12) + 3
before-near m =
    let g : gone (m % 12) ≤ 3 = leb-true _ _ (at (λ r. leb (gone r) 3) 12 refl (m % 12) (omega arith)) in
    omega arith

-- an expiry comes before a month or it does not, by their numbers
module _ (i m : ℕ) where
  pub month-past : i < expiries_before m → expiry_month i < m
  month-past h =
      let g = before-near m in
      let n = expiry-near i in
      ⊎_elim (λ (l : i / 4 < m / 12). omega arith)
      (λ l.
      let t : side (m % 12) (i % 4) ≡ true = side-holds (m % 12) (i % 4) (omega arith) (omega arith) in
      let u : in_year (i % 4) < m % 12 = ltb-true _ _ (sym (cond-true _ _ _ (lt-ltb (i % 4) (gone (m % 12)) (omega arith))) ∙ t) in
      omega arith)
      (cases_lt (i / 4) (m / 12))

  pub month-ahead : expiries_before m ≤ i → m ≤ expiry_month i
  month-ahead h =
      ⊎_elim (λ (l : m / 12 < i / 4). omega arith)
      (λ l.
      let t : side (m % 12) (i % 4) ≡ true = side-holds (m % 12) (i % 4) (omega arith) (omega arith) in
      let u : m % 12 ≤ in_year (i % 4) = leb-true _ _ (sym (cond-false _ _ _ (le-ltb (i % 4) (gone (m % 12)) (omega arith))) ∙ t) in
      omega arith)
      (cases_lt (m / 12) (i / 4))
