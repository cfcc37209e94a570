-- What chains over a range tell: how many days of a set it has, and that each of its numbers passes. Assumes nothing.
use Rattle.std.proofs.Common.{◌≡◌, ℕ, zero, suc, ◌+◌, ◌-◌, ◌<◌, ◌≤◌, Bool, true, false, cond, MatchBool, Decides, length, get_or, refl, ap, ◌∙◌, ⊎_elim, zero-add, arith}
use Rattle.std.specs.List.{count_by, range_with_len, AllWithin, HoldsAt}
use Rattle.std.proofs.lemmas.Bool.{cases_lt, false≢true}
use Rattle.std.proofs.lemmas.List.Sums.{sum_by-cons, count_by-le-length}
use Rattle.std.proofs.lemmas.List.FromFn.{length-range_with_len, get_or-range_with_len}
use Rattle.calendars.specs.Sets.{between}
use Rattle.calendars.specs.Counts.{before-next, before-rises}

module _ (f : ℕ → Bool) where
  pub counted_most : (n a : ℕ) → count_by f (range_with_len a n) ≤ n
  counted_most n a = omega (arith, count_by-le-length f (range_with_len a n), length-range_with_len a n)

  counted_from : (n a : ℕ) → count_by f (range_with_len a n) ≡ between f a (a + n)
  counted_from zero a = let e : a + 0 ≡ a = omega arith in rw e (omega arith)
  counted_from (suc n) a =
      let e : a + 1 + n ≡ a + suc n = omega arith in
      omega (arith, sum_by-cons (λ d. cond (f d) 1 0) a (range_with_len (a + 1) n), counted_from n (a + 1), ap (between f (a + 1)) e, before-next f a, before-rises f (a + 1) (a + suc n) (omega arith))

  pub counted : (a b : ℕ) → count_by f (range_with_len a (b - a)) ≡ between f a b
  counted a b =
      ⊎_elim
      (λ l. omega (arith, counted_most (b - a) a, before-rises f b a (omega arith)))
      (λ h. let e : a + (b - a) ≡ b = omega arith in counted_from (b - a) a ∙ ap (between f a) e)
      (cases_lt b a)

-- each number below n is asked whether k of it is four at least
pub asked_below : (k : ℕ → ℕ) (n : ℕ) (r : Bool) → MatchBool r (AllWithin (λ m. m < n → 4 ≤ k m) (range_with_len 0 n) 0 (length (range_with_len 0 n))) ((i : ℕ) × (i < length (range_with_len 0 n)) × HoldsAt (λ m. m < n → k m < 4) (range_with_len 0 n) i) → Decides r ((m : ℕ) → m < n → 4 ≤ k m)
asked_below k n true h = (
  λ _ m l.
      let e : get_or (range_with_len 0 n) m 0 ≡ m = get_or-range_with_len 0 n m 0 l ∙ zero-add m in
      rw e at (h m 0 (omega arith) (omega (arith, length-range_with_len 0 n))) l,
  λ _. refl,
)
asked_below k n false h =
    let l : h.0 < n = omega (arith, length-range_with_len 0 n) in
    let e : get_or (range_with_len 0 n) h.0 0 ≡ h.0 = get_or-range_with_len 0 n h.0 0 l ∙ zero-add h.0 in
    (λ t. absurd (false≢true t), λ all. absurd (omega (arith, all h.0 l, rw e at (h.2 0) l)))
