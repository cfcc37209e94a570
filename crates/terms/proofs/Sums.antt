-- Sums of numbers below a bound. Assumes nothing.
use Rattle.std.proofs.Common.{◌≡◌, ℕ, zero, suc, ◌+◌, ◌*◌, ◌<◌, Bool, true, false, cond, eqb, ltb, sym, refl, ap, ◌∙◌, ⊎_elim, mul-zero, mul-add, arith}
use Rattle.std.proofs.lemmas.Bool.{eq-eqb, ne_eqb, lt-ltb, le-ltb, cond-true, cond-false, cases_order}
use Rattle.terms.specs.Meaning.{sum_below}

-- what stands first is taken out
pub sum-first : (n : ℕ) (f : ℕ → ℕ) → sum_below (suc n) f ≡ f 0 + sum_below n (λ k. f (suc k))
sum-first zero f = omega arith
sum-first (suc n) f = omega (arith, sum-first n f)

pub sum-ext : (n : ℕ) (f g : ℕ → ℕ) → ((k : ℕ) → k < n → f k ≡ g k) → sum_below n f ≡ sum_below n g
sum-ext zero f g h = refl
sum-ext (suc n) f g h = omega (arith, sum-ext n f g (λ k l. h k (omega arith)), h n (omega arith))

pub sum-add : (n : ℕ) (f g : ℕ → ℕ) → sum_below n (λ k. f k + g k) ≡ sum_below n f + sum_below n g
sum-add zero f g = refl
sum-add (suc n) f g = omega (arith, sum-add n f g)

pub sum-scale : (n a : ℕ) (f : ℕ → ℕ) → sum_below n (λ k. a * f k) ≡ a * sum_below n f
sum-scale zero a f = sym (mul-zero a)
sum-scale (suc n) a f = omega (arith, sum-scale n a f, mul-add a (sum_below n f) (f n))

pub sum-none : (n : ℕ) → sum_below n (λ k. 0) ≡ 0
sum-none zero = refl
sum-none (suc n) = omega (arith, sum-none n)

pub sum-swap : (n m : ℕ) (f : ℕ → ℕ → ℕ) → sum_below n (λ a. sum_below m (f a)) ≡ sum_below m (λ b. sum_below n (λ a. f a b))
sum-swap zero m f = sym (sum-none m)
sum-swap (suc n) m f = omega (arith, sum-swap n m f, sum-add m (λ b. sum_below n (λ a. f a b)) (f n))

-- a test inside a sum or around it
pub sum-if : (n : ℕ) (b : Bool) (f : ℕ → ℕ) → cond b (sum_below n f) 0 ≡ sum_below n (λ k. cond b (f k) 0)
sum-if n true f = refl
sum-if n false f = sym (sum-none n)

-- the sum of what stands at one place
pub sum-at : (n a : ℕ) (f : ℕ → ℕ) → sum_below n (λ k. cond (eqb k a) (f k) 0) ≡ cond (ltb a n) (f a) 0
sum-at zero a f = sym (cond-false _ (f a) 0 (le-ltb a 0 (omega arith)))
sum-at (suc n) a f =
    ⊎_elim (λ (e : a ≡ n).
    let s : sum_below n (λ k. cond (eqb k a) (f k) 0) ≡ 0 = sum-at n a f ∙ cond-false _ (f a) 0 (le-ltb a n (omega arith)) in
    rw (eq-eqb n a (sym e), lt-ltb a (suc n) (omega arith)) (omega (arith, s, ap f e)))
    (⊎_elim (λ (l : a < n).
    let s : sum_below n (λ k. cond (eqb k a) (f k) 0) ≡ f a = sum-at n a f ∙ cond-true _ (f a) 0 (lt-ltb a n l) in
    rw (ne_eqb n a (λ q. omega arith), lt-ltb a (suc n) (omega arith)) (omega (arith, s)))
    (λ (l : n < a).
    let s : sum_below n (λ k. cond (eqb k a) (f k) 0) ≡ 0 = sum-at n a f ∙ cond-false _ (f a) 0 (le-ltb a n (omega arith)) in
    rw (ne_eqb n a (λ q. omega arith), le-ltb a (suc n) l) (omega (arith, s))))
    (cases_order a n)
