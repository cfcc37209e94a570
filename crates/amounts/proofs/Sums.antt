-- Sums of whole numbers below a bound. Assumes nothing.
use Rattle.std.proofs.Common.{◌≡◌, ℕ, zero, suc, ◌<◌, ◌≤◌, Bool, true, false, eqb, ℤ, pos, ◌+ℤ◌, ◌-ℤ◌, ◌*ℤ◌, neg_ℤ, sym, refl, ap, ◌∙◌, ⊎_elim, arith}
use lib.IntN.{*ℤ-zero, zero-*ℤ}
use Rattle.std.proofs.lemmas.Int.{ints}
use Rattle.std.proofs.lemmas.Bool.{cases_eq, eq-eqb, ne_eqb, cond-true, cond-false}
use Rattle.amounts.specs.SumsOfWhole.{sum_z, if_z}
use Rattle.amounts.proofs.Ring.{*ℤ-left-distrib, *ℤ-right-distrib}

pub sum_same : (n : ℕ) (f g : ℕ → ℤ) → ((k : ℕ) → k < n → f k ≡ g k) → sum_z n f ≡ sum_z n g
sum_same zero f g h = refl
sum_same (suc n) f g h = omega (arith, ints, sum_same n f g (λ k l. h k (omega arith)), h n (omega arith))

pub sum-add : (n : ℕ) (f g : ℕ → ℤ) → sum_z n (λ k. f k +ℤ g k) ≡ sum_z n f +ℤ sum_z n g
sum-add zero f g = refl
sum-add (suc n) f g = omega (arith, ints, sum-add n f g)

pub sum-sub : (n : ℕ) (f g : ℕ → ℤ) → sum_z n (λ k. f k -ℤ g k) ≡ sum_z n f -ℤ sum_z n g
sum-sub zero f g = refl
sum-sub (suc n) f g = omega (arith, ints, sum-sub n f g)

pub sum-neg : (n : ℕ) (f : ℕ → ℤ) → sum_z n (λ k. neg_ℤ (f k)) ≡ neg_ℤ (sum_z n f)
sum-neg zero f = refl
sum-neg (suc n) f = omega (arith, ints, sum-neg n f)

pub sum-zero : (n : ℕ) → sum_z n (λ k. pos 0) ≡ pos 0
sum-zero zero = refl
sum-zero (suc n) = omega (arith, ints, sum-zero n)

pub sum-nil : (n : ℕ) (f : ℕ → ℤ) → ((k : ℕ) → k < n → f k ≡ pos 0) → sum_z n f ≡ pos 0
sum-nil n f h = sum_same n f (λ k. pos 0) h ∙ sum-zero n

pub sum_left : (n : ℕ) (a : ℤ) (f : ℕ → ℤ) → sum_z n (λ k. a *ℤ f k) ≡ a *ℤ sum_z n f
sum_left zero a f = sym (*ℤ-zero a)
sum_left (suc n) a f = ap (λ x. x +ℤ a *ℤ f n) (sum_left n a f) ∙ sym (*ℤ-left-distrib a (sum_z n f) (f n))

pub sum-right : (n : ℕ) (f : ℕ → ℤ) (a : ℤ) → sum_z n (λ k. f k *ℤ a) ≡ sum_z n f *ℤ a
sum-right zero f a = sym (zero-*ℤ a)
sum-right (suc n) f a = ap (λ x. x +ℤ f n *ℤ a) (sum-right n f a) ∙ sym (*ℤ-right-distrib (sum_z n f) (f n) a)

pub sum-swap : (m n : ℕ) (f : ℕ → ℕ → ℤ) → sum_z m (λ i. sum_z n (λ j. f i j)) ≡ sum_z n (λ j. sum_z m (λ i. f i j))
sum-swap zero n f = sym (sum-zero n)
sum-swap (suc m) n f = ap (λ x. x +ℤ sum_z n (λ j. f m j)) (sum-swap m n f) ∙ sym (sum-add n (λ j. sum_z m (λ i. f i j)) (λ j. f m j))

-- what a test lets through; where it is known, cond-true and cond-false of the shelf say the rest
pub if-zero : (b : Bool) → if_z b (pos 0) ≡ pos 0
if-zero true = refl
if-zero false = refl

pub if-add : (b : Bool) (x y : ℤ) → if_z b (x +ℤ y) ≡ if_z b x +ℤ if_z b y
if-add true x y = refl
if-add false x y = refl

pub if-times : (b : Bool) (x y : ℤ) → if_z b x *ℤ y ≡ if_z b (x *ℤ y)
if-times true x y = refl
if-times false x y = zero-*ℤ y

pub if-sum : (b : Bool) (n : ℕ) (f : ℕ → ℤ) → if_z b (sum_z n f) ≡ sum_z n (λ k. if_z b (f k))
if-sum true n f = refl
if-sum false n f = sym (sum-zero n)

-- the same for one place
pub hit : (i j : ℕ) (v : ℤ) → i ≡ j → if_z (eqb i j) v ≡ v
hit i j v e = cond-true (eqb i j) v (pos 0) (eq-eqb i j e)

pub miss : (i j : ℕ) (v : ℤ) → (i ≡ j → ⊥) → if_z (eqb i j) v ≡ pos 0
miss i j v e = cond-false (eqb i j) v (pos 0) (ne_eqb i j e)

pub sum-miss : (n a : ℕ) (v : ℤ) → n ≤ a → sum_z n (λ k. if_z (eqb k a) v) ≡ pos 0
sum-miss n a v l = sum-nil n (λ k. if_z (eqb k a) v) (λ k h. miss k a v (λ e. omega arith))

pub sum-hit : (n a : ℕ) (v : ℤ) → a < n → sum_z n (λ k. if_z (eqb k a) v) ≡ v
sum-hit zero a v l = absurd (omega arith)
sum-hit (suc n) a v l =
    ⊎_elim
    (λ (e : n ≡ a). omega (arith, ints, sum-miss n a v (omega arith), hit n a v e))
    (λ (e : n ≡ a → ⊥). omega (arith, ints, sum-hit n a v (omega arith), miss n a v e))
    (cases_eq n a)

-- only one place counts
pub sum_one : (n a : ℕ) (f : ℕ → ℤ) → a < n → ((k : ℕ) → k < n → (k ≡ a → ⊥) → f k ≡ pos 0) → sum_z n f ≡ f a
sum_one n a f l z =
    sum_same n f (λ k. if_z (eqb k a) (f a)) (λ k h.
    ⊎_elim
    (λ (e : k ≡ a). ap f e ∙ sym (hit k a (f a) e))
    (λ (e : k ≡ a → ⊥). z k h e ∙ sym (miss k a (f a) e))
    (cases_eq k a))
    ∙ sum-hit n a (f a) l
