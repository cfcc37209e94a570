-- Tests of all numbers below a bound, and of some. Assumes nothing.
use Rattle.std.proofs.Common.{◌≡◌, ℕ, zero, suc, ◌<◌, Bool, true, false, MatchBool, ◌||◌, ◌&&◌, length, get_or, sym, refl, ap, ◌∙◌, ⊎_elim, zero-add, arith}
use Rattle.std.proofs.Math.Bool.{and-false}
use Rattle.std.proofs.lemmas.List.FromFn.{length-range_with_len, get_or-range_with_len}
use Rattle.std.proofs.lemmas.Bool.{cases_eq, and_parts, or_parts}
use Rattle.std.specs.List.{range_with_len, AllWithin, HoldsAt}
use Rattle.terms.proofs.Handovers.{any_at}
use Rattle.terms.specs.Meaning.{any_below, all_below}

pub all-each : (n : ℕ) (f : ℕ → Bool) → all_below n f ≡ true → (k : ℕ) → k < n → f k ≡ true
all-each zero f e k h = absurd (omega arith)
all-each (suc n) f e k h =
    let p = and_parts (all_below n f) (f n) e in
    ⊎_elim (λ (q : k ≡ n). ap f q ∙ p.1) (λ (q : k ≡ n → ⊥). all-each n f p.0 k (omega arith)) (cases_eq k n)

-- one that fails
pub all-not : (n : ℕ) (f : ℕ → Bool) (k : ℕ) → k < n → f k ≡ false → all_below n f ≡ false
all-not zero f k h e = absurd (omega arith)
all-not (suc n) f k h e =
    ⊎_elim (λ (q : k ≡ n). ap (λ b. all_below n f && b) (ap f (sym q) ∙ e) ∙ and-false (all_below n f)) (λ (q : k ≡ n → ⊥). ap (λ b. b && f n) (all-not n f k (omega arith) e)) (cases_eq k n)

pub all-pass : (n : ℕ) (f : ℕ → Bool) → ((k : ℕ) → k < n → f k ≡ true) → all_below n f ≡ true
all-pass zero f h = refl
all-pass (suc n) f h = λ i. all-pass n f (λ k l. h k (omega arith)) i && h n (omega arith) i

pub none_each : (n : ℕ) (f : ℕ → Bool) → any_below n f ≡ false → (k : ℕ) → k < n → f k ≡ false
none_each zero f e k h = absurd (omega arith)
none_each (suc n) f e k h =
    let p = or_parts (any_below n f) (f n) e in
    ⊎_elim (λ (q : k ≡ n). ap f q ∙ p.1) (λ (q : k ≡ n → ⊥). none_each n f p.0 k (omega arith)) (cases_eq k n)

pub none-pass : (n : ℕ) (f : ℕ → Bool) → ((k : ℕ) → k < n → f k ≡ false) → any_below n f ≡ false
none-pass zero f h = refl
none-pass (suc n) f h = λ i. none-pass n f (λ k l. h k (omega arith)) i || h n (omega arith) i

-- tests that agree below the bound
pub all_same : (n : ℕ) (f g : ℕ → Bool) → ((k : ℕ) → k < n → f k ≡ g k) → all_below n f ≡ all_below n g
all_same zero f g e = refl
all_same (suc n) f g e = λ i. all_same n f g (λ k h. e k (omega arith)) i && e n (omega arith) i

pub any_same : (n : ℕ) (f g : ℕ → Bool) → ((k : ℕ) → k < n → f k ≡ g k) → any_below n f ≡ any_below n g
any_same zero f g e = refl
any_same (suc n) f g e = λ i. any_same n f g (λ k h. e k (omega arith)) i || e n (omega arith) i

-- what `all` answers over the numbers below n
pub all-is : (f : ℕ → Bool) (n : ℕ) (r : Bool) → MatchBool r (AllWithin (λ m. f m ≡ true) (range_with_len 0 n) 0 (length (range_with_len 0 n))) ((i : ℕ) × (i < length (range_with_len 0 n)) × HoldsAt (λ m. f m ≡ false) (range_with_len 0 n) i) → r ≡ all_below n f
all-is f n true h =
    sym (all-pass n f (λ m l.
    let e : get_or (range_with_len 0 n) m 0 ≡ m = get_or-range_with_len 0 n m 0 l ∙ zero-add m in
    rw e at (h m 0 (omega arith) (omega (arith, length-range_with_len 0 n)))))
all-is f n false h =
    let l : h.0 < n = omega (arith, length-range_with_len 0 n) in
    let e : get_or (range_with_len 0 n) h.0 0 ≡ h.0 = get_or-range_with_len 0 n h.0 0 l ∙ zero-add h.0 in
    sym (all-not n f h.0 l (rw e at (h.2 0)))

-- what `any` answers over the numbers below n
pub any-is : (f : ℕ → Bool) (n : ℕ) (r : Bool) → MatchBool r ((i : ℕ) × (i < length (range_with_len 0 n)) × HoldsAt (λ m. f m ≡ true) (range_with_len 0 n) i) (AllWithin (λ m. f m ≡ false) (range_with_len 0 n) 0 (length (range_with_len 0 n))) → r ≡ any_below n f
any-is f n true h =
    let l : h.0 < n = omega (arith, length-range_with_len 0 n) in
    let e : get_or (range_with_len 0 n) h.0 0 ≡ h.0 = get_or-range_with_len 0 n h.0 0 l ∙ zero-add h.0 in
    sym (any_at n f h.0 l (rw e at (h.2 0)))
any-is f n false h =
    sym (none-pass n f (λ m l.
    let e : get_or (range_with_len 0 n) m 0 ≡ m = get_or-range_with_len 0 n m 0 l ∙ zero-add m in
    rw e at (h m 0 (omega arith) (omega (arith, length-range_with_len 0 n)))))
