-- Sums over classes, and tables made class by class. Assumes nothing.
use Rattle.std.proofs.Common.{◌≡◌, ℕ, ◌+◌, ◌*◌, ◌^◌, ◌<◌, ◌≤◌, List, [], ◌∷◌, length, get_or, ℤ, ◌+ℤ◌, nat_abs, sym, refl, subst, ⊎_elim, ◌∙◌, mul-le-mul_left, mul-add, add-one, arith, SFits, to_z, of_z}
use mir.Syntax.{Width}
use mir.Val.{hbits}
use Rattle.amounts.proofs.Exact.{small-fits}
use Rattle.amounts.specs.SumsOfWhole.{sum_z}
use Rattle.std.proofs.lemmas.Bool.{cases_lt}
use Rattle.std.proofs.lemmas.Int.{ints, to_z-of_z}
use Rattle.std.proofs.lemmas.List.{get_or_past}
use Rattle.std.specs.Array.{IsFromFnResult, index_steps}
use Rattle.std.specs.Fn.{Mut, Called}
use Rattle.std.specs.List.{FoldsTo}
use Rattle.std.specs.Iterator.{CallableAtEachTurn}
use Rattle.terms.proofs.Made.{each-made}

-- ---- a sum of at most `top` numbers, each of size at most m; y is what the code has for the next number x

abbrev pub Summed : (ℕ → ℤ) → ℕ → ℕ → ℤ → Type 0
Summed f m n s = (s ≡ sum_z n f) × (nat_abs s ≤ m * n)

module _ (w : Width) (f : ℕ → ℤ) (m n top : ℕ) (small : m * top < 2 ^ hbits w) (last : n < top) (s x y : ℤ) (so_far : Summed f m n s) (same : y ≡ x) (here : x ≡ f n) (size : nat_abs x ≤ m) where
  bound : nat_abs (s +ℤ x) ≤ m * (n + 1)
  bound = rw mul-add (omega (arith, ints, so_far.1))

  fits : SFits w (s +ℤ x)
  fits = let room : m * (n + 1) ≤ m * top = mul-le-mul_left m (omega arith) in small-fits w (s +ℤ x) (omega (arith, bound))

  pub sum_fits : SFits w (s +ℤ y)
  sum_fits = rw same fits

  pub sum-turn : Summed f m (n + 1) (to_z w (of_z w (s +ℤ y)))
  sum-turn =
      let e : to_z w (of_z w (s +ℤ y)) ≡ s +ℤ x = rw same (to_z-of_z w (s +ℤ x) fits) in
      (e ∙ rw (so_far.0, here, add-one), rw e bound)

-- the whole sum, of n numbers
pub record Total (f : ℕ → ℤ) (m n top : ℕ) (s : ℤ) : Type 0 where
  pub is : s ≡ sum_z n f
  pub bound : nat_abs s ≤ m * top

pub sum-end : (f : ℕ → ℤ) (m i n top : ℕ) (s : ℤ) → i ≡ n → n ≤ top → Summed f m i s → Total f m n top s
sum-end f m i n top s e h so_far =
    let room : m * n ≤ m * top = mul-le-mul_left m h in
    let all : Summed f m n s = subst (λ k. Summed f m k s) e so_far in
    record { is = all.0; bound = omega (arith, all.1) }

-- ---- tables

-- what holds at each place of a table, and of what stands past its end
pub each-place : {A : Type 0} (P : ℕ → A → Type 0) (xs : List A) (n : ℕ) (d : A) → length xs ≡ n → ((k : ℕ) → n ≤ k → P k d) → ((k : ℕ) → k < n → P k (get_or xs k d)) → (k : ℕ) → P k (get_or xs k d)
each-place P xs n d long past here k =
    ⊎_elim
    (λ (l : k < n). here k l)
    (λ (l : n ≤ k). subst (P k) (sym (get_or_past xs k d (omega arith))) (past k l))
    (cases_lt k n)

-- the same of a table made by calls at each place, each of which has a property and changes nothing
pub made-each : {F B : Type 0} (g : Mut F (ℕ × Unit {0}) B) (f : F) (P : ℕ → B → Type 0) → ((i : ℕ) (y : B) (q : F) → Called g f (i, tt) y q → P i y × (q ≡ f)) → (ys : List B) (n : ℕ) (d : B) → IsFromFnResult g f ys n → ((k : ℕ) → n ≤ k → P k d) → (k : ℕ) → P k (get_or ys k d)
made-each g f P call ys n d r past = each-place P ys n d r.long past (λ k h. each-made g f P call ys n r k d h)

-- what is asked at each place of a table, where a call changes nothing
still : {P : Type 0} (R : P → ℕ → P → Type 0) (p : P) → ((x : ℕ) (q : P) → R p x q → q ≡ p) → (xs : List ℕ) (k q : P) → k ≡ p → FoldsTo R k xs q → q ≡ p
still R p stays [] k q e r = sym r ∙ e
still R p stays (x ∷ xs) k q e r = still R p stays xs r.0 q (stays x r.0 (subst (λ k. R k x r.0) e r.1)) r.2

pub serves-index : {P : Type 0} {R : P → ℕ → P → Type 0} {Q : P → ℕ → Type 0} {n : ℕ} {p : P} → ((x : ℕ) (q : P) → R p x q → q ≡ p) → ((x : ℕ) → x < n → Q p x) → CallableAtEachTurn (index_steps n) R Q 0 p
serves-index {P} {R} {Q} {n} {p} stays h = record { at = λ xs t q x u y r e. subst (λ k. Q k x) (sym (still R p stays xs p q refl r)) (h x (omega (arith, e))) }
