-- A test that is computed at every number below a bound, and what it then says of each. Assumes nothing.
use Rattle.std.proofs.Common.{◌≡◌, ℕ, zero, suc, ◌<◌, Bool, true, ◌&&◌, eqb, List, length, get_or, refl}
use Rattle.std.proofs.lemmas.Bool.{eqb-true}
use Rattle.std.proofs.lemmas.Bool.Decides.{Decides-below_and}

abbrev pub every : (ℕ → Bool) → ℕ → Bool
every p zero = true
every p (suc n) = p n && every p n

pub at : (p : ℕ → Bool) (n : ℕ) → every p n ≡ true → (k : ℕ) → k < n → p k ≡ true
at p n e k h = (Decides-below_and p (λ k. p k ≡ true) (every p) (λ k. (λ e. e, λ e. e)) refl (λ _. refl) n).0 e k h

-- a table that holds a function's values
pub table : (xs : List ℕ) (f : ℕ → ℕ) → every (λ k. eqb (get_or xs k 0) (f k)) (length xs) ≡ true → (k : ℕ) → k < length xs → get_or xs k 0 ≡ f k
table xs f e k h = eqb-true _ _ (at (λ k. eqb (get_or xs k 0) (f k)) (length xs) e k h)
