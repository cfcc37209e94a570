-- Tests over all numbers below a bound, answers that may be none, and the questions. Assumes nothing.
use Rattle.std.proofs.Common.{◌≡◌, ℕ, zero, suc, ◌<◌, Bool, true, false, cond, not, eqb, is_some, Some, None, Option, refl, ap, ⊎_elim, arith}
use Rattle.std.proofs.lemmas.Bool.{eq-eqb, ne_eqb, or_cases, false≢true}
use Rattle.terms.specs.Meaning.{any_below}
use Rattle.ledger.specs.Words.{ask}
pub use Rattle.terms.proofs.Ranges.{all-each, all-not, all_same, none_each}
pub use Rattle.terms.proofs.Sources.{some-none, names-true, names-yes}
use Rattle.ledger.specs.declared.fault.Fault.{Fault}

-- where some pass, what follows from each that passes
pub some_one : (n : ℕ) (f : ℕ → Bool) (P : Type 0) → any_below n f ≡ true → ((k : ℕ) → k < n → f k ≡ true → P) → P
some_one zero f P e h = absurd (false≢true e)
some_one (suc n) f P e h =
    ⊎_elim (λ (q : any_below n f ≡ true). some_one n f P q (λ k l y. h k (omega arith) y)) (λ (q : f n ≡ true). h n (omega arith) q) (or_cases (any_below n f) (f n) e)

pub given-some : {A : Type 0} (o : Option A) → is_some o ≡ true → o ≡ None → ⊥
given-some None e q = false≢true e
given-some (Some x) e q = some-none (Some x) x refl q

pub not-given : {A : Type 0} (o : Option A) → not (is_some o) ≡ true → o ≡ None
not-given None e = refl
not-given (Some x) e = absurd (false≢true e)

-- what stands at a place of a table with another value at one place
pub put-here : {A : Type 0} (i j : ℕ) (x y : A) → i ≡ j → cond (eqb i j) x y ≡ x
put-here i j x y e = ap (λ b. cond b x y) (eq-eqb i j e)

pub put-there : {A : Type 0} (i j : ℕ) (x y : A) → (i ≡ j → ⊥) → cond (eqb i j) x y ≡ y
put-there i j x y e = ap (λ b. cond b x y) (ne_eqb i j e)

-- where nothing is answered no, each question is answered yes
pub ask-none : (b : Bool) (f : Fault) (o : Option Fault) → ask b f o ≡ None → (b ≡ true) × (o ≡ None)
ask-none true f o e = (refl, e)
ask-none false f o e = absurd (some-none (Some f) f refl e)
