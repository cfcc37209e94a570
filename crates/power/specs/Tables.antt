-- What the tables of the classes say. Assumes nothing.
use Rattle.std.specs.Prelude.{◌≡◌, ℕ, ◌+◌, ◌*◌, ◌/◌, ◌<◌, ◌≤◌, Bool, true, false, cond, not, ◌&&◌, ◌||◌, leb, ◌⊎◌, List, is_some, None, Option, ◌==◌, ◌≢◌, nat_le, nat_lt, slice_index_or, refl}
use Rattle.std.proofs.Common.{sym, subst, inl, inr, ⊎_elim}
use Rattle.std.proofs.lemmas.Bool.{eqb-true, leb-true, or_cases, cases_Bool, false≢true, cond-true, cond-false}
use Rattle.dates.proofs.Below.{at}
use Rattle.power.specs.Classes.{length_of, place_of, earlier, no_parts, quarter_parts, year_parts, cascade, chain}
use Rattle.terms.proofs.Chains.{fits}

pub chain_fits : fits chain ≡ true
chain_fits = refl

-- what holds of months, quarters and years holds of each class's length
pub by_length : (P : ℕ → Type 0) → P 1 → P 3 → P 12 → (c : ℕ) → c < 11 → P (length_of c)
by_length P month quarter year c h =
    ⊎_elim (λ e. subst P (sym (eqb-true _ _ e)) month) (λ t. ⊎_elim (λ e. subst P (sym (eqb-true _ _ e)) quarter) (λ e. subst P (sym (eqb-true _ _ e)) year) (or_cases _ _ t))
    (or_cases _ _ (at (λ c. (length_of c == 1) || (length_of c == 3 || length_of c == 12)) 11 refl c h))

-- the last month of a class lies in the range: its own period is at most one beyond that of December 2096
pub room : (c : ℕ) → c < 11 → length_of c * (1163 / length_of c + 1 + place_of c) ≤ 1200
room c h = leb-true _ _ (at (λ c. leb (length_of c * (1163 / length_of c + 1 + place_of c)) 1200) 11 refl c h)

-- all but the settling class stand behind it
pub behind : (c : ℕ) → c < 11 → (c ≢ 10) → cond (length_of c == 1) 1 2 ≤ place_of c
behind c h ne =
    ⊎_elim (λ e. absurd (ne (eqb-true c 10 e))) (λ e. leb-true _ _ e) (or_cases _ _ (at (λ c. (c == 10) || nat_le (cond (length_of c == 1) 1 2) (place_of c)) 11 refl c h))

-- a class that hands over to none is Q01, Y01 or D02
pub last-in-chain : (c : ℕ) → c < 11 → earlier c ≡ None → (c ≢ 10) → (c ≡ 3) ⊎ (c ≡ 7)
last-in-chain c h e ne =
    ⊎_elim (λ s. absurd (false≢true (subst (λ (o : Option ℕ). is_some o ≡ true) e s)))
    (λ t. ⊎_elim (λ x. inl (eqb-true c 3 x)) (λ u. ⊎_elim (λ x. inr (eqb-true c 7 x)) (λ x. absurd (ne (eqb-true c 10 x))) (or_cases _ _ u)) (or_cases _ _ t))
    (or_cases _ _ (at (λ c. is_some (earlier c) || (c == 3 || (c == 7 || c == 10))) 11 refl c h))

-- the set of parts is one of three
pub by_parts : (P : List Bool → Type 0) (turning : Bool) (c : ℕ) → P no_parts → (turning ≡ true → c ≡ 3 → P quarter_parts) → (turning ≡ true → c ≡ 7 → P year_parts) → P (cond turning (cascade c) no_parts)
by_parts P false c none quarter year = none
by_parts P true c none quarter year =
    ⊎_elim (λ e. subst P (sym (cond-true _ quarter_parts _ e)) (quarter refl (eqb-true c 3 e)))
    (λ n. subst P (sym (cond-false _ quarter_parts _ n)) (⊎_elim (λ e. subst P (sym (cond-true _ year_parts no_parts e)) (year refl (eqb-true c 7 e))) (λ e. subst P (sym (cond-false _ year_parts no_parts e)) none) (cases_Bool (c == 7))))
    (cases_Bool (c == 3))

-- a part is tradable, and cascades into nothing itself
abbrev pub fine : ℕ → Bool
fine p = (nat_lt p 8 && not (p == 3)) && not (p == 7)

pub year-part-fine : (p : ℕ) → p < 11 → slice_index_or year_parts p false ≡ true → fine p ≡ true
year-part-fine p h e = subst (λ (b : Bool). cond b (fine p) true ≡ true) e (at (λ p. cond (slice_index_or year_parts p false) (fine p) true) 11 refl p h)

pub quarter-part-fine : (p : ℕ) → p < 11 → slice_index_or quarter_parts p false ≡ true → fine p ≡ true
quarter-part-fine p h e = subst (λ (b : Bool). cond b (fine p) true ≡ true) e (at (λ p. cond (slice_index_or quarter_parts p false) (fine p) true) 11 refl p h)
