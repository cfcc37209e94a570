-- The first line of a text. Assumes nothing.
use Rattle.std.proofs.Common.{◌≡◌, ℕ, zero, suc, ◌+◌, ◌-◌, ◌<◌, false, cond, eqb, ltb, List, [], ◌∷◌, length, take, drop, sym, ap, ◌∙◌, ⊎_elim, add-suc, arith, length-drop, eq-eqb, ne_eqb}
use Rattle.std.proofs.lemmas.List.{drop-drop, drop_all, take_rest}
use Rattle.std.proofs.lemmas.Bool.{cases_lt}
use Rattle.std.proofs.lemmas.Bool.Decides.{nat_tests}
use Rattle.text.specs.Lines.{glue, lines, lines_from, First}

first_on : (b x : ℕ) (s : List ℕ) (i : ℕ) → First b (x ∷ s) (suc i) → First b s i
first_on b x s i h = record { within = omega (arith, h.within); before = λ k lt. h.before (suc k) (omega arith); found = λ lt. h.found (omega arith) }

not-here : (b x : ℕ) (s : List ℕ) (i : ℕ) → First b (x ∷ s) (suc i) → eqb x b ≡ false
not-here b x s i h = ne_eqb x b (h.before 0 (omega arith))

first-line : (s : List ℕ) (i : ℕ) → 0 < length s → First 10 s i → lines s ≡ take i s ∷ lines (drop (suc i) s)
unfolding lines
first-line [] i p h = absurd (omega arith)
first-line (b ∷ bs) zero p h = rw (eq-eqb b 10 (h.found (omega arith)))
first-line (b ∷ []) (suc zero) p h = rw (not-here 10 b [] zero h)
first-line (b ∷ []) (suc (suc i)) p h = absurd (omega (arith, h.within))
first-line (b ∷ c ∷ bs) (suc i) p h = rw (not-here 10 b (c ∷ bs) i h) (ap (glue b) (first-line (c ∷ bs) i (omega arith) (first_on 10 b (c ∷ bs) i h)))

-- behind the line feed at `end`, or at the end of a text that has none there
past : (s : List ℕ) (end next : ℕ) → next ≡ end + cond (ltb end (length s)) 1 0 → drop next s ≡ drop (suc end) s
past s end next e =
    ⊎_elim
    (λ lt. let n : next ≡ suc end = grind (arith, nat_tests) in rw n)
    (λ le. drop_all next s (omega arith) ∙ sym (drop_all (suc end) s (omega arith)))
    (cases_lt end (length s))

-- the step of a reader from `at` to `next`, where the rest of the text begins with a line of i bytes; the check reads
-- `&s[at..]` as the first `take`, and a part `[..i]` of it as the second
pub next-line : (s s' : List ℕ) (at i next : ℕ) → at < length s → First 10 (take (length s - at) (drop at s)) i → s' ≡ s → next ≡ at + i + cond (ltb (at + i) (length s)) 1 0 → lines_from at s ≡ take i (take (length s - at) (drop at s)) ∷ lines_from next s'
next-line s s' at i next p h e n =
    let f : First 10 (drop at s) i = rw take_rest at h in
    let d : drop next s ≡ drop (suc i) (drop at s) = rw (drop-drop, add-suc) (past s (at + i) next n) in
    rw (take_rest, e, d) (first-line (drop at s) i (omega (arith, length-drop at s)) f)
