-- When a code stands at a place, and what a binary search by code tells of it. Assumes nothing.
use Rattle.std.proofs.Common.{◌≡◌, ℕ, zero, suc, ◌<◌, List, [], ◌∷◌, map, length, get_or, Some, None, Ok, Err, Result, IfSome, sym, refl, ◌∙◌, ⊎_elim, arith}
use Rattle.std.specs.Result.{result_ok}
use Rattle.std.specs.Ordering.{nat_cmp, ordering_index}
use Rattle.std.specs.List.Sorted.{IsSearchInRange, IsBinarySearchResult, IsNonDecreasingBy}
use Rattle.std.proofs.lemmas.Bool.{eq-eqb, ne_eqb, cases_lt}
use Rattle.std.proofs.lemmas.Bool.Decides.{nat_tests}
use Rattle.std.proofs.lemmas.Cmp.{ranked}
use Rattle.std.proofs.lemmas.List.{get_or-map, length-map}
use Rattle.coded.specs.Places.{Rising, place}

place_none : (xs : List ℕ) (c : ℕ) → ((k : ℕ) → k < length xs → get_or xs k 0 ≡ c → ⊥) → place xs c ≡ None
unfolding place
place_none [] c h = refl
place_none (x ∷ xs) c h =
    rw (ne_eqb x c (h 0 (omega arith)), place_none xs c (λ k l. h (suc k) (omega arith)))

pub place-some : (xs : List ℕ) (c i : ℕ) → i < length xs → get_or xs i 0 ≡ c → ((k : ℕ) → k < i → get_or xs k 0 ≡ c → ⊥) → place xs c ≡ Some i
unfolding place
place-some [] c i l e h = absurd (omega arith)
place-some (x ∷ xs) c zero l e h = rw (eq-eqb x c e)
place-some (x ∷ xs) c (suc i) l e h =
    rw (ne_eqb x c (h 0 (omega arith)), place-some xs c i (omega arith) e (λ k l. h (suc k) (omega arith)))

-- an entry of a list that has one
entry_of : {E : Type 0} (es : List E) (k : ℕ) → k < length es → E
entry_of [] k l = absurd (omega arith)
entry_of (e ∷ es) k l = e

module _ {E : Type 0} (n : E → ℕ) (es : List E) (c : ℕ) where
  code-at : (k : ℕ) (d : E) → k < length es → n (get_or es k d) ≡ get_or (map n es) k 0
  code-at k d l = sym (get_or-map n es k d 0 l)

  -- where the codes rise, so do the answers of the comparison with c
  answers_rise : Rising (map n es) → IsNonDecreasingBy (λ e. ordering_index (nat_cmp (n e) c)) es
  answers_rise up i j d le l =
      let s = length-map es n in
      grind (arith, nat_tests, up i j, code-at i d, code-at j d)

  pub searched : (r : Result ℕ ℕ) → IsSearchInRange r (length es) → IsBinarySearchResult (λ e. nat_cmp (n e) c) es r → record { found : IfSome (result_ok r) (λ i. (i < length es) × (get_or (map n es) i 0 ≡ c)); rising : Rising (map n es) → result_ok r ≡ place (map n es) c }
  searched (Ok i) l equal =
      let s = length-map es n in
      let d = entry_of es i l in
      let here : get_or (map n es) i 0 ≡ c = get_or-map n es i d 0 l ∙ ranked _ c _ (sym (equal d)) in
      record {
        found = (l, here);
        rising = λ up. sym (place-some (map n es) c i (omega arith) here (λ k h e. omega (arith, up k i h)));
      }
  searched (Err i) l parted =
      let s = length-map es n in
      record {
        found = tt;
        rising = λ up. sym (place_none (map n es) c (λ k h e.
            let in_range : k < length es = omega arith in
            let d = entry_of es k in_range in
            let p = parted (answers_rise up) in
            let at = code-at k d in_range in
            ⊎_elim (λ b. omega (arith, ranked _ c _ (sym (p.0 k d (omega arith) b)))) (λ a. omega (arith, ranked _ c _ (sym (p.1 k d a in_range)))) (cases_lt k i)));
      }
