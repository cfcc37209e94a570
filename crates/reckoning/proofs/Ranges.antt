-- A range of numbers that is one number longer. Assumes nothing.
use Rattle.std.proofs.Common.{◌≡◌, ℕ, zero, suc, ◌+◌, List, [], ◌∷◌, ◌++◌, ap, ◌∙◌, sym, arith, add-one}
use Rattle.std.proofs.lemmas.List.{flat_map_more}
use Rattle.std.specs.List.{flat_map, range_with_len}

range_more : (a n k : ℕ) → a + n ≡ k → range_with_len a (suc n) ≡ range_with_len a n ++ k ∷ []
range_more a zero k e = grind arith
range_more a (suc n) k e = ap (λ (xs : List ℕ). a ∷ xs) (range_more (a + 1) n k (omega arith))

-- what is told of one more number stands behind what is told of those before it
pub flat_map-range_more : {A : Type 0} (f : ℕ → List A) (bs : List A) (n : ℕ) → (bs ++ flat_map f (range_with_len 0 n)) ++ f n ≡ bs ++ flat_map f (range_with_len 0 (n + 1))
flat_map-range_more f bs n =
    rw add-one (flat_map_more f bs (range_with_len 0 n) n ∙ ap (λ (xs : List ℕ). bs ++ flat_map f xs) (sym (range_more 0 n n (omega arith))))
