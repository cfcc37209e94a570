-- A number with a minus in front of its digits, and one without. Assumes nothing.
use Rattle.std.proofs.Common.{◌≡◌, ℕ, cond, ◌&&◌, Bool, true, false, eqb, List, [], ◌∷◌, take, drop, pos, neg_ℤ, Option, sym, refl, ◌∙◌, ap}
use Rattle.std.proofs.lemmas.Bool.{and_parts}
use Rattle.std.specs.Cmp.Lexicographic.{pointwise}
use Rattle.std.specs.Option.{option_map}
use Rattle.text.specs.Numbers.{digits_value, signed_value}

-- the two equations of its definition, as one test
by_first : (b : ℕ) (bs : List ℕ) (t : Bool) → eqb b 45 ≡ t → signed_value (b ∷ bs) ≡ cond t (option_map (λ n. neg_ℤ (pos n)) (digits_value bs)) (option_map pos (digits_value (b ∷ bs)))
unfolding signed_value
by_first b bs t h = rw h

pub with_minus : (s : List ℕ) → pointwise eqb (take 1 s) (45 ∷ []) ≡ true → (o : Option ℕ) → o ≡ digits_value (drop 1 s) → signed_value s ≡ option_map (λ n. neg_ℤ (pos n)) o
with_minus [] h o e = absurd cc
with_minus (b ∷ bs) h o e = by_first b bs true (and_parts (eqb b 45) true h).0 ∙ ap (option_map (λ n. neg_ℤ (pos n))) (sym e)

pub without_minus : (s : List ℕ) → pointwise eqb (take 1 s) (45 ∷ []) ≡ false → (o : Option ℕ) → o ≡ digits_value s → signed_value s ≡ option_map pos o
unfolding signed_value digits_value
without_minus [] h o e = rw e refl
without_minus (b ∷ bs) h o e = by_first b bs false (left_false (eqb b 45) h) ∙ ap (option_map pos) (sym e)
  where
    left_false : (t : Bool) → (t && true) ≡ false → t ≡ false
    left_false true h = h
    left_false false h = h
