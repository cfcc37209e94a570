-- The fields of a line, one after the other. Assumes nothing.
use Rattle.std.proofs.Common.{◌≡◌, ℕ, ◌+◌, ◌-◌, ◌<◌, ◌≤◌, Bool, eqb, List, [], ◌∷◌, length, take, drop, Some, None, ltb, refl, sym, ◌∙◌, arith}
use Rattle.std.proofs.lemmas.Bool.{cond_both, ltb-true}
use Rattle.std.proofs.lemmas.Bool.Decides.{nat_tests}
use Rattle.std.proofs.lemmas.Option.{cond_some}
use Rattle.std.proofs.lemmas.List.{take_rest}
use Rattle.std.proofs.lemmas.List.Splits.{slice_split_first, slice_split_none}
use Rattle.std.proofs.lemmas.List.Sums.{fails_before_first}
use Rattle.std.specs.List.{slice_split, onto_first, position, position_or_len}
use Rattle.text.specs.Lines.{glue}
use Rattle.rows.specs.Fields.{fields}

abbrev pub is_comma : ℕ → Bool
is_comma b = eqb b 44

same_glue : (b : ℕ) (parts : List (List ℕ)) → glue b parts ≡ onto_first b parts
same_glue b [] = refl
same_glue b (part ∷ parts) = refl

as_split : (s : List ℕ) → fields s ≡ slice_split is_comma s
unfolding fields
as_split [] = refl
as_split (b ∷ bs) = rw (as_split bs, same_glue b (slice_split is_comma bs))

pub no_comma : (s : List ℕ) → None ≡ position is_comma s → fields s ≡ s ∷ []
no_comma s h =
    let none : length s ≤ position_or_len is_comma s = grind (arith, nat_tests) in
    as_split s ∙ slice_split_none is_comma s (λ k d lt. fails_before_first is_comma s k d (omega arith))

-- the check reads `&s[i + 1..]` as that `take`
pub first_comma : (s : List ℕ) (i : ℕ) → Some i ≡ position is_comma s → fields s ≡ take i s ∷ fields (take (length s - (i + 1)) (drop (i + 1) s))
first_comma s i h =
    let found = cond_some (ltb (position_or_len is_comma s) (length s)) (position_or_len is_comma s) i (sym h) in
    let within : position_or_len is_comma s < length s = ltb-true _ _ found.0 in
    rw (take_rest, ← found.1, as_split (drop (position_or_len is_comma s + 1) s)) (as_split s ∙ slice_split_first is_comma s 0 within)

some_glued : (b : ℕ) (parts : List (List ℕ)) → 0 < length (glue b parts)
some_glued b [] = omega arith
some_glued b (part ∷ parts) = omega arith

-- every line has a field
pub some_field : (s : List ℕ) → 0 < length (fields s)
unfolding fields
some_field [] = omega arith
some_field (b ∷ bs) = cond_both (is_comma b) ([] ∷ fields bs) (glue b (fields bs)) (λ parts. 0 < length parts) (λ _. omega arith) (λ _. some_glued b (fields bs))
