-- The product of a step, and the least of the ten results. Assumes nothing.
use Rattle.std.proofs.Common.{rules, ◌≡◌, ℕ, ◌*◌, ◌^◌, ◌≤◌, true, [], ◌∷◌, map, drop, ℤ, pos, negsuc, ◌*ℤ◌, neg_ℤ, nat_abs, ◌≤ℤ◌, All, sym, refl, ap, ◌∙◌, ⊎_elim, arith, lit<, leb}
use Rattle.std.proofs.lemmas.List.Elements.{All-cons, All-get_or, All-contains, All-map, All-weaker, Contains-append_right}
use Rattle.std.proofs.lemmas.Int.{ints, clamps, by_lt_z, fold-int_min_bounds, fold-int_min_reached}
use Rattle.std.proofs.lemmas.List.Sums.{AllPass-from_list_all}
use Rattle.std.proofs.lemmas.Bool.{leb-true}
use Rattle.std.specs.Int.{int_min}
use Rattle.std.specs.Ordering.{int_cmp, min_by_ordering}
use Rattle.amounts.specs.Amounts.{step_product, step_result, floor_by, ten_results, class_margin, LeastOfTen}
use Rattle.amounts.specs.Steps.{steps}
use Rattle.amounts.proofs.Ring.{*ℤ-assoc, neg-*ℤ, *ℤ-neg, product_le}

-- the iterator's `min` picks by the comparison
pub picks-least : (x y : ℤ) → min_by_ordering (int_cmp x y) x y ≡ int_min x y
picks-least x y = search (rules, ints, clamps)

-- steps down and up by as much have products that differ in sign alone, so one of the two results is not positive
opposite : (P : ℤ) (i q : ℕ) (h s : ℤ) → step_product P i q h (neg_ℤ s) ≡ neg_ℤ (step_product P i q h s)
opposite P i q h s =
    ap (λ x. x *ℤ pos q *ℤ h) (*ℤ-neg (P *ℤ pos i) s) ∙ ap (λ x. x *ℤ h) (neg-*ℤ (P *ℤ pos i *ℤ s) (pos q)) ∙ neg-*ℤ (P *ℤ pos i *ℤ s *ℤ pos q) h

floor-not-positive : (z : ℤ) → z ≤ℤ pos 0 → floor_by 50000 z ≤ℤ pos 0
floor-not-positive (pos a) l = omega (arith, ints)
floor-not-positive (negsuc a) l = omega (arith, ints)

never_positive : (P : ℤ) (i q : ℕ) (h r : ℤ) → All (λ x. r ≤ℤ x) (ten_results P i q h) → r ≤ℤ pos 0
never_positive P i q h r below =
    let z = step_product P i q h (pos 1) in
    let down : r ≤ℤ floor_by 50000 (step_product P i q h (negsuc 0)) = All-get_or (λ x. r ≤ℤ x) (ten_results P i q h) 4 (pos 0) (lit< tt) below in
    let up : r ≤ℤ floor_by 50000 z = All-get_or (λ x. r ≤ℤ x) (ten_results P i q h) 5 (pos 0) (lit< tt) below in
    by_lt_z (pos 0) z
    (λ l. omega (arith, ints, down, floor-not-positive (step_product P i q h (negsuc 0)) (omega (arith, ints, opposite P i q h (pos 1)))))
    (λ l. omega (arith, ints, up, floor-not-positive z l))

pub least-of-ten : (P : ℤ) (i q : ℕ) (h r : ℤ) → r ≡ class_margin P i q h → LeastOfTen P i q h r
unfolding class_margin
least-of-ten P i q h r e =
    let first = step_result P i q h (negsuc 4) in
    let later = map (step_result P i q h) (drop 1 steps) in
    let bounds = fold-int_min_bounds first later r e in
    let below = All-cons (λ x. r ≤ℤ x) first later bounds.0 bounds.1 in
    record {
      at_most = below;
      one_of = ⊎_elim (λ (f : r ≡ first). (0, lit< tt, sym f)) (Contains-append_right (first ∷ []) later r) (fold-int_min_reached first later r e);
      never_positive = never_positive P i q h r below;
    }

-- by the quantity of all lots, as the code forms it
pub by-whole : (P s h w : ℤ) (i q : ℕ) → w ≡ pos q *ℤ h → P *ℤ pos i *ℤ s *ℤ w ≡ step_product P i q h s
by-whole P s h w i q e = ap (λ x. P *ℤ pos i *ℤ s *ℤ x) e ∙ sym (*ℤ-assoc (P *ℤ pos i *ℤ s) (pos q) h)

-- the size of a margin, at every value that the types of its arguments have
floor-size : (z : ℤ) → nat_abs z ≤ 5 * 2 ^ 110 → nat_abs (floor_by 50000 z) ≤ 2 ^ 98
floor-size (pos a) l = omega arith
floor-size (negsuc a) l = omega arith

small-steps : All (λ s. nat_abs s ≤ 5) steps
small-steps =
    All-weaker
    (λ s. leb (nat_abs s) 5 ≡ true)
    (λ s. nat_abs s ≤ 5)
    (λ s e. leb-true (nat_abs s) 5 e)
    steps
    (AllPass-from_list_all (λ s. leb (nat_abs s) 5) steps refl)

pub margin-size : (P : ℤ) (i q : ℕ) (h r : ℤ) → nat_abs P ≤ 2 ^ 31 → i ≤ 2 ^ 16 → nat_abs (pos q *ℤ h) ≤ 2 ^ 63 → LeastOfTen P i q h r → nat_abs r ≤ 2 ^ 98
margin-size P i q h r hp hi hw least =
    All-contains
    Small
    (ten_results P i q h)
    r
    (All-map Small (step_result P i q h) steps (All-weaker (λ s. nat_abs s ≤ 5) (λ s. Small (step_result P i q h s)) each steps small-steps))
    least.one_of
  where
    Small : ℤ → Type 0
    Small x = nat_abs x ≤ 2 ^ 98

    each : (s : ℤ) → nat_abs s ≤ 5 → nat_abs (step_result P i q h s) ≤ 2 ^ 98
    each s l =
        let a = product_le P (pos i) (2 ^ 31) (2 ^ 16) hp hi in
        let b = product_le (P *ℤ pos i) s (2 ^ 47) 5 a l in
        floor-size (step_product P i q h s) (rw (*ℤ-assoc (P *ℤ pos i *ℤ s) (pos q) h) (product_le (P *ℤ pos i *ℤ s) (pos q *ℤ h) (5 * 2 ^ 47) (2 ^ 63) b hw))
