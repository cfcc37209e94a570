-- The quantity of a class, of its parts and of its successor. Assumes nothing.
use Rattle.std.proofs.Common.{◌≡◌, ℕ, zero, suc, ◌+◌, ◌*◌, ◌<◌, ◌≤◌, Bool, true, false, cond, ◌&&◌, eqb, ltb, leb, Some, None, unwrap_or, sym, refl, ap, ◌∙◌, mul-zero, mul-one, add-zero, arith}
use Rattle.std.specs.List.{sum_by, range_with_len}
use Rattle.std.proofs.lemmas.List.Sums.{sum_by-cons}
use Rattle.std.proofs.lemmas.Bool.{lt-ltb}
use Rattle.std.proofs.lemmas.Bool.Decides.{nat_tests}
use Rattle.dates.specs.Dates.{when}
use Rattle.terms.specs.Meaning.{Meaning, sum_below, one, in_months, has, is_part, class_quantity}
use Rattle.terms.specs.Laws.{Laws}
use Rattle.terms.specs.Quantities.{PartsAndSuccessors}
use Rattle.terms.specs.declared.class_terms.ClassTerms.{ClassTerms}
use Rattle.terms.proofs.Sums.{sum-first, sum-ext, sum-add, sum-scale, sum-none, sum-swap, sum-if, sum-at}

-- one month more in a run
one_more : (a n m x : ℕ) → cond (leb a m && ltb m (a + suc n)) x 0 ≡ cond (leb a m && ltb m (a + n)) x 0 + cond (eqb m (a + n)) x 0
one_more a n m x = grind (arith, nat_tests)

none-there : (a m x : ℕ) → cond (leb a m && ltb m (a + 0)) x 0 ≡ 0
none-there a m x = grind (arith, nat_tests)

-- the sum over the months of a run, taken month by month
pub run-sum : (q : ℕ → ℕ) (a n : ℕ) → a + n ≤ 1200 → sum_below 1200 (λ m. cond (leb a m && ltb m (a + n)) (q m) 0) ≡ sum_below n (λ i. q (a + i))
run-sum q a n h = go 1200 n h
  where
    go : (top n : ℕ) → a + n ≤ top → sum_below top (λ m. cond (leb a m && ltb m (a + n)) (q m) 0) ≡ sum_below n (λ i. q (a + i))
    go top zero h = sum-ext top _ (λ k. 0) (λ m l. none-there a m (q m)) ∙ sum-none top
    go top (suc n) h =
        sum-ext top _ (λ m. cond (leb a m && ltb m (a + n)) (q m) 0 + cond (eqb m (a + n)) (q m) 0) (λ m l. one_more a n m (q m))
        ∙ sum-add top (λ m. cond (leb a m && ltb m (a + n)) (q m) 0) (λ m. cond (eqb m (a + n)) (q m) 0)
        ∙ (let s = sum-at top (a + n) q in let e = lt-ltb (a + n) top (omega arith) in let t = go top n (omega arith) in let u = rw e at s in omega arith)

pub class-sum : (w : Meaning) (t : ClassTerms) → t.months.first + t.months.count ≤ 1200 → class_quantity w (Some t) ≡ sum_below t.months.count (λ i. w.quantity (t.months.first + i))
unfolding class_quantity
class-sum w t h = run-sum w.quantity t.months.first t.months.count h

counted : (b h : Bool) (x : ℕ) → cond b (cond h x 0) 0 ≡ x * one (b && h)
counted true true x = sym (mul-one x)
counted true false x = sym (mul-zero x)
counted false h x = sym (mul-zero x)

pub parts-and-successors : (w : Meaning) → Laws w → PartsAndSuccessors w
unfolding class_quantity
parts-and-successors w law = record {
  parts = λ d c h.
      sum-ext w.classes _ (λ p. sum_below 1200 (λ m. cond (is_part (w.on d c) p) (cond (has (w.on d p) m) (w.quantity m) 0) 0)) (λ p l. sum-if 1200 (is_part (w.on d c) p) (λ m. cond (has (w.on d p) m) (w.quantity m) 0))
      ∙ sum-swap w.classes 1200 (λ p m. cond (is_part (w.on d c) p) (cond (has (w.on d p) m) (w.quantity m) 0) 0)
      ∙ sum-ext 1200 _ (λ m. cond (has (w.on d c) m) (w.quantity m) 0) (λ m l.
      sum-ext w.classes _ (λ p. w.quantity m * one (is_part (w.on d c) p && has (w.on d p) m)) (λ p k. counted (is_part (w.on d c) p) (has (w.on d p) m) (w.quantity m))
      ∙ sum-scale w.classes (w.quantity m) (λ p. one (is_part (w.on d c) p && has (w.on d p) m))
      ∙ ap (λ n. w.quantity m * n) (law.cover d c m h)
      ∙ sym (counted true (has (w.on d c) m) (w.quantity m)));
  successors = λ d c s e h n l. ap (λ t. sum_below 1200 (λ m. cond (in_months t m) (w.quantity m) 0)) (law.same d c s e h n l);
}

-- where terms do not answer
pub no-quantity : (w : Meaning) → class_quantity w None ≡ 0
unfolding class_quantity
no-quantity w = sum-none 1200

-- a month's quantity, as terms answer it
abbrev pub told : (ℕ → ℕ) → ℕ → ℕ
told q m = unwrap_or (when (ltb m 1200) (q m)) 0

told-is : (q : ℕ → ℕ) (m : ℕ) → m < 1200 → told q m ≡ q m
told-is q m h = rw (lt-ltb m 1200 h)

-- the sum over a run, as a chain over its months takes it
pub told-sum : (q : ℕ → ℕ) (n a : ℕ) → a + n ≤ 1200 → sum_by (told q) (range_with_len a n) ≡ sum_below n (λ i. q (a + i))
told-sum q zero a h = refl
told-sum q (suc n) a h =
    omega (arith, sum_by-cons (told q) a (range_with_len (a + 1) n), told-is q a (omega arith), told-sum q n (a + 1) (omega arith), sum-first n (λ i. q (a + i)), sum-ext n (λ i. q (a + 1 + i)) (λ i. q (a + suc i)) (λ k l. ap q (omega arith)), ap q (add-zero a))

pub run-most : (q : ℕ → ℕ) (n a : ℕ) → a + n ≤ 1200 → ((m : ℕ) → m < 1200 → q m ≤ 745) → sum_below n (λ i. q (a + i)) ≤ 745 * n
run-most q zero a h most = omega arith
run-most q (suc n) a h most = omega (arith, run-most q n a (omega arith) most, most (a + n) (omega arith))
