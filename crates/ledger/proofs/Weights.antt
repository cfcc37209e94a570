-- What lots weigh, before and after they went to parts and to successors. Assumes nothing.
use Rattle.std.proofs.Common.{◌≡◌, ℕ, zero, suc, ◌<◌, Bool, true, false, cond, eqb, ℤ, pos, ◌+ℤ◌, ◌-ℤ◌, ◌*ℤ◌, Some, None, Option, sym, refl, ap, ◌∙◌, ⊎_elim, arith}
use lib.IntN.{zero-*ℤ}
use Rattle.amounts.proofs.Ring.{*ℤ-right-distrib}
use Rattle.amounts.proofs.Sums.{sum_same, sum-add, sum-sub, sum-nil, sum-swap, sum_one, if-zero, if-add, hit, miss}
use Rattle.amounts.specs.SumsOfWhole.{sum_z, if_z}
use Rattle.std.proofs.lemmas.Int.{ints}
use Rattle.std.proofs.lemmas.Bool.{cases_Bool, cond-true, cond-false}
use Rattle.terms.specs.Laws.{names}
use Rattle.terms.specs.Day.{source_below}
use Rattle.ledger.specs.Words.{from}
use Rattle.ledger.proofs.Tests.{names-true, names-yes}
pub use Rattle.terms.proofs.Sources.{source_is, source-here, source-none}

-- a weight for each class, additive in the lots
pub record Additive (G : ℕ → ℤ → ℤ) : Type 0 where
  pub adds : (c : ℕ) (x y : ℤ) → G c (x +ℤ y) ≡ G c x +ℤ G c y
  pub nil : (c : ℕ) → G c (pos 0) ≡ pos 0

-- lots where a test passes, and lots at a price
pub where-so : (b : ℕ → Bool) → Additive (λ c x. if_z (b c) x)
where-so b = record { adds = λ c x y. if-add (b c) x y; nil = λ c. if-zero (b c) }

pub priced-at : (p : ℕ → ℤ) → Additive (λ c x. x *ℤ p c)
priced-at p = record { adds = λ c x y. *ℤ-right-distrib x y (p c); nil = λ c. zero-*ℤ (p c) }

module _ (G : ℕ → ℤ → ℤ) (ad : Additive G) where
  sum_through : (c n : ℕ) (f : ℕ → ℤ) → G c (sum_z n f) ≡ sum_z n (λ k. G c (f k))
  sum_through c zero f = ad.nil c
  sum_through c (suc n) f = ad.adds c (sum_z n f) (f n) ∙ ap (λ v. v +ℤ G c (f n)) (sum_through c n f)

  if-through : (c : ℕ) (b : Bool) (x : ℤ) → G c (if_z b x) ≡ if_z b (G c x)
  if-through c true x = refl
  if-through c false x = ad.nil c

  -- one class takes x more
  pub one_more : (n c : ℕ) (l : ℕ → ℤ) (x : ℤ) → c < n → sum_z n (λ i. G i (l i +ℤ if_z (eqb i c) x)) ≡ sum_z n (λ i. G i (l i)) +ℤ G c x
  one_more n c l x h =
      sum_same n (λ i. G i (l i +ℤ if_z (eqb i c) x)) (λ i. G i (l i) +ℤ G i (if_z (eqb i c) x)) (λ i k. ad.adds i (l i) (if_z (eqb i c) x))
      ∙ sum-add n (λ i. G i (l i)) (λ i. G i (if_z (eqb i c) x))
      ∙ ap (λ v. sum_z n (λ i. G i (l i)) +ℤ v) (sum_one n c (λ i. G i (if_z (eqb i c) x)) h (λ i k ne. ap (G i) (miss i c x ne) ∙ ad.nil i) ∙ ap (G c) (hit c c x refl))

-- ---- parts

back : (x y : ℤ) → y ≡ pos 0 → pos 0 ≡ x +ℤ y -ℤ x
back x y e = omega (arith, ints)

plain : (x y : ℤ) → x +ℤ y ≡ x +ℤ y -ℤ pos 0
plain x y = omega (arith, ints)

regroup : (x y z : ℤ) → x +ℤ y -ℤ z ≡ x +ℤ (y -ℤ z)
regroup x y z = omega (arith, ints)

module _ (n : ℕ) (part : ℕ → ℕ → Bool) (whole : ℕ → Bool) (G : ℕ → ℤ → ℤ) (ad : Additive G) (l : ℕ → ℤ)
    (flat : (e c : ℕ) → whole c ≡ true → part e c ≡ false) where
  -- the lots of a class once each class with parts gave its lots to them
  abbrev handed : ℕ → ℤ
  handed c = cond (whole c) (pos 0) (l c +ℤ sum_z n (λ e. if_z (part e c) (l e)))

  abbrev came : ℕ → ℤ
  came c = sum_z n (λ e. if_z (part e c) (G c (l e)))

  handed-one : (c : ℕ) → G c (handed c) ≡ G c (l c) +ℤ came c -ℤ if_z (whole c) (G c (l c))
  handed-one c =
      ⊎_elim
      (λ (q : whole c ≡ true).
      ap (G c) (cond-true (whole c) (pos 0) _ q) ∙ ad.nil c
      ∙ back (G c (l c)) (came c) (sum-nil n (λ e. if_z (part e c) (G c (l e))) (λ e k. cond-false (part e c) (G c (l e)) (pos 0) (flat e c q)))
      ∙ ap (λ v. G c (l c) +ℤ came c -ℤ v) (sym (cond-true (whole c) (G c (l c)) (pos 0) q)))
      (λ (q : whole c ≡ false).
      ap (G c) (cond-false (whole c) (pos 0) (l c +ℤ sum_z n (λ e. if_z (part e c) (l e))) q)
      ∙ ad.adds c (l c) (sum_z n (λ e. if_z (part e c) (l e)))
      ∙ ap (λ v. G c (l c) +ℤ v) (sum_through G ad c n (λ e. if_z (part e c) (l e)) ∙ sum_same n (λ e. G c (if_z (part e c) (l e))) (λ e. if_z (part e c) (G c (l e))) (λ e k. if-through G ad c (part e c) (l e)))
      ∙ plain (G c (l c)) (came c)
      ∙ ap (λ v. G c (l c) +ℤ came c -ℤ v) (sym (cond-false (whole c) (G c (l c)) (pos 0) q)))
      (cases_Bool (whole c))

  -- what handing on a class's lots changes
  abbrev parts-gain : ℕ → ℤ
  parts-gain c = sum_z n (λ p. if_z (part c p) (G p (l c))) -ℤ if_z (whole c) (G c (l c))

  pub handed-weigh : sum_z n (λ c. G c (handed c)) ≡ sum_z n (λ c. G c (l c)) +ℤ sum_z n parts-gain
  handed-weigh =
      sum_same n (λ c. G c (handed c)) (λ c. G c (l c) +ℤ came c -ℤ if_z (whole c) (G c (l c))) (λ c k. handed-one c)
      ∙ sum-sub n (λ c. G c (l c) +ℤ came c) (λ c. if_z (whole c) (G c (l c)))
      ∙ ap (λ v. v -ℤ sum_z n (λ c. if_z (whole c) (G c (l c)))) (sum-add n (λ c. G c (l c)) came ∙ ap (λ v. sum_z n (λ c. G c (l c)) +ℤ v) (sum-swap n n (λ c e. if_z (part e c) (G c (l e)))))
      ∙ regroup (sum_z n (λ c. G c (l c))) (sum_z n (λ c. sum_z n (λ p. if_z (part c p) (G p (l c))))) (sum_z n (λ c. if_z (whole c) (G c (l c))))
      ∙ ap (λ v. sum_z n (λ c. G c (l c)) +ℤ v) (sym (sum-sub n (λ c. sum_z n (λ p. if_z (part c p) (G p (l c)))) (λ c. if_z (whole c) (G c (l c)))))

-- ---- successors

module _ (n : ℕ) (next : ℕ → Option ℕ) (apart : (c e s : ℕ) → next c ≡ Some s → next e ≡ Some s → c ≡ e) where
  -- what comes to a class is what the class that it succeeds held
  source-sum : (t : ℕ) (f : ℕ → ℤ) → from (source_below next t n) (pos 0) f ≡ sum_z n (λ c. if_z (names (next c) t) (f c))
  source-sum t f = by (source_below next t n) refl
    where
      by : (o : Option ℕ) → source_below next t n ≡ o → from o (pos 0) f ≡ sum_z n (λ c. if_z (names (next c) t) (f c))
      by None e = sym (sum-nil n (λ c. if_z (names (next c) t) (f c)) (λ c h.
          ⊎_elim
          (λ (q : names (next c) t ≡ true). absurd (source-none next t n e c h (names-true _ t q)))
          (λ (q : names (next c) t ≡ false). cond-false _ (f c) (pos 0) q)
          (cases_Bool (names (next c) t))))
      by (Some c) e =
          let r = source_is next t n c e in
          sym (sum_one n c (λ k. if_z (names (next k) t) (f k)) r.0 (λ k h ne.
          ⊎_elim
          (λ (q : names (next k) t ≡ true). absurd (ne (apart k c t (names-true _ t q) r.1)))
          (λ (q : names (next k) t ≡ false). cond-false _ (f k) (pos 0) q)
          (cases_Bool (names (next k) t)))
          ∙ cond-true (names (next c) t) (f c) (pos 0) (names-yes (next c) t r.1))

  module _ (G G' : ℕ → ℤ → ℤ) (ad : Additive G) (ad' : Additive G') (l : ℕ → ℤ)
      (known : (c t : ℕ) → next c ≡ Some t → t < n)
      (same : (c t : ℕ) (x : ℤ) → c < n → next c ≡ Some t → G' t x ≡ G c x)
      (ends : (c : ℕ) → c < n → next c ≡ None → l c ≡ pos 0) where
    one_class : (c : ℕ) → c < n → (o : Option ℕ) → next c ≡ o → sum_z n (λ t. G' t (if_z (names o t) (l c))) ≡ G c (l c)
    one_class c h None e = sum-nil n (λ t. G' t (pos 0)) (λ t k. ad'.nil t) ∙ sym (ap (G c) (ends c h e) ∙ ad.nil c)
    one_class c h (Some s) e =
        sum_one n s (λ t. G' t (if_z (eqb s t) (l c))) (known c s e) (λ t k ne. ap (G' t) (miss s t (l c) (λ z. ne (sym z))) ∙ ad'.nil t)
        ∙ ap (G' s) (hit s s (l c) refl) ∙ same c s (l c) h e

    -- moving to successors keeps what all weigh, where a class that ends has nothing left
    pub moved-weigh : sum_z n (λ t. G' t (from (source_below next t n) (pos 0) l)) ≡ sum_z n (λ c. G c (l c))
    moved-weigh =
        sum_same n (λ t. G' t (from (source_below next t n) (pos 0) l)) (λ t. sum_z n (λ c. G' t (if_z (names (next c) t) (l c))))
        (λ t h. ap (G' t) (source-sum t l) ∙ sum_through G' ad' t n (λ c. if_z (names (next c) t) (l c)))
        ∙ sum-swap n n (λ t c. G' t (if_z (names (next c) t) (l c)))
        ∙ sum_same n (λ c. sum_z n (λ t. G' t (if_z (names (next c) t) (l c)))) (λ c. G c (l c)) (λ c h. one_class c h (next c) refl)
