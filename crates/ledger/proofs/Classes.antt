-- What the laws of terms tell of the classes of a day. Assumes nothing.
use Rattle.std.proofs.Common.{◌≡◌, ℕ, ◌+◌, ◌<◌, Bool, true, false, cond, ◌&&◌, leb, ℤ, pos, ◌*ℤ◌, is_some, Some, None, Option, sym, refl, ap, ◌∙◌, ⊎_elim, arith}
use lib.IntN.{zero-*ℤ}
use Rattle.amounts.proofs.Sums.{sum_same, sum-nil, sum-right}
use Rattle.amounts.specs.SumsOfWhole.{sum_z, if_z}
use Rattle.std.proofs.lemmas.Int.{ints}
use Rattle.std.proofs.lemmas.Bool.{cases_Bool, false≢true, both_ways, and_parts, and_from, ltb-true, lt-ltb, le-leb, cond-true, cond-false}
use Rattle.terms.proofs.ClassQuantities.{parts-and-successors}
use Rattle.terms.specs.Laws.{Laws}
use Rattle.terms.specs.Meaning.{Meaning, answers, one, has, tradable, is_part, has_some_part, successor, class_quantity}
use Rattle.terms.specs.declared.class_terms.ClassTerms.{ClassTerms}
use Rattle.ledger.proofs.Sums.{sum-pos, if_pos}
use Rattle.ledger.proofs.Tests.{none_each, some-none}

times-one : (x : ℤ) → pos 1 *ℤ x ≡ x
times-one x = omega (arith, ints)

both_so : (b h : Bool) (x : ℤ) → if_z b (if_z h x) ≡ pos (one (b && h)) *ℤ x
both_so true true x = sym (times-one x)
both_so true false x = sym (zero-*ℤ x)
both_so false h x = sym (zero-*ℤ x)

one-so : (b : Bool) (x : ℤ) → pos (one b) *ℤ x ≡ if_z b x
one-so true x = times-one x
one-so false x = zero-*ℤ x

module _ (w : Meaning) (law : Laws w) (d : ℕ) where
  -- a tradable class is one for which terms answer
  pub tradable-known : (c : ℕ) → tradable (w.on d c) ≡ true → c < w.classes
  tradable-known c e = ltb-true c w.classes (and_parts (answers w d) _ (sym (law.answered d c) ∙ some (w.on d c) e)).1
    where
      some : (o : Option ClassTerms) → tradable o ≡ true → is_some o ≡ true
      some None e = absurd (false≢true e)
      some (Some t) e = refl

  pub successor-known : (c t : ℕ) → successor (w.on d c) ≡ Some t → t < w.classes
  successor-known c t = by (w.on d c) refl
    where
      by : (o : Option ClassTerms) → w.on d c ≡ o → successor o ≡ Some t → t < w.classes
      by None e q = absurd (some-none (Some t) t refl (sym q))
      by (Some u) e q = (law.ranges d c u e).next t q

  pub not-settling : (c : ℕ) → tradable (w.on d c) ≡ true → c ≡ w.settling → ⊥
  not-settling c e q = false≢true (sym (law.untraded d) ∙ ap (λ k. tradable (w.on d k)) (sym q) ∙ e)

  -- on an answered day the settling class has a month
  pub settling-month : answers w d ≡ true → (m : ℕ) × (has (w.on d w.settling) m ≡ true)
  settling-month a = by (w.on d w.settling) refl (law.answered d w.settling ∙ and_from (answers w d) _ a (lt-ltb w.settling w.classes law.settles))
    where
      by : (o : Option ClassTerms) → w.on d w.settling ≡ o → is_some o ≡ true → (m : ℕ) × (has o m ≡ true)
      by None e q = absurd (false≢true q)
      by (Some t) e q =
          let f = t.months.first in
          let some = (law.ranges d w.settling t e).some in
          (f, and_from (leb f f) _ (le-leb f f (omega arith)) (lt-ltb f (f + t.months.count) (omega (arith, some))))

  -- no class with parts is a part
  pub flat : (e c : ℕ) → has_some_part (w.on d c) ≡ true → is_part (w.on d e) c ≡ false
  flat e c y =
      ⊎_elim
      (λ (z : is_part (w.on d e) c ≡ true). absurd (both_ways _ (law.part d e c z).1 y))
      (λ (z : is_part (w.on d e) c ≡ false). z)
      (cases_Bool (is_part (w.on d e) c))

  no_part : (c p : ℕ) → has_some_part (w.on d c) ≡ false → p < w.classes → is_part (w.on d c) p ≡ false
  no_part c p e h = none_each 12 (is_part (w.on d c)) e p (omega (arith, law.twelve))

  -- a month of a class with parts lies in one part
  pub months-split : (c m : ℕ) (x : ℤ) → sum_z w.classes (λ p. if_z (is_part (w.on d c) p) (if_z (has (w.on d p) m) x)) ≡ if_z (has_some_part (w.on d c)) (if_z (has (w.on d c) m) x)
  months-split c m x =
      ⊎_elim
      (λ (q : has_some_part (w.on d c) ≡ true).
      sum_same w.classes _ (λ p. pos (one (is_part (w.on d c) p && has (w.on d p) m)) *ℤ x) (λ p l. both_so (is_part (w.on d c) p) (has (w.on d p) m) x)
      ∙ sum-right w.classes (λ p. pos (one (is_part (w.on d c) p && has (w.on d p) m))) x
      ∙ ap (λ v. v *ℤ x) (sum-pos w.classes (λ p. one (is_part (w.on d c) p && has (w.on d p) m)) ∙ ap pos (law.cover d c m q))
      ∙ one-so (has (w.on d c) m) x
      ∙ sym (cond-true (has_some_part (w.on d c)) _ (pos 0) q))
      (λ (q : has_some_part (w.on d c) ≡ false).
      sum-nil w.classes _ (λ p l. cond-false (is_part (w.on d c) p) _ (pos 0) (no_part c p q l))
      ∙ sym (cond-false (has_some_part (w.on d c)) _ (pos 0) q))
      (cases_Bool (has_some_part (w.on d c)))

  -- and so its quantity is the sum over its parts
  pub quantity-split : (c : ℕ) → sum_z w.classes (λ p. if_z (is_part (w.on d c) p) (pos (class_quantity w (w.on d p)))) ≡ if_z (has_some_part (w.on d c)) (pos (class_quantity w (w.on d c)))
  quantity-split c =
      ⊎_elim
      (λ (q : has_some_part (w.on d c) ≡ true).
      sum_same w.classes _ (λ p. pos (cond (is_part (w.on d c) p) (class_quantity w (w.on d p)) 0)) (λ p l. if_pos (is_part (w.on d c) p) (class_quantity w (w.on d p)))
      ∙ sum-pos w.classes (λ p. cond (is_part (w.on d c) p) (class_quantity w (w.on d p)) 0)
      ∙ ap pos ((parts-and-successors w law).parts d c q)
      ∙ sym (cond-true (has_some_part (w.on d c)) _ (pos 0) q))
      (λ (q : has_some_part (w.on d c) ≡ false).
      sum-nil w.classes _ (λ p l. cond-false (is_part (w.on d c) p) _ (pos 0) (no_part c p q l))
      ∙ sym (cond-false (has_some_part (w.on d c)) _ (pos 0) q))
      (cases_Bool (has_some_part (w.on d c)))
