-- The class that a class succeeds. Assumes nothing.
use Rattle.std.proofs.Common.{◌≡◌, ℕ, zero, suc, ◌<◌, true, false, Some, None, Option, sym, refl, ap, ◌∙◌, subst, ⊎_elim, arith}
use Rattle.std.proofs.lemmas.Bool.{cases_eq, cases_Bool, eq-eqb, eqb-true, false≢true, cond-true, cond-false}
use Rattle.terms.specs.Day.{source_below}
use Rattle.terms.specs.Laws.{names}

-- an answer is not both given and none
pub some-none : {A : Type 0} (o : Option A) (x : A) → o ≡ Some x → o ≡ None → ⊥
some-none o x e q = let z : ◌≡◌ {A = ℕ} 0 1 = cc in omega arith

pub names-true : (o : Option ℕ) (t : ℕ) → names o t ≡ true → o ≡ Some t
names-true None t e = absurd (false≢true e)
names-true (Some s) t e = ap Some (eqb-true s t e)

pub names-yes : (o : Option ℕ) (t : ℕ) → o ≡ Some t → names o t ≡ true
names-yes o t e = ap (λ x. names x t) e ∙ eq-eqb t t refl

module _ (next : ℕ → Option ℕ) (t : ℕ) where
  pub source_is : (n c : ℕ) → source_below next t n ≡ Some c → (c < n) × (next c ≡ Some t)
  source_is zero c e = absurd (some-none (Some c) c refl (sym e))
  source_is (suc n) c e =
      ⊎_elim
      (λ (q : names (next n) t ≡ true).
      let f : Some n ≡ Some c = sym (cond-true (names (next n) t) (Some n) (source_below next t n) q) ∙ e in
      let g : n ≡ c = cc f in
      (omega arith, subst (λ k. next k ≡ Some t) g (names-true _ t q)))
      (λ (q : names (next n) t ≡ false).
      let r = source_is n c (sym (cond-false (names (next n) t) (Some n) (source_below next t n) q) ∙ e) in
      (omega (arith, r.0), r.1))
      (cases_Bool (names (next n) t))

  pub source-here : (n c : ℕ) → c < n → ((e : ℕ) → next e ≡ Some t → c ≡ e) → next c ≡ Some t → source_below next t n ≡ Some c
  source-here zero c h one e = absurd (omega arith)
  source-here (suc n) c h one e =
      ⊎_elim
      (λ (q : names (next n) t ≡ true). cond-true (names (next n) t) (Some n) (source_below next t n) q ∙ ap Some (sym (one n (names-true _ t q))))
      (λ (q : names (next n) t ≡ false).
      let ne : c ≡ n → ⊥ = λ (z : c ≡ n). false≢true (sym q ∙ names-yes (next n) t (subst (λ k. next k ≡ Some t) z e)) in
      cond-false (names (next n) t) (Some n) (source_below next t n) q ∙ source-here n c (omega arith) one e)
      (cases_Bool (names (next n) t))

  pub source-none : (n : ℕ) → source_below next t n ≡ None → (c : ℕ) → c < n → next c ≡ Some t → ⊥
  source-none zero e c h y = omega arith
  source-none (suc n) e c h y =
      ⊎_elim
      (λ (q : names (next n) t ≡ true). some-none (Some n) n refl (sym (cond-true (names (next n) t) (Some n) (source_below next t n) q) ∙ e))
      (λ (q : names (next n) t ≡ false).
      ⊎_elim
      (λ (z : c ≡ n). false≢true (sym q ∙ names-yes (next n) t (subst (λ k. next k ≡ Some t) z y)))
      (λ (z : c ≡ n → ⊥). source-none n (sym (cond-false (names (next n) t) (Some n) (source_below next t n) q) ∙ e) c (omega arith) y)
      (cases_eq c n))
      (cases_Bool (names (next n) t))
