-- No month is lost when a day is closed. Assumes nothing.
use Rattle.std.proofs.Common.{◌≡◌, ℕ, zero, suc, ◌<◌, Bool, true, false, cond, ◌&&◌, is_some, Some, None, Option, sym, refl, ap, ◌∙◌, ⊎_elim, arith}
use Rattle.std.proofs.lemmas.Bool.{and_parts, or_left, or_right, cases_eq, cases_lt, false≢true, ltb-true}
use Rattle.std.proofs.lemmas.Option.{none-some}
use Rattle.calendars.proofs.Firsts.{found, none_found}
use Rattle.calendars.specs.Walks.{Next}
use Rattle.terms.proofs.Sums.{sum-ext, sum-none}
use Rattle.terms.specs.Heirs.{successor_of, part_with, MonthsFollow}
use Rattle.terms.specs.Laws.{Laws, is_taken_over}
use Rattle.terms.specs.Meaning.{Meaning, answers, sum_below, any_below, one, in_months, has, is_part, has_some_part, successor, tradable}
use Rattle.terms.specs.declared.class_terms.ClassTerms.{ClassTerms}

pub any_at : (n : ℕ) (f : ℕ → Bool) (k : ℕ) → k < n → f k ≡ true → any_below n f ≡ true
any_at zero f k h e = absurd (omega arith)
any_at (suc n) f k h e =
    ⊎_elim (λ (l : k < n). or_left _ _ (any_at n f k l e)) (λ l. let z : k ≡ n = omega arith in or_right (any_below n f) (f n) (ap f (sym z) ∙ e)) (cases_lt k n)

module _ (w : Meaning) (law : Laws w) where
  -- a class with a month is one for which terms answer
  answered-has : (d c m : ℕ) → has (w.on d c) m ≡ true → (answers w d ≡ true) × (c < w.classes)
  answered-has d c m h =
      let t = and_parts _ _ (sym (law.answered d c) ∙ some (w.on d c) h) in
      (t.0, ltb-true _ _ t.1)
    where
      some : (o : Option ClassTerms) → has o m ≡ true → is_some o ≡ true
      some None e = absurd (false≢true e)
      some (Some t) e = refl

  same-month : (d c m e s : ℕ) → has (w.on d c) m ≡ true → successor (w.on d c) ≡ Some s → Next w.opens d e → e < 35430 → has (w.on e s) m ≡ true
  same-month d c m e s h q n l = ap (λ t. in_months t m) (law.same d c s e q n l) ∙ h

  -- the class itself hands over, or the part with the month
  module _ (d c m : ℕ) (h : has (w.on d c) m ≡ true) where
    follows : (b : Bool) → has_some_part (w.on d c) ≡ b → (e s : ℕ) → successor_of w d (cond b (part_with w d c m) (Some c)) ≡ Some s → Next w.opens d e → e < 35430 → has (w.on e s) m ≡ true
    follows false p e s q n l = same-month d c m e s h q n l
    follows true p e s q n l = go (part_with w d c m) refl q
      where
        go : (o : Option ℕ) → part_with w d c m ≡ o → successor_of w d o ≡ Some s → has (w.on e s) m ≡ true
        go None t q = absurd (none-some s q)
        go (Some x) t q =
            let f = found (λ p. is_part (w.on d c) p && has (w.on d p) m) 12 0 x t in
            same-month d x m e s (and_parts _ _ f.0).1 q n l

    ends : (b : Bool) → has_some_part (w.on d c) ≡ b → successor_of w d (cond b (part_with w d c m) (Some c)) ≡ None → (c ≡ w.settling) × (is_taken_over w d ≡ true)
    ends false p q =
        let a = answered-has d c m h in
        ⊎_elim (λ (z : c ≡ w.settling). (z, taken (is_taken_over w d) (sym (law.stays d a.0) ∙ ap (λ x. successor (w.on d x)) (sym z) ∙ q))) (λ ne. absurd (law.lasting d c a.0 a.1 ne p q)) (cases_eq c w.settling)
      where
        taken : (b : Bool) → cond b None (Some w.settling) ≡ None → b ≡ true
        taken true e = refl
        taken false e = absurd (none-some w.settling (sym e))
    ends true p q = go (part_with w d c m) refl q
      where
        go : (o : Option ℕ) → part_with w d c m ≡ o → successor_of w d o ≡ None → (c ≡ w.settling) × (is_taken_over w d ≡ true)
        go None t q =
            let none = none_found (λ p. is_part (w.on d c) p && has (w.on d p) m) 12 0 t in
            let zero-sum : sum_below w.classes (λ p. one (is_part (w.on d c) p && has (w.on d p) m)) ≡ 0 = sum-ext w.classes _ (λ _. 0) (λ p l. ap one (none p (omega arith) (omega (arith, law.twelve)))) ∙ sum-none w.classes in
            absurd (omega (arith, zero-sum, law.cover d c m p, ap one h))
        go (Some x) t q =
            let f = found (λ p. is_part (w.on d c) p && has (w.on d p) m) 12 0 x t in
            let parts = and_parts _ _ f.0 in
            let k = law.part d c x parts.0 in
            let a = answered-has d x m parts.1 in
            absurd (law.lasting d x a.0 a.1 (λ z. false≢true (sym (law.untraded d) ∙ ap (λ y. tradable (w.on d y)) (sym z) ∙ k.0)) k.1 q)

  pub months-follow : MonthsFollow w
  months-follow = record {
    follows = λ d c m e s h. follows d c m h (has_some_part (w.on d c)) refl e s;
    ends = λ d c m h. ends d c m h (has_some_part (w.on d c)) refl;
  }
