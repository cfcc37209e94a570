-- The first day of a set from a day on: as a walk, and as the least. Assumes nothing.
use Rattle.std.proofs.Common.{◌≡◌, ℕ, zero, suc, ◌+◌, ◌-◌, ◌<◌, ◌≤◌, Bool, true, false, cond, Some, None, Option, MatchOption, sym, refl, ap, ◌∙◌, ⊎_elim, arith}
use Rattle.std.proofs.lemmas.Bool.{cases_lt}
use Rattle.calendars.specs.Walks.{first_from, NoneIn, First}

module _ (f : ℕ → Bool) where
  from-none : (n a : ℕ) → NoneIn f a (a + n) → first_from f a n ≡ None
  unfolding first_from
  from-none zero a h = refl
  from-none (suc n) a h = rw (h a (omega arith) (omega arith), from-none n (suc a) (λ k l u. h k (omega arith) (omega arith)))

  from_some : (n a d : ℕ) → First f a (a + n) d → first_from f a n ≡ Some d
  unfolding first_from
  from_some zero a d h = absurd (omega (arith, h.from, h.to))
  from_some (suc n) a d h =
      ⊎_elim (λ (l : a < d). rw (h.none a (omega arith) l) (from_some n (suc a) d (record { from = l; to = omega (arith, h.to); inside = h.inside; none = λ k l u. h.none k (omega arith) u })))
      (λ l. let e : a ≡ d = omega (arith, h.from) in rw (ap f e ∙ h.inside) (ap Some e))
      (cases_lt a d)

  pub none_is : (a b : ℕ) → NoneIn f a b → None ≡ first_from f a (b - a)
  none_is a b h = sym (from-none (b - a) a (λ k l u. h k l (omega arith)))

  pub first-is : (a b d : ℕ) → First f a b d → Some d ≡ first_from f a (b - a)
  first-is a b d h =
      sym (from_some (b - a) a d (record { from = h.from; to = omega (arith, h.from, h.to); inside = h.inside; none = h.none }))

  -- what the search of a range by the test of the set gives
  pub first_told : (a b : ℕ) (r : Option ℕ) → MatchOption r (NoneIn f a b) (λ d. (a ≤ d) × (d < b) × (f d ≡ true) × NoneIn f a d) → record { is : r ≡ first_from f a (b - a); least : MatchOption r (NoneIn f a b) (First f a b) }
  first_told a b None h = record { is = none_is a b h; least = h }
  first_told a b (Some d) h =
      let n : First f a b d = record { from = h.0; to = h.1; inside = h.2; none = h.3 } in
      record { is = first-is a b d n; least = n }

  -- what the walk finds is in the set, and where it finds nothing no day is
  pub found : (n a d : ℕ) → first_from f a n ≡ Some d → (f d ≡ true) × (d < a + n)
  unfolding first_from
  found zero a d e = absurd cc
  found (suc n) a d e = step (f a) refl e (found n (suc a) d)
    where
      step : (b : Bool) → f a ≡ b → cond b (Some a) (first_from f (suc a) n) ≡ Some d → (first_from f (suc a) n ≡ Some d → (f d ≡ true) × (d < suc a + n)) → (f d ≡ true) × (d < a + suc n)
      step true t q rest = let z : a ≡ d = cc in (ap f (sym z) ∙ t, omega arith)
      step false t q rest = let r = rest q in (r.0, omega (arith, r.1))

  pub none_found : (n a : ℕ) → first_from f a n ≡ None → NoneIn f a (a + n)
  unfolding first_from
  none_found zero a e = λ k l u. absurd (omega arith)
  none_found (suc n) a e = step (f a) refl e (none_found n (suc a))
    where
      step : (b : Bool) → f a ≡ b → cond b (Some a) (first_from f (suc a) n) ≡ None → (first_from f (suc a) n ≡ None → NoneIn f (suc a) (suc a + n)) → NoneIn f a (a + suc n)
      step true t q rest = absurd cc
      step false t q rest = λ k l u. ⊎_elim (λ (x : a < k). rest q k x (omega arith)) (λ x. let z : k ≡ a = omega arith in ap f z ∙ t) (cases_lt a k)
