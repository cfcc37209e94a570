-- What moving up by one place keeps, for every product. Assumes nothing.
use Rattle.std.proofs.Common.{◌≡◌, ℕ, ◌+◌, ◌<◌, Bool, true, false, cond, ◌&&◌, eqb, ltb, Some, None, Option, sym, refl, ap, ◌∙◌, subst, add-zero, arith}
use Rattle.std.proofs.lemmas.Bool.{and_parts, and_from, eqb-true, eq-eqb, ltb-true, cond-true}
use Rattle.std.proofs.lemmas.Option.{same_Some}
use Rattle.dates.proofs.Below.{every, at}
use Rattle.terms.specs.Chain.{Chain, moves_up}
use Rattle.terms.specs.Meaning.{one}

-- The tables fit each other: the class before stands one place before, and kind and place tell the class.
abbrev fits_before : Chain → Option ℕ → ℕ → Bool
fits_before ch None c = true
fits_before ch (Some s) c = ltb s ch.size && (eqb (ch.kind s) (ch.kind c) && eqb (ch.place s + 1) (ch.place c))

abbrev tells : Chain → ℕ → ℕ → Bool
tells ch a b = cond (eqb (ch.kind a) (ch.kind b) && eqb (ch.place a) (ch.place b)) (eqb a b) true

-- the test of a chain's tables, which is computed
abbrev pub fits : Chain → Bool
fits ch = every (λ c. fits_before ch (ch.earlier c) c) ch.size && every (λ a. every (tells ch a) ch.size) ch.size

module _ (ch : Chain) (ok : fits ch ≡ true) where
  before : (c s : ℕ) → c < ch.size → ch.earlier c ≡ Some s → (s < ch.size) × (ch.kind s ≡ ch.kind c) × (ch.place s + 1 ≡ ch.place c)
  before c s h e =
      let t = at (λ c. fits_before ch (ch.earlier c) c) ch.size (and_parts _ _ ok).0 c h in
      let u = and_parts _ _ (subst (λ (o : Option ℕ). fits_before ch o c ≡ true) e t) in
      let v = and_parts _ _ u.1 in
      (ltb-true _ _ u.0, eqb-true _ _ v.0, eqb-true _ _ v.1)

  told : (a b : ℕ) → a < ch.size → b < ch.size → ch.kind a ≡ ch.kind b → ch.place a ≡ ch.place b → a ≡ b
  told a b ha hb k p =
      let t = at (tells ch a) ch.size (at (λ a. every (tells ch a) ch.size) ch.size (and_parts _ _ ok).1 a ha) b hb in
      eqb-true a b (sym (cond-true _ (eqb a b) true (and_from _ _ (eq-eqb _ _ k) (eq-eqb _ _ p))) ∙ t)

  -- a class and its successor stand in one chain, and the class's period is the successor's next day
  pub moved : (own next : ℕ → ℕ) (turns : ℕ → Bool) (c s : ℕ) → c < ch.size → next (ch.kind c) ≡ own (ch.kind c) + one (turns (ch.kind c)) → moves_up (turns (ch.kind c)) (ch.earlier c) c ≡ Some s → (s < ch.size) × (ch.kind s ≡ ch.kind c) × (next (ch.kind s) + ch.place s ≡ own (ch.kind c) + ch.place c)
  moved own next turns c s h step e = go (turns (ch.kind c)) refl e
    where
      go : (b : Bool) → turns (ch.kind c) ≡ b → cond b (ch.earlier c) (Some c) ≡ Some s → (s < ch.size) × (ch.kind s ≡ ch.kind c) × (next (ch.kind s) + ch.place s ≡ own (ch.kind c) + ch.place c)
      go true t q =
          let z = before c s h q in
          let n : next (ch.kind c) ≡ own (ch.kind c) + 1 = step ∙ ap (λ (b : Bool). own (ch.kind c) + one b) t in
          (z.0, z.1, omega (arith, ap next z.1, n, z.2))
      go false t q =
          let z = same_Some c s q in
          let n : next (ch.kind c) ≡ own (ch.kind c) = step ∙ ap (λ (b : Bool). own (ch.kind c) + one b) t ∙ add-zero _ in
          (subst (λ (x : ℕ). x < ch.size) z h, sym (ap ch.kind z), omega (arith, n, ap (λ (x : ℕ). next (ch.kind x)) z, ap ch.place z))

  -- no two classes have one successor
  pub apart : (turns : ℕ → Bool) (c e s : ℕ) → c < ch.size → e < ch.size → moves_up (turns (ch.kind c)) (ch.earlier c) c ≡ Some s → moves_up (turns (ch.kind e)) (ch.earlier e) e ≡ Some s → c ≡ e
  apart turns c e s hc he p q =
      let own : ℕ → ℕ = λ _. 0 in
      let next : ℕ → ℕ = λ k. one (turns k) in
      let a = moved own next turns c s hc (omega arith) p in
      let b = moved own next turns e s he (omega arith) q in
      told c e hc he (sym a.1 ∙ b.1) (omega (arith, a.2, b.2))
