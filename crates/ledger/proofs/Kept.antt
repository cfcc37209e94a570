-- What every history keeps of a row. Assumes nothing.
use Rattle.std.proofs.Common.{◌≡◌, ℕ, ◌<◌, Bool, true, false, eqb, ◌⊎◌, ℤ, pos, ◌+ℤ◌, ◌-ℤ◌, ◌*ℤ◌, Some, None, Option, sym, refl, ap, ◌∙◌, subst, inl, inr, ⊎_elim, arith}
use lib.IntN.{*ℤ-zero, zero-*ℤ}
use Rattle.amounts.proofs.Ring.{*ℤ-left-distrib}
use Rattle.amounts.proofs.Sums.{sum-nil, sum_one, if-zero, hit, miss}
use Rattle.amounts.specs.SumsOfWhole.{sum_z, if_z}
use Rattle.ledger.proofs.Classes.{tradable-known, not-settling, settling-month}
use Rattle.ledger.specs.Words.{or_zero}
use Rattle.ledger.proofs.Linear.{Linear, minus-line, times-line, at-line, if-line, sum-line, lots-line, traded-line, cost-line}
use Rattle.ledger.specs.State.{Market, Row, nil_row}
use Rattle.ledger.proofs.Rules.{class_on, quantity_on, more, held, one_lot}
use Rattle.std.proofs.lemmas.Int.{ints}
use Rattle.std.proofs.lemmas.Bool.{cases_eq, cases_Bool, false≢true, cond-false}
use Rattle.terms.specs.Laws.{Laws}
use Rattle.terms.specs.Meaning.{Meaning, answers, has, tradable}

-- a settled month is one of the settling class, which then has no last price, or lies before all of them
abbrev pub Past : Meaning → Market → ℕ → Type 0
Past w k m = ((has (class_on w k w.settling) m ≡ true) × (k.last w.settling ≡ None)) ⊎ ((j : ℕ) → has (class_on w k w.settling) j ≡ true → m < j)

pub record Open (w : Meaning) (k : Market) (final : ℕ → Option ℤ) : Type 0 where
  pub answered : answers w k.day ≡ true
  pub past : (m : ℕ) (f : ℤ) → final m ≡ Some f → Past w k m

-- what history tells of a row: its buys less sells of a month, its trades at cost, and those up to the last close
pub record Story : Type 0 where
  pub net : ℕ → ℤ
  pub costs : ℤ
  pub booked : ℤ

-- the day's trades at cost, and the lots of the last close at last prices
abbrev pub pending : Meaning → Market → Row → ℤ
pending w k r = sum_z w.classes (λ c. pos (quantity_on w k c) *ℤ r.cost c)

abbrev pub worth : Meaning → Market → Row → ℤ
worth w k r = sum_z w.classes (λ c. (r.lots c -ℤ r.traded c) *ℤ (pos (quantity_on w k c) *ℤ or_zero (k.last c)))

-- settled months at final prices
unfoldable pub finals : Meaning → (ℕ → Option ℤ) → (ℕ → ℤ) → ℤ
finals w final net = sum_z 1200 (λ m. net m *ℤ (pos (w.quantity m) *ℤ or_zero (final m)))

pub record Kept (w : Meaning) (k : Market) (final : ℕ → Option ℤ) (F : Story) (r : Row) : Type 0 where
  -- a class that is not tradable has no trades of the day, and a class without a last price only such
  pub idle : (c : ℕ) → tradable (class_on w k c) ≡ false → (r.traded c ≡ pos 0) × (r.cost c ≡ pos 0)
  pub unpriced : (c : ℕ) → k.last c ≡ None → r.lots c ≡ r.traded c
  pub costs-are : F.costs ≡ F.booked +ℤ pending w k r
  pub open-held : (m : ℕ) → final m ≡ None → held w k r m ≡ F.net m
  pub value : r.cash +ℤ F.booked ≡ worth w k r +ℤ finals w final F.net

-- ---- sums of rows

abbrev pub nil_story : Story
nil_story = record { net = λ m. pos 0; costs = pos 0; booked = pos 0 }

abbrev pub more_story : ℤ → Story → Story → Story
more_story x F G = record { net = λ m. x *ℤ F.net m +ℤ G.net m; costs = x *ℤ F.costs +ℤ G.costs; booked = x *ℤ F.booked +ℤ G.booked }

no-more : (x u v : ℤ) → u ≡ pos 0 → v ≡ pos 0 → x *ℤ u +ℤ v ≡ pos 0
no-more x u v e f = (λ i. x *ℤ e i +ℤ f i) ∙ omega (arith, ints, *ℤ-zero x)

both-come : (x a b c a' b' c' : ℤ) → a ≡ b +ℤ c → a' ≡ b' +ℤ c' → x *ℤ a +ℤ a' ≡ (x *ℤ b +ℤ b') +ℤ (x *ℤ c +ℤ c')
both-come x a b c a' b' c' e f = omega (arith, ints, ap (λ v. x *ℤ v) e, f, *ℤ-left-distrib x b c)

both-worth : (x u b v t u' b' v' t' : ℤ) → u +ℤ b ≡ v +ℤ t → u' +ℤ b' ≡ v' +ℤ t' → (x *ℤ u +ℤ u') +ℤ (x *ℤ b +ℤ b') ≡ (x *ℤ v +ℤ v') +ℤ (x *ℤ t +ℤ t')
both-worth x u b v t u' b' v' t' e f = omega (arith, ints, ap (λ z. x *ℤ z) e, f, *ℤ-left-distrib x u b, *ℤ-left-distrib x v t)

finals-line : (w : Meaning) (final : ℕ → Option ℤ) → Linear (λ r. finals w final r.lots)
unfolding finals
finals-line w final = sum-line 1200 (λ m r. r.lots m *ℤ (pos (w.quantity m) *ℤ or_zero (final m))) (λ m. at-line _ (pos (w.quantity m) *ℤ or_zero (final m)) (lots-line m))

module _ (w : Meaning) (k : Market) where
  held-line : (m : ℕ) → Linear (λ r. held w k r m)
  held-line m = sum-line w.classes (λ c r. if_z (has (class_on w k c) m) (r.lots c)) (λ c. if-line (has (class_on w k c) m) _ (lots-line c))

  pending-line : Linear (pending w k)
  pending-line = sum-line w.classes (λ c r. pos (quantity_on w k c) *ℤ r.cost c) (λ c. times-line (pos (quantity_on w k c)) _ (cost-line c))

  worth-line : Linear (worth w k)
  worth-line =
      sum-line w.classes (λ c r. (r.lots c -ℤ r.traded c) *ℤ (pos (quantity_on w k c) *ℤ or_zero (k.last c)))
      (λ c. at-line _ (pos (quantity_on w k c) *ℤ or_zero (k.last c)) (minus-line _ _ (lots-line c) (traded-line c)))

  module _ (final : ℕ → Option ℤ) where
    pub kept-more : (x : ℤ) (F G : Story) (r s : Row) → Kept w k final F r → Kept w k final G s → Kept w k final (more_story x F G) (more x r s)
    kept-more x F G r s a b = record {
      idle = λ c q. let u = a.idle c q in let v = b.idle c q in (no-more x (r.traded c) (s.traded c) u.0 v.0, no-more x (r.cost c) (s.cost c) u.1 v.1);
      unpriced = λ c q i. x *ℤ a.unpriced c q i +ℤ b.unpriced c q i;
      costs-are = both-come x F.costs F.booked (pending w k r) G.costs G.booked (pending w k s) a.costs-are b.costs-are ∙ ap (λ v. (x *ℤ F.booked +ℤ G.booked) +ℤ v) (sym (pending-line.line x r s));
      open-held = λ m q. (held-line m).line x r s ∙ (λ i. x *ℤ a.open-held m q i +ℤ b.open-held m q i);
      value =
          both-worth x r.cash F.booked (worth w k r) (finals w final F.net) s.cash G.booked (worth w k s) (finals w final G.net) a.value b.value
          ∙ (λ i. sym (worth-line.line x r s) i +ℤ sym ((finals-line w final).line x (record nil_row { lots = F.net }) (record nil_row { lots = G.net })) i);
    }

    finals-nil : (net : ℕ → ℤ) → ((m : ℕ) → net m *ℤ (pos (w.quantity m) *ℤ or_zero (final m)) ≡ pos 0) → finals w final net ≡ pos 0
    unfolding finals
    finals-nil net z = sum-nil 1200 (λ m. net m *ℤ (pos (w.quantity m) *ℤ or_zero (final m))) (λ m l. z m)

    zero-sums : (x y : ℤ) → x ≡ pos 0 → y ≡ pos 0 → pos 0 +ℤ pos 0 ≡ x +ℤ y
    zero-sums x y e f = omega (arith, ints)

    zero-plus : (x : ℤ) → x ≡ pos 0 → pos 0 ≡ pos 0 +ℤ x
    zero-plus x e = omega (arith, ints)

    pub kept-nil : Kept w k final nil_story nil_row
    kept-nil = record {
      idle = λ c q. (refl, refl);
      unpriced = λ c q. refl;
      costs-are = zero-plus (pending w k nil_row) (sum-nil w.classes (λ c. pos (quantity_on w k c) *ℤ pos 0) (λ c l. *ℤ-zero (pos (quantity_on w k c))));
      open-held = λ m q. sum-nil w.classes (λ c. if_z (has (class_on w k c) m) (pos 0)) (λ c l. if-zero (has (class_on w k c) m));
      value =
          zero-sums (worth w k nil_row) (finals w final (λ m. pos 0))
          (sum-nil w.classes (λ c. (pos 0 -ℤ pos 0) *ℤ (pos (quantity_on w k c) *ℤ or_zero (k.last c))) (λ c l. zero-*ℤ (pos (quantity_on w k c) *ℤ or_zero (k.last c))))
          (finals-nil (λ m. pos 0) (λ m. zero-*ℤ (pos (w.quantity m) *ℤ or_zero (final m))));
    }

-- no month lies before itself
pub not-before : (m : ℕ) → m < m → ⊥
not-before m h = omega arith

module _ (w : Meaning) (law : Laws w) (k : Market) where
  -- every class but the settling one lies after a settled month
  pub past-before : answers w k.day ≡ true → (m c j : ℕ) → Past w k m → (c ≡ w.settling → ⊥) → has (class_on w k c) j ≡ true → m < j
  past-before a m c j (inl p) ne y = law.later k.day c m j ne p.0 y
  past-before a m c j (inr p) ne y =
      let z = settling-month w law k.day a in
      omega (arith, p z.0 z.1, law.later k.day c z.0 j ne z.1 y)

  module _ (final : ℕ → Option ℤ) (o : Open w k final) where
    -- in a settled month nothing is held
    pub past-empty : (F : Story) (r : Row) → Kept w k final F r → (m : ℕ) → Past w k m → held w k r m ≡ pos 0
    past-empty F r kept m p =
        sum-nil w.classes (λ c. if_z (has (class_on w k c) m) (r.lots c)) (λ c l.
        ⊎_elim
        (λ (q : c ≡ w.settling). subst (λ c. if_z (has (class_on w k c) m) (r.lots c) ≡ pos 0) (sym q) (here p))
        (λ (q : c ≡ w.settling → ⊥).
        ⊎_elim
        (λ (y : has (class_on w k c) m ≡ true). absurd (not-before m (past-before o.answered m c m p q y)))
        (λ (y : has (class_on w k c) m ≡ false). cond-false _ (r.lots c) (pos 0) y)
        (cases_Bool (has (class_on w k c) m)))
        (cases_eq c w.settling))
      where
        here : Past w k m → if_z (has (class_on w k w.settling) m) (r.lots w.settling) ≡ pos 0
        here (inl p) =
            ap (if_z (has (class_on w k w.settling) m)) (kept.unpriced w.settling p.1 ∙ (kept.idle w.settling (law.untraded k.day)).0)
            ∙ if-zero (has (class_on w k w.settling) m)
        here (inr p) =
            ⊎_elim
            (λ (y : has (class_on w k w.settling) m ≡ true). absurd (not-before m (p m y)))
            (λ (y : has (class_on w k w.settling) m ≡ false). cond-false _ (r.lots w.settling) (pos 0) y)
            (cases_Bool (has (class_on w k w.settling) m))

    -- ---- one lot

    abbrev pub lot_story : ℕ → ℤ → Story
    lot_story c p = record { net = λ m. if_z (has (class_on w k c) m) (pos 1); costs = pos (quantity_on w k c) *ℤ p; booked = pos 0 }

    no-gain : (x y : ℤ) → (x -ℤ x) *ℤ y ≡ pos 0
    no-gain x y = let e : x -ℤ x ≡ pos 0 = omega (arith, ints) in ap (λ v. v *ℤ y) e ∙ zero-*ℤ y

    nothing-times : (x q : ℤ) → x *ℤ (q *ℤ pos 0) ≡ pos 0
    nothing-times x q = ap (λ v. x *ℤ v) (*ℤ-zero q) ∙ *ℤ-zero x

    pub kept-lot : (c : ℕ) (p : ℤ) → tradable (class_on w k c) ≡ true → Kept w k final (lot_story c p) (one_lot c p)
    kept-lot c p t = record {
      idle = λ i y.
          let ne : i ≡ c → ⊥ = λ (z : i ≡ c). false≢true (sym y ∙ ap (λ j. tradable (class_on w k j)) z ∙ t) in
          (miss i c (pos 1) ne, miss i c p ne);
      unpriced = λ i y. refl;
      costs-are = zero-first _ _ (sum_one w.classes c (λ i. pos (quantity_on w k i) *ℤ if_z (i-is i) p) c-known (λ i l ne. ap (λ v. pos (quantity_on w k i) *ℤ v) (miss i c p ne) ∙ *ℤ-zero (pos (quantity_on w k i))) ∙ ap (λ v. pos (quantity_on w k c) *ℤ v) (hit c c p refl));
      open-held = λ m q.
          sum_one w.classes c (λ i. if_z (has (class_on w k i) m) (if_z (i-is i) (pos 1))) c-known (λ i l ne. ap (if_z (has (class_on w k i) m)) (miss i c (pos 1) ne) ∙ if-zero (has (class_on w k i) m))
          ∙ ap (if_z (has (class_on w k c) m)) (hit c c (pos 1) refl);
      value =
          zero-sums w k final (worth w k (one_lot c p)) (finals w final (lot_story c p).net)
          (sum-nil w.classes _ (λ i l. no-gain (if_z (i-is i) (pos 1)) (pos (quantity_on w k i) *ℤ or_zero (k.last i))))
          (finals-nil w k final (lot_story c p).net (λ m. one m (final m) refl));
    }
      where
        i-is : ℕ → Bool
        i-is i = eqb i c

        c-known : c < w.classes
        c-known = tradable-known w law k.day c t

        zero-first : (x y : ℤ) → y ≡ x → x ≡ pos 0 +ℤ y
        zero-first x y e = omega (arith, ints)

        -- none of its months is settled
        one : (m : ℕ) (x : Option ℤ) → final m ≡ x → if_z (has (class_on w k c) m) (pos 1) *ℤ (pos (w.quantity m) *ℤ or_zero x) ≡ pos 0
        one m None y = nothing-times (if_z (has (class_on w k c) m) (pos 1)) (pos (w.quantity m))
        one m (Some f) y =
            ⊎_elim
            (λ (z : has (class_on w k c) m ≡ true). absurd (not-before m (past-before o.answered m c m (o.past m f y) (not-settling w law k.day c t) z)))
            (λ (z : has (class_on w k c) m ≡ false). ap (λ v. v *ℤ (pos (w.quantity m) *ℤ f)) (cond-false _ (pos 1) (pos 0) z) ∙ zero-*ℤ (pos (w.quantity m) *ℤ f))
            (cases_Bool (has (class_on w k c) m))
