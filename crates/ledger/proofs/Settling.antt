-- An accepted settle keeps what every history keeps of a row. Assumes nothing.
use Rattle.std.proofs.Common.{◌≡◌, ℕ, Bool, true, false, cond, eqb, ◌⊎◌, ℤ, pos, ◌+ℤ◌, ◌-ℤ◌, ◌*ℤ◌, Some, None, Option, sym, refl, ap, ◌∙◌, subst, inl, inr, ⊎_elim, arith}
use lib.IntN.{*ℤ-zero}
use Rattle.amounts.proofs.Sums.{sum_same, sum-add, sum-sub, sum-hit, sum_one, hit, miss}
use Rattle.amounts.specs.SumsOfWhole.{sum_z, if_z}
use Rattle.ledger.proofs.Sums.{plus_none}
use Rattle.ledger.proofs.Tests.{some-none, put-here, put-there}
use Rattle.ledger.proofs.Worth.{months-worth, final-paid}
use Rattle.ledger.specs.History.{first_of}
use Rattle.ledger.specs.Words.{or_zero, put}
use Rattle.ledger.specs.declared.call.Call.TheVariants.{Settle}
use Rattle.ledger.proofs.Kept.{Past, Open, Story, worth, finals, Kept, not-before}
use Rattle.ledger.specs.State.{Market, Row}
use Rattle.ledger.proofs.Rules.{class_on, quantity_on, market_done, row_settled, held}
use Rattle.std.proofs.lemmas.Bool.{cases_eq, cases_Bool, cond-true, cond-false}
use Rattle.std.proofs.lemmas.Int.{ints}
use Rattle.terms.specs.Laws.{Laws}
use Rattle.terms.specs.Meaning.{Meaning, sum_below, has, class_quantity}
use Rattle.terms.specs.declared.class_terms.ClassTerms.{ClassTerms}

-- the settled months come to more by those of one class
months-more : (n : ℕ) (f g : ℕ → ℤ) (b : ℕ → Bool) (q : ℕ → ℕ) (x p : ℤ) → ((m : ℕ) → g m ≡ f m +ℤ if_z (b m) (x *ℤ (pos (q m) *ℤ p))) → sum_z n g ≡ sum_z n f +ℤ x *ℤ (pos (sum_below n (λ m. cond (b m) (q m) 0)) *ℤ p)
months-more n f g b q x p e =
    sum_same n g (λ m. f m +ℤ if_z (b m) (x *ℤ (pos (q m) *ℤ p))) (λ m l. e m)
    ∙ sum-add n f (λ m. if_z (b m) (x *ℤ (pos (q m) *ℤ p)))
    ∙ ap (λ v. sum_z n f +ℤ v) (months-worth n b q x p)

finals-more : (w : Meaning) (final final' : ℕ → Option ℤ) (net : ℕ → ℤ) (t : Option ClassTerms) (x p : ℤ) → ((m : ℕ) → net m *ℤ (pos (w.quantity m) *ℤ or_zero (final' m)) ≡ net m *ℤ (pos (w.quantity m) *ℤ or_zero (final m)) +ℤ if_z (has t m) (x *ℤ (pos (w.quantity m) *ℤ p))) → finals w final' net ≡ finals w final net +ℤ x *ℤ (pos (class_quantity w t) *ℤ p)
unfolding finals class_quantity
finals-more w final final' net t x p e =
    months-more 1200 (λ m. net m *ℤ (pos (w.quantity m) *ℤ or_zero (final m))) (λ m. net m *ℤ (pos (w.quantity m) *ℤ or_zero (final' m))) (has t) w.quantity x p e

-- one month of the settling class, and any other
in-class : (b : Bool) (q x y p r z : ℤ) → b ≡ true → p ≡ r → x ≡ y → z ≡ pos 0 → x *ℤ (q *ℤ p) ≡ x *ℤ (q *ℤ z) +ℤ if_z b (y *ℤ (q *ℤ r))
in-class b q x y p r z e1 e2 e3 e4 =
    (λ i. e3 i *ℤ (q *ℤ e2 i))
    ∙ sym (none (x *ℤ (q *ℤ z)) (if_z b (y *ℤ (q *ℤ r))) (ap (λ v. x *ℤ (q *ℤ v)) e4 ∙ ap (λ v. x *ℤ v) (*ℤ-zero q) ∙ *ℤ-zero x) ∙ cond-true b (y *ℤ (q *ℤ r)) (pos 0) e1)
  where
    none : (u v : ℤ) → u ≡ pos 0 → u +ℤ v ≡ v
    none u v e = omega (arith, ints)

other-class : (b : Bool) (x p r v : ℤ) → b ≡ false → p ≡ r → x *ℤ p ≡ x *ℤ r +ℤ if_z b v
other-class b x p r v e1 e2 = ap (λ u. x *ℤ u) e2 ∙ sym (plus_none (x *ℤ r) (if_z b v) (cond-false b v (pos 0) e1))

minus-none : (x y : ℤ) → y ≡ pos 0 → x ≡ x -ℤ y
minus-none x y e = omega (arith, ints)

minus-all : (x y z : ℤ) → x ≡ pos 0 → y ≡ z → x ≡ y -ℤ z
minus-all x y z e q = omega (arith, ints)

joined : (c b v t g l pay v' t' : ℤ) → pay ≡ g -ℤ l → c +ℤ b ≡ v +ℤ t → v' ≡ v -ℤ l → t' ≡ t +ℤ g → c +ℤ pay +ℤ b ≡ v' +ℤ t'
joined c b v t g l pay v' t' e1 e2 e3 e4 = omega (arith, ints)

-- the final prices of months once the settling class's got theirs
abbrev pub settled_months : Meaning → Market → ℤ → (ℕ → Option ℤ) → ℕ → Option ℤ
settled_months w k f final m = first_of (cond (has (class_on w k w.settling) m) (Some f) None) (final m)

module _ (w : Meaning) (law : Laws w) (k : Market) (final : ℕ → Option ℤ) (o : Open w k final) (f : ℤ) (room : ℕ) (priced : k.last w.settling ≡ None → ⊥) where
  abbrev S : ℕ
  S = w.settling

  abbrev k' : Market
  k' = market_done w k (Settle f room)

  abbrev final' : ℕ → Option ℤ
  final' = settled_months w k f final

  settled-now : (m : ℕ) → has (class_on w k S) m ≡ true → final' m ≡ Some f
  settled-now m z = ap (λ t. first_of (cond t (Some f) None) (final m)) z

  as_before : (m : ℕ) → has (class_on w k S) m ≡ false → final' m ≡ final m
  as_before m z = ap (λ t. first_of (cond t (Some f) None) (final m)) z

  now-past : (m : ℕ) (g : ℤ) → (has (class_on w k S) m ≡ true) ⊎ (has (class_on w k S) m ≡ false) → final' m ≡ Some g → Past w k' m
  now-past m g (inl z) y = inl (z, put-here S S None (k.last S) refl)
  now-past m g (inr z) y = again (o.past m g (sym (as_before m z) ∙ y))
    where
      again : Past w k m → Past w k' m
      again (inl p) = absurd (priced p.1)
      again (inr p) = inr p

  pub settle-open : Open w k' final'
  settle-open = record { answered = o.answered; past = λ m g y. now-past m g (cases_Bool (has (class_on w k S) m)) y }

  -- none of the settling class's months was settled before
  unsettled : (m : ℕ) → has (class_on w k S) m ≡ true → (x : Option ℤ) → final m ≡ x → final m ≡ None
  unsettled m z None e = e
  unsettled m z (Some g) e = absurd (not-past (o.past m g e))
    where
      not-past : Past w k m → ⊥
      not-past (inl p) = priced p.1
      not-past (inr p) = not-before m (p m z)

  module _ (F : Story) (r : Row) (kept : Kept w k final F r) where
    none-traded : r.traded S ≡ pos 0
    none-traded = (kept.idle S (law.untraded k.day)).0

    held_same : (m : ℕ) → has (class_on w k S) m ≡ false → held w k' (row_settled w k f r) m ≡ held w k r m
    held_same m z =
        sum_same w.classes (λ c. if_z (has (class_on w k c) m) (put r.lots S (pos 0) c)) (λ c. if_z (has (class_on w k c) m) (r.lots c)) (λ c l.
        ⊎_elim
        (λ (e : c ≡ S).
        let no : has (class_on w k c) m ≡ false = subst (λ c. has (class_on w k c) m ≡ false) (sym e) z in
        cond-false _ (put r.lots S (pos 0) c) (pos 0) no ∙ sym (cond-false _ (r.lots c) (pos 0) no))
        (λ (e : c ≡ S → ⊥). ap (if_z (has (class_on w k c) m)) (put-there c S (pos 0) (r.lots c) e))
        (cases_eq c S))

    -- in the months of the settling class a row holds its lots there
    held-there : (m : ℕ) → has (class_on w k S) m ≡ true → held w k r m ≡ r.lots S
    held-there m z =
        sum_one w.classes S (λ c. if_z (has (class_on w k c) m) (r.lots c)) law.settles (λ c l ne.
        ⊎_elim
        (λ (y : has (class_on w k c) m ≡ true). absurd (not-before m (law.later k.day c m m ne z y)))
        (λ (y : has (class_on w k c) m ≡ false). cond-false _ (r.lots c) (pos 0) y)
        (cases_Bool (has (class_on w k c) m)))
        ∙ cond-true _ (r.lots S) (pos 0) z

    one : (m : ℕ) → F.net m *ℤ (pos (w.quantity m) *ℤ or_zero (final' m)) ≡ F.net m *ℤ (pos (w.quantity m) *ℤ or_zero (final m)) +ℤ if_z (has (class_on w k S) m) (r.lots S *ℤ (pos (w.quantity m) *ℤ f))
    one m =
        ⊎_elim
        (λ (z : has (class_on w k S) m ≡ true).
        let u = unsettled m z (final m) refl in
        in-class (has (class_on w k S) m) (pos (w.quantity m)) (F.net m) (r.lots S) (or_zero (final' m)) f (or_zero (final m)) z
        (ap or_zero (settled-now m z)) (sym (kept.open-held m u) ∙ held-there m z) (ap or_zero u))
        (λ (z : has (class_on w k S) m ≡ false).
        other-class (has (class_on w k S) m) (F.net m) (pos (w.quantity m) *ℤ or_zero (final' m)) (pos (w.quantity m) *ℤ or_zero (final m)) _ z
        (ap (λ o. pos (w.quantity m) *ℤ or_zero o) (as_before m z)))
        (cases_Bool (has (class_on w k S) m))

    abbrev P : ℤ
    P = or_zero (k.last S)

    abbrev at : ℕ → ℤ
    at c = (r.lots c -ℤ r.traded c) *ℤ (pos (quantity_on w k c) *ℤ or_zero (k.last c))

    abbrev at' : ℕ → ℤ
    at' c = (put r.lots S (pos 0) c -ℤ r.traded c) *ℤ (pos (quantity_on w k c) *ℤ or_zero (put k.last S None c))

    abbrev gone : ℤ
    gone = r.lots S *ℤ (pos (quantity_on w k S) *ℤ or_zero (k.last S))

    worth-one : (c : ℕ) → at' c ≡ at c -ℤ if_z (eqb c S) gone
    worth-one c =
        ⊎_elim
        (λ (z : c ≡ S).
        subst (λ c. at' c ≡ at c -ℤ if_z (eqb c S) gone) (sym z)
        (minus-all (at' S) (at S) (if_z (eqb S S) gone)
        (ap (λ o. (put r.lots S (pos 0) S -ℤ r.traded S) *ℤ (pos (quantity_on w k S) *ℤ or_zero o)) (put-here S S None (k.last S) refl)
        ∙ ap (λ v. (put r.lots S (pos 0) S -ℤ r.traded S) *ℤ v) (*ℤ-zero (pos (quantity_on w k S))) ∙ *ℤ-zero (put r.lots S (pos 0) S -ℤ r.traded S))
        (ap (λ v. v *ℤ (pos (quantity_on w k S) *ℤ P)) (sym (minus-none (r.lots S) (r.traded S) none-traded)) ∙ sym (hit S S gone refl))))
        (λ (z : c ≡ S → ⊥).
        (λ i. (put-there c S (pos 0) (r.lots c) z i -ℤ r.traded c) *ℤ (pos (quantity_on w k c) *ℤ or_zero (put-there c S None (k.last c) z i)))
        ∙ minus-none (at c) (if_z (eqb c S) gone) (miss c S gone z))
        (cases_eq c S)

    worth-less : worth w k' (row_settled w k f r) ≡ worth w k r -ℤ gone
    worth-less =
        sum_same w.classes at' (λ c. at c -ℤ if_z (eqb c S) gone) (λ c l. worth-one c)
        ∙ sum-sub w.classes at (λ c. if_z (eqb c S) gone)
        ∙ ap (λ v. worth w k r -ℤ v) (sum-hit w.classes S gone law.settles)

    pub settle-kept : Kept w k' final' F (row_settled w k f r)
    settle-kept = record {
      idle = kept.idle;
      unpriced = λ c y.
          ⊎_elim
          (λ (z : c ≡ S). put-here c S (pos 0) (r.lots c) z ∙ sym (subst (λ c. r.traded c ≡ pos 0) (sym z) none-traded))
          (λ (z : c ≡ S → ⊥). put-there c S (pos 0) (r.lots c) z ∙ kept.unpriced c (sym (put-there c S None (k.last c) z) ∙ y))
          (cases_eq c S);
      costs-are = kept.costs-are;
      open-held = λ m y.
          ⊎_elim
          (λ (z : has (class_on w k S) m ≡ true). absurd (some-none (final' m) f (settled-now m z) y))
          (λ (z : has (class_on w k S) m ≡ false). held_same m z ∙ kept.open-held m (sym (as_before m z) ∙ y))
          (cases_Bool (has (class_on w k S) m));
      value =
          joined r.cash F.booked (worth w k r) (finals w final F.net) (r.lots S *ℤ (pos (quantity_on w k S) *ℤ f)) gone _ _ _
          (final-paid (quantity_on w k S) (r.lots S) f P) kept.value worth-less
          (finals-more w final final' F.net (class_on w k S) (r.lots S) f one);
    }
