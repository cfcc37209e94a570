-- An accepted close keeps what every history keeps of a row. Assumes nothing.
use Rattle.std.proofs.Common.{◌≡◌, ℕ, ◌<◌, Bool, true, false, cond, not, ◌&&◌, eqb, leb, ℤ, pos, ◌+ℤ◌, ◌-ℤ◌, ◌*ℤ◌, is_some, Some, None, Option, sym, refl, ap, ◌∙◌, subst, inl, inr, ⊎_elim, arith}
use lib.IntN.{*ℤ-zero}
use Rattle.amounts.proofs.Sums.{sum_same, sum-add, sum-nil}
use Rattle.amounts.specs.SumsOfWhole.{sum_z, if_z}
use Rattle.ledger.proofs.Classes.{successor-known, flat, months-split, quantity-split}
use Rattle.ledger.proofs.Days.{Onward, onward, next-answered}
use Rattle.ledger.proofs.Sums.{plus_none}
use Rattle.ledger.proofs.Tests.{all-each, some_one, some-none, given-some, not-given, names-true, ask-none}
use Rattle.ledger.proofs.Weights.{where-so, priced-at, handed-weigh, source_is, source-here, moved-weigh}
use Rattle.ledger.proofs.Worth.{parts-paid, class-gain}
use Rattle.terms.specs.Day.{next_day}
use Rattle.ledger.specs.Words.{all_below, or_zero, from}
use Rattle.ledger.specs.declared.call.Call.TheVariants.{Close}
use Rattle.ledger.proofs.Kept.{Past, Open, Story, pending, worth, finals, Kept, past-before}
use Rattle.ledger.specs.State.{Market, Row, State}
use Rattle.ledger.proofs.Rules.{class_on, quantity_on, newest, source_of, variation_pay, part_pay, after_parts, market_closed, row_closed, held}
use Rattle.ledger.specs.Calls.{refusal, by_end}
use Rattle.calendars.specs.Walks.{next_after}
use Rattle.std.proofs.lemmas.Bool.{cases_eq, cases_Bool, false≢true, both_ways, and_parts, eq-eqb, not_from_true, cond-true, cond-false}
use Rattle.std.proofs.lemmas.Int.{ints}
use Rattle.terms.proofs.ClassQuantities.{parts-and-successors}
use Rattle.terms.specs.Laws.{Laws, names, is_taken_over}
use Rattle.terms.specs.Meaning.{Meaning, in_months, has, tradable, is_part, has_some_part, successor, class_quantity}

zero-cond : (t : Bool) (p o : Option ℤ) → or_zero (cond t p o) ≡ cond t (or_zero p) (or_zero o)
zero-cond true p o = refl
zero-cond false p o = refl

no-gain : (x y : ℤ) → x ≡ y → x -ℤ y ≡ pos 0
no-gain x y e = omega (arith, ints)

less_zero : (x : ℤ) → x -ℤ pos 0 ≡ x
less_zero x = omega (arith, ints)

joined : (c b v t x y e r g v' : ℤ) → c +ℤ b ≡ v +ℤ t → r ≡ b +ℤ e → g ≡ v +ℤ x +ℤ e → v' ≡ g +ℤ y → c +ℤ (x +ℤ y) +ℤ r ≡ v' +ℤ t
joined c b v t x y e r g v' e1 e2 e3 e4 = omega (arith, ints)

-- what an accepted close tells of the market
pub record MayClose (w : Meaning) (k : Market) : Type 0 where
  pub priced : (c : ℕ) → c < w.classes → tradable (class_on w k c) ≡ true → k.today c ≡ None → ⊥
  pub free : is_taken_over w k.day ≡ true → k.last w.settling ≡ None
  pub on : Onward w k.day

pub may-close : (w : Meaning) (b : State) (room : ℕ) → refusal w b (Close room) ≡ None → MayClose w b.market
may-close w b room q =
    let k = b.market in
    let q1 = ask-none (leb b.made.accounts room) _ _ q in
    let q2 = ask-none (all_below w.classes (λ c. cond (tradable (class_on w k c)) (is_some (k.today c)) true)) _ _ q1.1 in
    let q3 = ask-none (cond (is_taken_over w k.day) (not (is_some (k.last w.settling))) true) _ _ q2.1 in
    let q4 = ask-none (all_below b.made.accounts _) _ _ q3.1 in
    let q5 = ask-none (by_end (next_after w.opens k.day)) _ _ q4.1 in
    record {
      priced = λ c l t. given-some (k.today c) (sym (cond-true (tradable (class_on w k c)) (is_some (k.today c)) true t) ∙ all-each w.classes (λ c. cond (tradable (class_on w k c)) (is_some (k.today c)) true) q2.0 c l);
      free = λ t. not-given (k.last w.settling) (sym (cond-true (is_taken_over w k.day) (not (is_some (k.last w.settling))) true t) ∙ q3.0);
      on = onward w k.day q5.0;
    }

module _ (w : Meaning) (law : Laws w) (k : Market) (may : MayClose w k) where
  abbrev N : ℕ
  N = w.classes

  abbrev S : ℕ
  S = w.settling

  abbrev d : ℕ
  d = k.day

  abbrev e : ℕ
  e = next_day w k.day

  abbrev next : ℕ → Option ℕ
  next c = successor (class_on w k c)

  apart : (c b t : ℕ) → next c ≡ Some t → next b ≡ Some t → c ≡ b
  apart = law.apart d

  source-at : (c t : ℕ) → c < N → next c ≡ Some t → source_of w k t ≡ Some c
  source-at c t l q = source-here next t N c l (λ b z. apart c b t q z) q

  -- a class that is not tradable has no parts and is none
  untraded-whole : (c : ℕ) → tradable (class_on w k c) ≡ false → has_some_part (class_on w k c) ≡ false
  untraded-whole c t =
      ⊎_elim
      (λ (z : has_some_part (class_on w k c) ≡ true). absurd (both_ways _ t (law.whole d c z).0))
      (λ (z : has_some_part (class_on w k c) ≡ false). z)
      (cases_Bool (has_some_part (class_on w k c)))

  untraded-part : (b c : ℕ) → tradable (class_on w k c) ≡ false → is_part (class_on w k b) c ≡ false
  untraded-part b c t =
      ⊎_elim
      (λ (z : is_part (class_on w k b) c ≡ true). absurd (both_ways _ t (law.part d b c z).0))
      (λ (z : is_part (class_on w k b) c ≡ false). z)
      (cases_Bool (is_part (class_on w k b) c))

  newest-settling : newest w k S ≡ k.last S
  newest-settling = cond-false _ (k.today S) (k.last S) (law.untraded d)

  months-on : (c t m : ℕ) → next c ≡ Some t → has (w.on e t) m ≡ has (class_on w k c) m
  months-on c t m q = ap (λ r. in_months r m) (law.same d c t e q may.on.next may.on.soon)

  module _ (final : ℕ → Option ℤ) (o : Open w k final) where
    -- a settled month stays one of the settling class, or comes to lie before it when another class takes over
    closed-past : (m : ℕ) → Past w k m → Past w (market_closed w k) m
    closed-past m p =
        ⊎_elim
        (λ (t : is_taken_over w d ≡ true). some_one N (λ c. not (eqb c S) && names (next c) S) (Past w (market_closed w k) m) t (λ c l y.
        let z = and_parts (not (eqb c S)) (names (next c) S) y in
        let ne : c ≡ S → ⊥ = λ (q : c ≡ S). false≢true (sym (not_from_true (eqb c S) (eq-eqb c S q)) ∙ z.0) in
        inr (λ j v. past-before w law k o.answered m c j p ne (sym (months-on c S j (names-true _ S z.1)) ∙ v))))
        (λ (t : is_taken_over w d ≡ false). stays (law.stays d o.answered ∙ cond-false (is_taken_over w d) None (Some S) t) p)
        (cases_Bool (is_taken_over w d))
      where
        stays : next S ≡ Some S → Past w k m → Past w (market_closed w k) m
        stays q (inl p) = inl (months-on S S m q ∙ p.0, ap (λ o. from o None (newest w k)) (source-at S S law.settles q) ∙ newest-settling ∙ p.1)
        stays q (inr p) = inr (λ j v. p j (sym (months-on S S j q) ∙ v))

    pub close-open : Open w (market_closed w k) final
    close-open = record { answered = next-answered w d o.answered may.on; past = λ m f q. closed-past m (o.past m f q) }

    -- a class that ends is taken over
    taken : next S ≡ None → is_taken_over w d ≡ true
    taken q =
        ⊎_elim
        (λ (t : is_taken_over w d ≡ true). t)
        (λ (t : is_taken_over w d ≡ false). absurd (some-none (next S) S (law.stays d o.answered ∙ cond-false (is_taken_over w d) None (Some S) t) q))
        (cases_Bool (is_taken_over w d))

    module _ (F : Story) (r : Row) (kept : Kept w k final F r) where
      -- a class without a last price has nothing to hand on
      unpriced-empty : (c : ℕ) → c < N → newest w k c ≡ None → after_parts w k r c ≡ pos 0
      unpriced-empty c l q =
          ⊎_elim
          (λ (t : tradable (class_on w k c) ≡ true). absurd (may.priced c l t (sym (cond-true _ (k.today c) (k.last c) t) ∙ q)))
          (λ (t : tradable (class_on w k c) ≡ false).
          let gone : k.last c ≡ None = sym (cond-false _ (k.today c) (k.last c) t) ∙ q in
          let none : r.lots c ≡ pos 0 = kept.unpriced c gone ∙ (kept.idle c t).0 in
          let given : sum_z N (λ b. if_z (is_part (class_on w k b) c) (r.lots b)) ≡ pos 0 = sum-nil N (λ b. if_z (is_part (class_on w k b) c) (r.lots b)) (λ b l1. cond-false _ (r.lots b) (pos 0) (untraded-part b c t)) in
          cond-false (has_some_part (class_on w k c)) (pos 0) (r.lots c +ℤ sum_z N (λ b. if_z (is_part (class_on w k b) c) (r.lots b))) (untraded-whole c t)
          ∙ (λ i. none i +ℤ given i))
          (cases_Bool (tradable (class_on w k c)))

      -- a class that ends has no lots left
      pub ends : (c : ℕ) → c < N → next c ≡ None → after_parts w k r c ≡ pos 0
      ends c l q =
          ⊎_elim
          (λ (y : has_some_part (class_on w k c) ≡ true). cond-true (has_some_part (class_on w k c)) (pos 0) _ y)
          (λ (y : has_some_part (class_on w k c) ≡ false).
          ⊎_elim
          (λ (z : c ≡ S). unpriced-empty c l (subst (λ c. newest w k c ≡ None) (sym z) (newest-settling ∙ may.free (taken (subst (λ c. next c ≡ None) z q)))))
          (λ (z : c ≡ S → ⊥). absurd (law.lasting d c o.answered l z y q))
          (cases_eq c S))
          (cases_Bool (has_some_part (class_on w k c)))

      closed-unpriced : (t : ℕ) (s : Option ℕ) → source_of w k t ≡ s → from s None (newest w k) ≡ None → from s (pos 0) (after_parts w k r) ≡ pos 0
      closed-unpriced t None q y = refl
      closed-unpriced t (Some c) q y = unpriced-empty c (source_is next t N c q).0 y

      closed-held : (m : ℕ) → held w (market_closed w k) (row_closed w k r) m ≡ held w k r m
      closed-held m =
          let G : ℕ → ℤ → ℤ = λ c x. if_z (has (class_on w k c) m) x in
          let G' : ℕ → ℤ → ℤ = λ t x. if_z (has (w.on e t) m) x in
          moved-weigh N next apart G G' (where-so (λ c. has (class_on w k c) m)) (where-so (λ t. has (w.on e t) m)) (after_parts w k r)
          (successor-known w law d) (λ c t x l q. ap (λ b. if_z b x) (months-on c t m q)) ends
          ∙ handed-weigh N (λ c p. is_part (class_on w k c) p) (λ c. has_some_part (class_on w k c)) G (where-so (λ c. has (class_on w k c) m)) r.lots (flat w law d)
          ∙ plus_none (held w k r m) _
          (sum-nil N (λ c. sum_z N (λ p. if_z (is_part (class_on w k c) p) (G p (r.lots c))) -ℤ if_z (has_some_part (class_on w k c)) (G c (r.lots c)))
          (λ c l. no-gain (sum_z N (λ p. if_z (is_part (class_on w k c) p) (G p (r.lots c)))) _ (months-split w law d c m (r.lots c))))

      -- at the newest prices the lots are worth as much once they were handed on, and the parts' payments
      worth-closed : worth w (market_closed w k) (row_closed w k r) ≡ sum_z N (λ c. r.lots c *ℤ (pos (quantity_on w k c) *ℤ or_zero (newest w k c))) +ℤ sum_z N (λ c. sum_z N (part_pay w k r c))
      worth-closed =
          let P : ℕ → ℤ = λ c. pos (quantity_on w k c) *ℤ or_zero (newest w k c) in
          let P' : ℕ → ℤ = λ t. pos (class_quantity w (w.on e t)) *ℤ or_zero (from (source_of w k t) None (newest w k)) in
          let G : ℕ → ℤ → ℤ = λ c x. x *ℤ P c in
          let G' : ℕ → ℤ → ℤ = λ t x. x *ℤ P' t in
          (λ i. sum_z N (λ t. less_zero (from (source_of w k t) (pos 0) (after_parts w k r)) i *ℤ P' t))
          ∙ moved-weigh N next apart G G' (priced-at P) (priced-at P') (after_parts w k r) (successor-known w law d)
          (λ c t x l q i. x *ℤ (pos ((parts-and-successors w law).successors d c t e q may.on.next may.on.soon i) *ℤ or_zero (from (source-at c t l q i) None (newest w k)))) ends
          ∙ handed-weigh N (λ c p. is_part (class_on w k c) p) (λ c. has_some_part (class_on w k c)) G (priced-at P) r.lots (flat w law d)
          ∙ ap (λ v. sum_z N (λ c. G c (r.lots c)) +ℤ v)
          (sum_same N (λ c. sum_z N (λ p. if_z (is_part (class_on w k c) p) (G p (r.lots c))) -ℤ if_z (has_some_part (class_on w k c)) (G c (r.lots c))) (λ c. sum_z N (part_pay w k r c))
          (λ c l. parts-paid N (is_part (class_on w k c)) (has_some_part (class_on w k c)) (quantity_on w k) (λ p. or_zero (newest w k p)) (quantity_on w k c) (or_zero (newest w k c)) (r.lots c) (quantity-split w law d c)))

      day-gain : sum_z N (λ c. r.lots c *ℤ (pos (quantity_on w k c) *ℤ or_zero (newest w k c))) ≡ worth w k r +ℤ sum_z N (variation_pay w k r) +ℤ pending w k r
      day-gain =
          let H : ℕ → ℤ = λ c. (r.lots c -ℤ r.traded c) *ℤ (pos (quantity_on w k c) *ℤ or_zero (k.last c)) in
          let K : ℕ → ℤ = λ c. pos (quantity_on w k c) *ℤ r.cost c in
          sum_same N (λ c. r.lots c *ℤ (pos (quantity_on w k c) *ℤ or_zero (newest w k c))) (λ c. H c +ℤ variation_pay w k r c +ℤ K c)
          (λ c l.
          ap (λ v. r.lots c *ℤ (pos (quantity_on w k c) *ℤ v)) (zero-cond (tradable (class_on w k c)) (k.today c) (k.last c))
          ∙ class-gain (tradable (class_on w k c)) (quantity_on w k c) (or_zero (k.today c)) (or_zero (k.last c)) (r.lots c) (r.traded c) (r.cost c) (kept.idle c))
          ∙ sum-add N (λ c. H c +ℤ variation_pay w k r c) K
          ∙ ap (λ v. v +ℤ pending w k r) (sum-add N H (variation_pay w k r))

      pub close-kept : Kept w (market_closed w k) final (record F { booked = F.costs }) (row_closed w k r)
      close-kept = record {
        idle = λ c q. (refl, refl);
        unpriced = λ t q. closed-unpriced t (source_of w k t) refl q;
        costs-are = sym (plus_none F.costs (pending w (market_closed w k) (row_closed w k r)) (sum-nil N (λ c. pos (class_quantity w (w.on e c)) *ℤ pos 0) (λ c l. *ℤ-zero (pos (class_quantity w (w.on e c))))));
        open-held = λ m q. closed-held m ∙ kept.open-held m q;
        value =
            joined r.cash F.booked (worth w k r) (finals w final F.net) (sum_z N (variation_pay w k r)) (sum_z N (λ c. sum_z N (part_pay w k r c))) (pending w k r) F.costs _ _
            kept.value kept.costs-are day-gain worth-closed;
      }
