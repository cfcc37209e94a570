-- What every book keeps, call by call. Assumes nothing.
use Rattle.std.proofs.Common.{◌≡◌, ℕ, ◌+◌, ◌*◌, ◌≤◌, Bool, true, false, cond, not, ◌&&◌, eqb, ltb, ℤ, pos, ◌+ℤ◌, ◌*ℤ◌, neg_ℤ, nat_abs, is_some, Some, None, Option, sym, refl, ap, ◌∙◌, subst, ⊎_elim, arith}
use Rattle.amounts.proofs.Ring.{product_le}
use Rattle.amounts.specs.SumsOfWhole.{if_z}
use Rattle.ledger.proofs.Classes.{tradable-known, successor-known}
use Rattle.ledger.proofs.Rules.{class_on, newest, source_of, after_parts}
use Rattle.ledger.proofs.Tests.{ask-none, given-some, some-none, put-here, put-there}
use Rattle.ledger.proofs.Trading.{may-trade}
use Rattle.ledger.proofs.Weights.{source_is}
use Rattle.ledger.specs.Calls.{price_fits, refusal, done}
use Rattle.ledger.specs.Ledger.{Keeps}
use Rattle.ledger.specs.State.{State, Made, new_state}
use Rattle.ledger.specs.Words.{within, put, from, share}
use Rattle.ledger.specs.declared.call.Call.{Call}
use Rattle.ledger.specs.declared.call.Call.TheVariants.{Trade, Mark, Reprice, Settle, Close}
use Rattle.std.proofs.lemmas.Bool.{cases_eq, and_parts, false≢true, cond-false}
use Rattle.std.proofs.lemmas.Int.{ints}
use Rattle.terms.specs.Day.{next_day}
use Rattle.terms.specs.Laws.{Laws}
use Rattle.terms.specs.Meaning.{Meaning, tradable, successor}

-- ---- a trade

share-size : (b s : Bool) (n : ℤ) → within (pos 1) (pos 1000) n ≡ true → nat_abs (if_z b n +ℤ if_z s (neg_ℤ n)) ≤ 1000
share-size true true n h = grind (arith, ints)
share-size true false n h = grind (arith, ints)
share-size false true n h = grind (arith, ints)
share-size false false n h = grind (arith, ints)

pub price-size : (p : ℤ) → price_fits p ≡ true → nat_abs p ≤ 100000
price-size p h = grind (arith, ints)

-- one trade more in a figure
grown : (t : Bool) (x y : ℤ) (m n : ℕ) → nat_abs x ≤ m * n → nat_abs y ≤ m → nat_abs (x +ℤ if_z t y) ≤ m * (n + 1)
grown true x y m n h k = omega (arith, ints, h, k)
grown false x y m n h k = omega (arith, ints, h, k)

-- ---- a close

from_none : (o : Option ℕ) (f : ℕ → ℤ) → o ≡ None → from o (pos 0) f ≡ pos 0
from_none o f e = ap (λ u. from u (pos 0) f) e

module _ (w : Meaning) (law : Laws w) (s : State) (g : Keeps w s) where
  -- a class that is none succeeds no class
  no-source : (t : ℕ) → w.classes ≤ t → (o : Option ℕ) → source_of w s.market t ≡ o → o ≡ None
  no-source t l None e = refl
  no-source t l (Some c) e =
      let r = source_is (λ c. successor (class_on w s.market c)) t w.classes c e in
      absurd (omega (arith, successor-known w law s.market.day c t r.1))

  -- where a class is repriced on the next day, the class that it succeeds was
  moved-repricing : (t : ℕ) (p : ℤ) (b : Bool) → tradable (w.on (next_day w s.market.day) t) ≡ b → (o : Option ℕ) → source_of w s.market t ≡ o → cond b None (from o None s.market.repriced) ≡ Some p → (b ≡ false) × (from o None (newest w s.market) ≡ None → ⊥)
  moved-repricing t p true f o e q = absurd (some-none None p q refl)
  moved-repricing t p false f None e q = absurd (some-none None p q refl)
  moved-repricing t p false f (Some c) e q =
      let r = g.repriced c p q in
      (refl, λ z. r.1 (sym (cond-false (tradable (class_on w s.market c)) (s.market.today c) (s.market.last c) r.0) ∙ z))

put-some : (i c : ℕ) (x : Option ℤ) (f : ℕ → Option ℤ) (P : Option ℤ → Type 0) → ((i ≡ c) → P x) → P (f i) → P (put f c x i)
put-some i c x f P here there =
    ⊎_elim
    (λ (z : i ≡ c). subst P (sym (put-here i c x (f i) z)) (here z))
    (λ (z : i ≡ c → ⊥). subst P (sym (put-there i c x (f i) z)) there)
    (cases_eq i c)

pub keeps-new : (w : Meaning) (m : Made) → Keeps w (new_state w m)
keeps-new w m = record {
  few = omega arith;
  traded = λ a c. omega arith;
  cost = λ a c. omega arith;
  beyond = λ a c l. refl;
  repriced = λ c p q. absurd (some-none None p q refl);
}

module _ (w : Meaning) (law : Laws w) (s : State) (g : Keeps w s) where
  keeps-trade : (buyer seller c : ℕ) (n p : ℤ) → refusal w s (Trade buyer seller c n p) ≡ None → Keeps w (done w s (Trade buyer seller c n p))
  keeps-trade buyer seller c n p q =
      let may = may-trade w s buyer seller c n p q in
      let size : (a : ℕ) → nat_abs (share buyer seller n a) ≤ 1000 = λ a. share-size (eqb a buyer) (eqb a seller) n may.lots in
      record {
        few = omega (arith, may.few);
        traded = λ a i. grown (eqb i c) ((s.rows a).traded i) (share buyer seller n a) 1000 s.market.accepted (g.traded a i) (size a);
        cost = λ a i. grown (eqb i c) ((s.rows a).cost i) (share buyer seller n a *ℤ p) 100000000 s.market.accepted (g.cost a i) (product_le (share buyer seller n a) p 1000 100000 (size a) (price-size p may.price));
        beyond = λ a i l.
            let ne : i ≡ c → ⊥ = λ (z : i ≡ c). omega (arith, z, tradable-known w law s.market.day c may.opened) in
            (λ j. g.beyond a i l j +ℤ put-there i c (share buyer seller n a) (pos 0) ne j);
        repriced = g.repriced;
      }

  keeps-mark : (c : ℕ) (p : ℤ) → Keeps w (done w s (Mark c p))
  keeps-mark c p = record { few = g.few; traded = g.traded; cost = g.cost; beyond = g.beyond; repriced = g.repriced }

  keeps-reprice : (c : ℕ) (p : ℤ) → refusal w s (Reprice c p) ≡ None → Keeps w (done w s (Reprice c p))
  keeps-reprice c p q =
      let q1 = ask-none (ltb c w.classes && (not (tradable (class_on w s.market c)) && is_some (s.market.last c))) _ _ q in
      let q2 = and_parts (not (tradable (class_on w s.market c))) (is_some (s.market.last c)) (and_parts (ltb c w.classes) _ q1.0).1 in
      record {
        few = g.few;
        traded = g.traded;
        cost = g.cost;
        beyond = g.beyond;
        repriced = λ i x.
            put-some i c (Some p) s.market.repriced (λ o. o ≡ Some x → (tradable (class_on w s.market i) ≡ false) × (s.market.last i ≡ None → ⊥))
            (λ z _. subst (λ i. (tradable (class_on w s.market i) ≡ false) × (s.market.last i ≡ None → ⊥)) (sym z) (untraded (tradable (class_on w s.market c)) q2.0, given-some (s.market.last c) q2.1))
            (g.repriced i x);
      }
    where
      untraded : (b : Bool) → not b ≡ true → b ≡ false
      untraded true e = absurd (false≢true e)
      untraded false e = refl

  keeps-settle : (f : ℤ) (room : ℕ) → Keeps w (done w s (Settle f room))
  keeps-settle f room = record {
    few = g.few;
    traded = g.traded;
    cost = g.cost;
    beyond = λ a i l.
        ⊎_elim
        (λ (z : i ≡ w.settling). put-here i w.settling (pos 0) ((s.rows a).lots i) z)
        (λ (z : i ≡ w.settling → ⊥). put-there i w.settling (pos 0) ((s.rows a).lots i) z ∙ g.beyond a i l)
        (cases_eq i w.settling);
    repriced = λ i x q.
        ⊎_elim
        (λ (z : i ≡ w.settling). absurd (some-none None x (sym (put-here i w.settling None (s.market.repriced i) z) ∙ q) refl))
        (λ (z : i ≡ w.settling → ⊥).
        let r = g.repriced i x (sym (put-there i w.settling None (s.market.repriced i) z) ∙ q) in
        (r.0, λ y. r.1 (sym (put-there i w.settling None (s.market.last i) z) ∙ y)))
        (cases_eq i w.settling);
  }

  keeps-close : (room : ℕ) → Keeps w (done w s (Close room))
  keeps-close room = record {
    few = g.few;
    traded = λ a c. omega arith;
    cost = λ a c. omega arith;
    beyond = λ a t l. from_none (source_of w s.market t) (after_parts w s.market (s.rows a)) (no-source w law s g t l (source_of w s.market t) refl);
    repriced = λ t p q. moved-repricing w law s g t p (tradable (w.on (next_day w s.market.day) t)) refl (source_of w s.market t) refl q;
  }

  pub keeps-done : (call : Call) → refusal w s call ≡ None → Keeps w (done w s call)
  keeps-done (Trade buyer seller c n p) q = keeps-trade buyer seller c n p q
  keeps-done (Mark c p) q = keeps-mark c p
  keeps-done (Reprice c p) q = keeps-reprice c p q
  keeps-done (Settle f room) q = keeps-settle f room
  keeps-done (Close room) q = keeps-close room
