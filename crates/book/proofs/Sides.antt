-- The two sides of a trade. Assumes nothing.
use Rattle.std.proofs.Common.{◌≡◌, ℕ, cond, eqb, Bool, true, false, ℤ, pos, ◌+ℤ◌, neg_ℤ, sym, ap, ◌∙◌, ⊎_elim, arith}
use lib.IntN.{zero-*ℤ}
use Rattle.amounts.proofs.Sums.{hit, miss}
use Rattle.amounts.specs.SumsOfWhole.{if_z}
use Rattle.ledger.proofs.Tests.{put-here, put-there}
use Rattle.ledger.specs.Calls.{row_traded}
use Rattle.ledger.specs.State.{Row}
use Rattle.ledger.specs.Words.{share}
use Rattle.std.proofs.lemmas.Bool.{cases_eq}
use Rattle.std.proofs.lemmas.Int.{ints}

if_none : (b : Bool) (y : ℤ) → y +ℤ if_z b (pos 0) ≡ y
if_none true y = omega (arith, ints)
if_none false y = omega (arith, ints)

-- a trade of no lots
none-traded : (c : ℕ) (p : ℤ) (r : Row) → row_traded c p (pos 0) r ≡ r
none-traded c p r = λ i. record {
  lots = λ k. if_none (eqb k c) (r.lots k) i;
  traded = λ k. if_none (eqb k c) (r.traded k) i;
  cost = λ k. (ap (λ v. r.cost k +ℤ if_z (eqb k c) v) (zero-*ℤ p) ∙ if_none (eqb k c) (r.cost k)) i;
  cash = r.cash;
}

-- where one row was changed, another one is as it was
pub untouched : (a b : ℕ) (r : Row) (f g : ℕ → Row) → (a ≡ b → ⊥) → ((k : ℕ) → g k ≡ cond (eqb k a) r (f k)) → g b ≡ f b
untouched a b r f g apart e = e b ∙ put-there b a r (f b) (λ q. apart (sym q))

-- tables of rows before a trade, after the buyer took lots, and after the seller did
module _ (buyer seller c : ℕ) (n p : ℤ) (apart : buyer ≡ seller → ⊥) (f g h : ℕ → Row) (bought : (a : ℕ) → g a ≡ cond (eqb a buyer) (row_traded c p n (f buyer)) (f a)) where
  pub both-sides : ((a : ℕ) → h a ≡ cond (eqb a seller) (row_traded c p (neg_ℤ n) (g seller)) (g a)) → (a : ℕ) → h a ≡ row_traded c p (share buyer seller n a) (f a)
  both-sides sold a =
      ⊎_elim
      (λ (e : a ≡ seller).
      let s : share buyer seller n a ≡ neg_ℤ n = omega (arith, ints, miss a buyer n (λ q. apart (sym q ∙ e)), hit a seller (neg_ℤ n) e) in
      sold a ∙ put-here a seller (row_traded c p (neg_ℤ n) (g seller)) (g a) e ∙ (λ i. row_traded c p (sym s i) ((untouched buyer seller (row_traded c p n (f buyer)) f g apart bought ∙ ap f (sym e)) i)))
      (λ (ne : a ≡ seller → ⊥).
      sold a ∙ put-there a seller (row_traded c p (neg_ℤ n) (g seller)) (g a) ne ∙ bought a
      ∙ ⊎_elim
      (λ (e : a ≡ buyer).
      let s : share buyer seller n a ≡ n = omega (arith, ints, hit a buyer n e, miss a seller (neg_ℤ n) ne) in
      put-here a buyer (row_traded c p n (f buyer)) (f a) e ∙ (λ i. row_traded c p (sym s i) (f (sym e i))))
      (λ (nb : a ≡ buyer → ⊥).
      let s : share buyer seller n a ≡ pos 0 = omega (arith, ints, miss a buyer n nb, miss a seller (neg_ℤ n) ne) in
      put-there a buyer (row_traded c p n (f buyer)) (f a) nb ∙ sym (ap (λ x. row_traded c p x (f a)) s ∙ none-traded c p (f a)))
      (cases_eq a buyer))
      (cases_eq a seller)
