-- Over all accounts everything sums to zero: what a call makes of the rows it makes of their sum, which holds nothing.
-- Assumes nothing.
use Rattle.std.proofs.Common.{◌≡◌, ℕ, zero, suc, ◌<◌, Bool, eqb, ℤ, pos, ◌+ℤ◌, ◌*ℤ◌, neg_ℤ, None, sym, refl, ap, ◌∙◌, arith}
use lib.IntN.{zero-*ℤ, +ℤ_invr}
use Rattle.amounts.proofs.Sums.{sum-add, sum-right, sum-hit, if-zero, if-sum, sum-zero}
use Rattle.amounts.specs.SumsOfWhole.{sum_z, if_z}
use Rattle.ledger.proofs.Linear.{moved-line, nil-moved}
use Rattle.ledger.proofs.Rules.{more, moved, row_done}
use Rattle.ledger.proofs.Trading.{may-trade}
use Rattle.ledger.specs.Calls.{row_traded, refusal}
use Rattle.ledger.specs.State.{Market, Row, State, nil_row}
use Rattle.ledger.specs.Words.{share}
use Rattle.ledger.specs.declared.call.Call.{Call}
use Rattle.ledger.specs.declared.call.Call.TheVariants.{Trade, Mark, Reprice, Settle, Close}
use Rattle.std.proofs.lemmas.Int.{ints}
use Rattle.terms.specs.Meaning.{Meaning}

-- the sum of the first n rows
pub total : ℕ → (ℕ → Row) → Row
total zero f = nil_row
total (suc n) f = more (pos 1) (f n) (total n f)

one-first : (x y : ℤ) → pos 1 *ℤ x +ℤ y ≡ y +ℤ x
one-first x y = omega (arith, ints)

-- place by place
pub total-is : (n : ℕ) (f : ℕ → Row) → total n f ≡ record { lots = λ c. sum_z n (λ a. (f a).lots c); traded = λ c. sum_z n (λ a. (f a).traded c); cost = λ c. sum_z n (λ a. (f a).cost c); cash = sum_z n (λ a. (f a).cash) }
unfolding total
total-is zero f = refl
total-is (suc n) f =
    ap (more (pos 1) (f n)) (total-is n f)
    ∙ (λ i. record {
      lots = λ c. one-first ((f n).lots c) (sum_z n (λ a. (f a).lots c)) i;
      traded = λ c. one-first ((f n).traded c) (sum_z n (λ a. (f a).traded c)) i;
      cost = λ c. one-first ((f n).cost c) (sum_z n (λ a. (f a).cost c)) i;
      cash = one-first (f n).cash (sum_z n (λ a. (f a).cash)) i;
    })

total-nil : (n : ℕ) → total n (λ a. nil_row) ≡ nil_row
total-nil n = total-is n (λ a. nil_row) ∙ (λ i. record { lots = λ c. sum-zero n i; traded = λ c. sum-zero n i; cost = λ c. sum-zero n i; cash = sum-zero n i })

-- the rows of a book balance
pub record Balanced (s : State) : Type 0 where
  pub nothing : total s.made.accounts s.rows ≡ nil_row

pub new-balanced : (n : ℕ) → total n (λ a. nil_row) ≡ nil_row
new-balanced n = total-nil n

-- ---- a settle and a close

moved-total : (w : Meaning) (k : Market) (call : Call) (n : ℕ) (f : ℕ → Row) → total n (λ a. moved w k call (f a)) ≡ moved w k call (total n f)
unfolding total
moved-total w k call zero f = sym (nil-moved w k call)
moved-total w k call (suc n) f = ap (more (pos 1) (moved w k call (f n))) (moved-total w k call n f) ∙ sym (moved-line w k call (pos 1) (f n) (total n f))

-- ---- a trade

module _ (n buyer seller : ℕ) (x : ℤ) (h : buyer < n) (k : seller < n) where
  -- what the two sides get sums to zero
  share-nil : sum_z n (share buyer seller x) ≡ pos 0
  share-nil = sum-add n (λ a. if_z (eqb a buyer) x) (λ a. if_z (eqb a seller) (neg_ℤ x)) ∙ (λ i. sum-hit n buyer x h i +ℤ sum-hit n seller (neg_ℤ x) k i) ∙ +ℤ_invr x

  share-adds : (t : Bool) (f : ℕ → ℤ) → sum_z n f ≡ pos 0 → sum_z n (λ a. f a +ℤ if_z t (share buyer seller x a)) ≡ pos 0
  share-adds t f z =
      sum-add n f (λ a. if_z t (share buyer seller x a))
      ∙ (λ i. z i +ℤ (sym (if-sum t n (share buyer seller x)) ∙ ap (if_z t) share-nil ∙ if-zero t) i)

  cost-adds : (t : Bool) (p : ℤ) (f : ℕ → ℤ) → sum_z n f ≡ pos 0 → sum_z n (λ a. f a +ℤ if_z t (share buyer seller x a *ℤ p)) ≡ pos 0
  cost-adds t p f z =
      sum-add n f (λ a. if_z t (share buyer seller x a *ℤ p))
      ∙ (λ i. z i +ℤ (sym (if-sum t n (λ a. share buyer seller x a *ℤ p)) ∙ ap (if_z t) (sum-right n (share buyer seller x) p ∙ ap (λ v. v *ℤ p) share-nil ∙ zero-*ℤ p) ∙ if-zero t) i)

  traded-nil : (c : ℕ) (p : ℤ) (f : ℕ → Row) → total n f ≡ nil_row → total n (λ a. row_traded c p (share buyer seller x a) (f a)) ≡ nil_row
  traded-nil c p f e =
      let z = sym (total-is n f) ∙ e in
      total-is n (λ a. row_traded c p (share buyer seller x a) (f a))
      ∙ (λ i. record {
        lots = λ j. share-adds (eqb j c) (λ a. (f a).lots j) (ap (λ (r : Row). r.lots j) z) i;
        traded = λ j. share-adds (eqb j c) (λ a. (f a).traded j) (ap (λ (r : Row). r.traded j) z) i;
        cost = λ j. cost-adds (eqb j c) p (λ a. (f a).cost j) (ap (λ (r : Row). r.cost j) z) i;
        cash = ap (λ (r : Row). r.cash) z i;
      })

-- ---- any accepted call

pub done-balanced : (w : Meaning) (s : State) (call : Call) → refusal w s call ≡ None → Balanced s → total s.made.accounts (λ a. row_done w s.market call a (s.rows a)) ≡ nil_row
done-balanced w s (Trade buyer seller c n p) q b =
    let may = may-trade w s buyer seller c n p q in
    traded-nil s.made.accounts buyer seller n may.buys may.sells c p s.rows b.nothing
done-balanced w s (Mark c p) q b = b.nothing
done-balanced w s (Reprice c p) q b = b.nothing
done-balanced w s (Settle f room) q b = moved-total w s.market (Settle f room) s.made.accounts s.rows ∙ ap (moved w s.market (Settle f room)) b.nothing ∙ nil-moved w s.market (Settle f room)
done-balanced w s (Close room) q b = moved-total w s.market (Close room) s.made.accounts s.rows ∙ ap (moved w s.market (Close room)) b.nothing ∙ nil-moved w s.market (Close room)
