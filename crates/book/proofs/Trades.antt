-- A trade whose questions were answered yes. Assumes nothing.
use Rattle.std.proofs.Common.{◌≡◌, ℕ, ◌<◌, ◌≤◌, ◌*◌, true, List, length, ℤ, pos, ◌+ℤ◌, ◌-ℤ◌, ◌*ℤ◌, neg_ℤ, nat_abs, None, arith}
use Rattle.amounts.proofs.Ring.{product_le}
use Rattle.arrayvec.proofs.ArrayVecLemmas.{items-with_items}
use Rattle.book.specs.Rows.{Room}
use Rattle.book.specs.declared.account.Account.{Account}
use Rattle.ledger.proofs.Keeping.{price-size}
use Rattle.ledger.proofs.Trading.{may-trade}
use Rattle.ledger.specs.Calls.{lots_fit, refusal}
use Rattle.ledger.specs.Ledger.{Keeps}
use Rattle.ledger.specs.State.{State}
use Rattle.ledger.specs.Words.{within}
use Rattle.ledger.specs.declared.call.Call.TheVariants.{Trade}
use Rattle.std.proofs.lemmas.Int.{ints}
use Rattle.std.specs.List.{refill}
use Rattle.terms.specs.Meaning.{Meaning}

-- a list of accounts that was written through its slice
pub refilled : (xs ys : List Account) → length ys ≡ length xs → refill (length xs) xs ys ≡ ys
refilled xs ys e = items-with_items (record { items = xs }) ys e

lots-size : (x : ℤ) → lots_fit x ≡ true → nat_abs x ≤ 1000
lots-size x h = grind (arith, ints)

few-lots : (n : ℤ) → within (pos 1) (pos 1000) n ≡ true → nat_abs n ≤ 1000
few-lots n h = grind (arith, ints)

-- one trade more fits
more-lots : (x y : ℤ) (n : ℕ) → nat_abs x ≤ 1000 * n → nat_abs y ≤ 1000 → n < 100000 → nat_abs (x +ℤ y) ≤ 100000000
more-lots x y n h k l = omega (arith, ints, h, k, l)

more-cost : (x y : ℤ) (n : ℕ) → nat_abs x ≤ 100000000 * n → nat_abs y ≤ 100000000 → n < 100000 → nat_abs (x +ℤ y) ≤ 10000000000000
more-cost x y n h k l = omega (arith, ints, h, k, l)

module _ (w : Meaning) (s : State) (keeps : Keeps w s) (buyer seller c : ℕ) (n p : ℤ) (q : refusal w s (Trade buyer seller c n p) ≡ None) where
  pub small : (nat_abs n ≤ 1000) × (nat_abs p ≤ 100000)
  small = let may = may-trade w s buyer seller c n p q in (few-lots n may.lots, price-size p may.price)

  room : (a : ℕ) (x : ℤ) → nat_abs x ≤ 1000 → nat_abs ((s.rows a).lots c +ℤ x) ≤ 1000 → Room (s.rows a) c x p
  room a x h k =
      let may = may-trade w s buyer seller c n p q in
      record {
        lots = k;
        traded = more-lots ((s.rows a).traded c) x s.market.accepted (keeps.traded a c) h may.few;
        cost = more-cost ((s.rows a).cost c) (x *ℤ p) s.market.accepted (keeps.cost a c) (product_le x p 1000 100000 h small.1) may.few;
      }

  pub buyer-room : Room (s.rows buyer) c n p
  buyer-room = room buyer n small.0 (lots-size ((s.rows buyer).lots c +ℤ n) (may-trade w s buyer seller c n p q).fit.0)

  pub seller-room : Room (s.rows seller) c (neg_ℤ n) p
  seller-room =
      let h : nat_abs (neg_ℤ n) ≤ 1000 = omega (arith, ints, small.0) in
      room seller (neg_ℤ n) h (lots-size ((s.rows seller).lots c -ℤ n) (may-trade w s buyer seller c n p q).fit.1)
