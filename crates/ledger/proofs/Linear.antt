-- What a call makes of a row is linear in the row. Assumes nothing.
use Rattle.std.proofs.Common.{◌≡◌, ℕ, zero, suc, Bool, true, false, cond, eqb, ℤ, pos, negsuc, ◌+ℤ◌, ◌-ℤ◌, ◌*ℤ◌, Some, None, Option, sym, refl, ap, ◌∙◌, arith}
use lib.IntN.{*ℤ-zero, *ℤ_comm}
use Rattle.amounts.proofs.Ring.{*ℤ-left-distrib, *ℤ-left-sub, *ℤ-assoc}
use Rattle.amounts.specs.SumsOfWhole.{sum_z, if_z}
use Rattle.ledger.specs.Words.{or_zero, from, put}
use Rattle.ledger.specs.declared.call.Call.{Call}
use Rattle.ledger.specs.declared.call.Call.TheVariants.{Trade, Mark, Reprice, Settle, Close}
use Rattle.ledger.specs.State.{Market, Row, nil_row}
use Rattle.ledger.proofs.Rules.{class_on, quantity_on, more, newest, source_of, settle_pay, variation_pay, part_pay, close_pay, after_parts, moved}
use Rattle.std.proofs.lemmas.Int.{ints}
use Rattle.terms.specs.Meaning.{Meaning, tradable, is_part, has_some_part}

-- a figure of a row: x times one row and a further one have x times the figure and the further one's
pub record Linear (L : Row → ℤ) : Type 0 where
  pub line : (x : ℤ) (r s : Row) → L (more x r s) ≡ x *ℤ L r +ℤ L s

none : (x : ℤ) → pos 0 ≡ x *ℤ pos 0 +ℤ pos 0
none x = omega (arith, ints, *ℤ-zero x)

regroup : (u v r s t q : ℤ) → u ≡ r +ℤ s → v ≡ t +ℤ q → u +ℤ v ≡ (r +ℤ t) +ℤ (s +ℤ q)
regroup u v r s t q e f = omega (arith, ints)

regroup-less : (u v r s t q : ℤ) → u ≡ r +ℤ s → v ≡ t +ℤ q → u -ℤ v ≡ (r -ℤ t) +ℤ (s -ℤ q)
regroup-less u v r s t q e f = omega (arith, ints)

pub nil-line : Linear (λ r. pos 0)
nil-line = record { line = λ x r s. none x }

pub plus-line : (L M : Row → ℤ) → Linear L → Linear M → Linear (λ r. L r +ℤ M r)
plus-line L M l m = record {
  line = λ x r s. regroup (L (more x r s)) (M (more x r s)) (x *ℤ L r) (L s) (x *ℤ M r) (M s) (l.line x r s) (m.line x r s) ∙ ap (λ v. v +ℤ (L s +ℤ M s)) (sym (*ℤ-left-distrib x (L r) (M r)));
}

pub minus-line : (L M : Row → ℤ) → Linear L → Linear M → Linear (λ r. L r -ℤ M r)
minus-line L M l m = record {
  line = λ x r s. regroup-less (L (more x r s)) (M (more x r s)) (x *ℤ L r) (L s) (x *ℤ M r) (M s) (l.line x r s) (m.line x r s) ∙ ap (λ v. v +ℤ (L s -ℤ M s)) (sym (*ℤ-left-sub x (L r) (M r)));
}

-- the figure at a price
turned : (q x u : ℤ) → q *ℤ (x *ℤ u) ≡ x *ℤ (q *ℤ u)
turned q x u = sym (*ℤ-assoc q x u) ∙ ap (λ v. v *ℤ u) (*ℤ_comm q x) ∙ *ℤ-assoc x q u

pub times-line : (q : ℤ) (L : Row → ℤ) → Linear L → Linear (λ r. q *ℤ L r)
times-line q L l = record {
  line = λ x r s. ap (λ v. q *ℤ v) (l.line x r s) ∙ *ℤ-left-distrib q (x *ℤ L r) (L s) ∙ ap (λ v. v +ℤ q *ℤ L s) (turned q x (L r));
}

pub at-line : (L : Row → ℤ) (q : ℤ) → Linear L → Linear (λ r. L r *ℤ q)
at-line L q l = record {
  line = λ x r s.
      *ℤ_comm (L (more x r s)) q ∙ (times-line q L l).line x r s
      ∙ (λ i. x *ℤ *ℤ_comm q (L r) i +ℤ *ℤ_comm q (L s) i);
}

pub cond-line : (b : Bool) (L M : Row → ℤ) → Linear L → Linear M → Linear (λ r. cond b (L r) (M r))
cond-line true L M l m = l
cond-line false L M l m = m

pub if-line : (b : Bool) (L : Row → ℤ) → Linear L → Linear (λ r. if_z b (L r))
if-line b L l = cond-line b L (λ r. pos 0) l nil-line

pub sum-line : (n : ℕ) (L : ℕ → Row → ℤ) → ((k : ℕ) → Linear (L k)) → Linear (λ r. sum_z n (λ k. L k r))
sum-line zero L l = nil-line
sum-line (suc n) L l = plus-line (λ r. sum_z n (λ k. L k r)) (L n) (sum-line n L l) (l n)

pub from-line : (o : Option ℕ) (L : ℕ → Row → ℤ) → ((k : ℕ) → Linear (L k)) → Linear (λ r. from o (pos 0) (λ k. L k r))
from-line None L l = nil-line
from-line (Some c) L l = l c

pub lots-line : (c : ℕ) → Linear (λ r. r.lots c)
lots-line c = record { line = λ x r s. refl }

pub traded-line : (c : ℕ) → Linear (λ r. r.traded c)
traded-line c = record { line = λ x r s. refl }

pub cost-line : (c : ℕ) → Linear (λ r. r.cost c)
cost-line c = record { line = λ x r s. refl }

pub cash-line : Linear (λ r. r.cash)
cash-line = record { line = λ x r s. refl }

module _ (w : Meaning) (k : Market) where
  settle-line : (f : ℤ) → Linear (settle_pay w k f)
  settle-line f = at-line _ (f -ℤ or_zero (k.last w.settling)) (times-line (pos (quantity_on w k w.settling)) _ (lots-line w.settling))

  variation-line : (c : ℕ) → Linear (λ r. variation_pay w k r c)
  variation-line c =
      if-line (tradable (class_on w k c)) _
      (times-line (pos (quantity_on w k c)) _
      (minus-line _ _
      (minus-line _ _ (times-line (or_zero (k.today c)) _ (lots-line c)) (times-line (or_zero (k.last c)) _ (minus-line _ _ (lots-line c) (traded-line c))))
      (cost-line c)))

  part-line : (c p : ℕ) → Linear (λ r. part_pay w k r c p)
  part-line c p =
      if-line (is_part (class_on w k c) p) _
      (at-line _ (or_zero (newest w k p) -ℤ or_zero (newest w k c)) (times-line (pos (quantity_on w k p)) _ (lots-line c)))

  pub close-line : Linear (close_pay w k)
  close-line =
      plus-line _ _ (sum-line w.classes (λ c r. variation_pay w k r c) variation-line)
      (sum-line w.classes (λ c r. sum_z w.classes (part_pay w k r c)) (λ c. sum-line w.classes (λ p r. part_pay w k r c p) (part-line c)))

  pub parts-line : (c : ℕ) → Linear (λ r. after_parts w k r c)
  parts-line c =
      cond-line (has_some_part (class_on w k c)) _ _ nil-line
      (plus-line _ _ (lots-line c) (sum-line w.classes (λ e r. if_z (is_part (class_on w k e) c) (r.lots e)) (λ e. if-line (is_part (class_on w k e) c) _ (lots-line e))))

  closed-line : (t : ℕ) → Linear (λ r. from (source_of w k t) (pos 0) (after_parts w k r))
  closed-line t = from-line (source_of w k t) (λ c r. after_parts w k r c) parts-line

  put-line : (c : ℕ) → Linear (λ r. put r.lots w.settling (pos 0) c)
  put-line c = cond-line (eqb c w.settling) _ _ nil-line (lots-line c)

  -- a call makes of x rows and a further one x times what it makes of the row, and of the further one
  pub moved-line : (call : Call) (x : ℤ) (r s : Row) → moved w k call (more x r s) ≡ more x (moved w k call r) (moved w k call s)
  moved-line (Trade buyer seller c n p) x r s = refl
  moved-line (Mark c p) x r s = refl
  moved-line (Reprice c p) x r s = refl
  moved-line (Settle f room) x r s = λ i. record {
    lots = λ c. (put-line c).line x r s i;
    traded = λ c. x *ℤ r.traded c +ℤ s.traded c;
    cost = λ c. x *ℤ r.cost c +ℤ s.cost c;
    cash = (plus-line _ _ cash-line (settle-line f)).line x r s i;
  }
  moved-line (Close room) x r s = λ i. record {
    lots = λ c. (closed-line c).line x r s i;
    traded = λ c. none x i;
    cost = λ c. none x i;
    cash = (plus-line _ _ cash-line close-line).line x r s i;
  }

-- and nothing of nothing
pub less-itself : (x : ℤ) → negsuc 0 *ℤ x +ℤ x ≡ pos 0
less-itself x = omega (arith, ints)

taken-off : (r : Row) → more (negsuc 0) r r ≡ nil_row
taken-off r = λ i. record { lots = λ c. less-itself (r.lots c) i; traded = λ c. less-itself (r.traded c) i; cost = λ c. less-itself (r.cost c) i; cash = less-itself r.cash i }

pub nil-moved : (w : Meaning) (k : Market) (call : Call) → moved w k call nil_row ≡ nil_row
nil-moved w k call = moved-line w k call (negsuc 0) nil_row nil_row ∙ taken-off (moved w k call nil_row)
