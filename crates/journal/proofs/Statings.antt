-- The figures of a book that a history reached are those of the law. Assumes nothing.
use Rattle.std.proofs.Common.{◌≡◌, ℕ, ◌≤◌, pos, ◌-ℤ◌, ◌*ℤ◌, Some, None, Ok, Option, is_ok, refl, ap, arith}
use Rattle.std.proofs.lemmas.Bool.{false≢true}
use Rattle.amounts.proofs.Sums.{sum_same}
use Rattle.amounts.specs.SumsOfWhole.{sum_z, if_z}
use Rattle.history.specs.Told.{Told}
use Rattle.history.specs.declared.reading.Reading.{Reading}
use Rattle.journal.specs.Figures.{held_in, last_in, final_in}
use Rattle.ledger.proofs.Standing.{stands-now}
use Rattle.ledger.specs.History.{History, day_after}
use Rattle.ledger.specs.Ledger.{Life, Stands, held, at_last, at_final}
use Rattle.ledger.specs.State.{State}
use Rattle.ledger.specs.Words.{reply, or_zero}
use Rattle.ledger.specs.declared.fault.Fault.{Fault}
use Rattle.std.proofs.Math.IntN.{ℤ_set}
use Rattle.std.proofs.Math.Logic.{∥∥₁_elim}
use Rattle.std.proofs.Math.Nat.{ℕ_set}
use Rattle.terms.specs.Meaning.{Meaning, has, class_quantity}

-- what is answered is refused by no question
pub answered : {A : Type 0} (o : Option Fault) (x y : A) → reply o x ≡ Ok y → o ≡ None
answered None x y e = refl
answered (Some f) x y e = absurd (false≢true (ap is_ok e))

module _ (w : Meaning) (h : History) (s : State) (lived : ∥ Life w h s ∥₁) where
  day-is : s.market.day ≡ day_after w s.made.month h
  day-is = ∥∥₁_elim lived (ℕ_set _ _) (λ l. (stands-now w s.made h s l.always).agrees.day)

  pub held-is : (a m : ℕ) → sum_z w.classes (held_in w s a m) ≡ held w h s a m
  held-is a m = λ i. sum_z w.classes (λ c. if_z (has (w.on (day-is i) c) m) ((s.rows a).lots c))

  module _ (r : Reading) (a : ℕ) (told : Told w s.made.month h a r) where
    now : Stands w h s → w.classes ≤ 12 → sum_z w.classes (last_in w s r a) ≡ at_last w h s a
    now stands twelve = sum_same w.classes _ _ (λ c l. λ i. ((s.rows a).lots c -ℤ told.since c (omega arith) i) *ℤ (pos (class_quantity w (w.on (stands.agrees.day i) c)) *ℤ or_zero (stands.agrees.last c i)))

    pub at-last-is : w.classes ≤ 12 → sum_z w.classes (last_in w s r a) ≡ at_last w h s a
    at-last-is twelve = ∥∥₁_elim lived (ℤ_set _ _) (λ l. now (stands-now w s.made h s l.always) twelve)

    pub at-final-is : sum_z 1200 (final_in w r) ≡ at_final w h s a
    at-final-is = sum_same 1200 _ _ (λ m l. λ i. told.nets m l i *ℤ (pos (w.quantity m) *ℤ or_zero (told.finals m l i)))
