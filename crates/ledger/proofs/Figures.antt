-- The figures of a history, and how a call changes them. Assumes nothing.
use Rattle.std.proofs.Common.{◌≡◌, ℕ, cond, ◌&&◌, eqb, ◌∷◌, ℤ, pos, ◌+ℤ◌, ◌*ℤ◌, Some, None, Option, refl, ◌∙◌}
use Rattle.amounts.specs.SumsOfWhole.{if_z}
use Rattle.terms.specs.Meaning.{Meaning, has, class_quantity}
use Rattle.ledger.specs.Words.{share}
use Rattle.ledger.specs.declared.entry.Entry.{Entry}
use Rattle.ledger.specs.History.{History, accepted, is_close, day_after, month_lots, class_lots, at_cost, final_of, first_of, net, since, costs, booked, final}
use Rattle.ledger.specs.declared.call.Call.{Call}
use Rattle.ledger.specs.declared.call.Call.TheVariants.{Trade, Mark, Reprice, Settle, Close}
use Rattle.ledger.specs.declared.fault.Fault.{Fault}
use Rattle.ledger.proofs.Sums.{plus_none}

pub record Figures : Type 0 where
  pub net : ℕ → ℕ → ℤ
  pub since : ℕ → ℕ → ℤ
  pub costs : ℕ → ℤ
  pub booked : ℕ → ℤ
  pub final : ℕ → Option ℤ

abbrev pub figures_of : Meaning → ℕ → History → Figures
figures_of w start h = record { net = net w start h; since = since w start h; costs = costs w start h; booked = booked w start h; final = final w start h }

-- what one accepted call on a day makes of them
abbrev pub told : Meaning → ℕ → Figures → Call → Figures
told w d F (Trade buyer seller c n p) = record {
  net = λ a m. F.net a m +ℤ if_z (has (w.on d c) m) (share buyer seller n a);
  since = λ a i. F.since a i +ℤ if_z (eqb i c) (share buyer seller n a);
  costs = λ a. F.costs a +ℤ pos (class_quantity w (w.on d c)) *ℤ (share buyer seller n a *ℤ p);
  booked = F.booked;
  final = F.final;
}
told w d F (Mark c p) = F
told w d F (Reprice c p) = F
told w d F (Settle f room) = record {
  net = F.net;
  since = F.since;
  costs = F.costs;
  booked = F.booked;
  final = λ m. first_of (cond (has (w.on d w.settling) m) (Some f) None) (F.final m);
}
told w d F (Close room) = record { net = F.net; since = λ a c. pos 0; costs = F.costs; booked = F.costs; final = F.final }

-- one entry, as the history has it
abbrev entered : Meaning → ℕ → Figures → Option Fault → Call → Figures
entered w d F o k = record {
  net = λ a m. F.net a m +ℤ if_z (accepted o) (month_lots w d k a m);
  since = λ a c. cond (accepted o && is_close k) (pos 0) (F.since a c +ℤ if_z (accepted o) (class_lots k a c));
  costs = λ a. F.costs a +ℤ if_z (accepted o) (at_cost w d k a);
  booked = λ a. cond (accepted o && is_close k) (F.costs a) (F.booked a);
  final = λ m. first_of (cond (accepted o) (final_of w d k m) None) (F.final m);
}

figures-enter : (w : Meaning) (start : ℕ) (e : Entry) (h : History) → figures_of w start (e ∷ h) ≡ entered w (day_after w start h) (figures_of w start h) e.answer e.call
unfolding net since costs booked final
figures-enter w start e h = refl

pub plus-zero : (x : ℤ) → x +ℤ pos 0 ≡ x
plus-zero x = plus_none x (pos 0) refl

-- nothing is added
still : (F : Figures) → ◌≡◌ {A = Figures} (record { net = λ a m. F.net a m +ℤ pos 0; since = λ a c. F.since a c +ℤ pos 0; costs = λ a. F.costs a +ℤ pos 0; booked = F.booked; final = F.final }) F
still F = λ i. record { net = λ a m. plus-zero (F.net a m) i; since = λ a c. plus-zero (F.since a c) i; costs = λ a. plus-zero (F.costs a) i; booked = F.booked; final = F.final }

entered-accepted : (w : Meaning) (d : ℕ) (F : Figures) (k : Call) → entered w d F None k ≡ told w d F k
entered-accepted w d F (Trade buyer seller c n p) = refl
entered-accepted w d F (Mark c p) = still F
entered-accepted w d F (Reprice c p) = still F
entered-accepted w d F (Settle f room) = λ i. record { net = (still F i).net; since = (still F i).since; costs = (still F i).costs; booked = F.booked; final = (told w d F (Settle f room)).final }
entered-accepted w d F (Close room) = λ i. record { net = (still F i).net; since = λ a c. pos 0; costs = (still F i).costs; booked = F.costs; final = F.final }

pub figures-accepted : (w : Meaning) (start : ℕ) (e : Entry) (h : History) (d : ℕ) → day_after w start h ≡ d → e.answer ≡ None → figures_of w start (e ∷ h) ≡ told w d (figures_of w start h) e.call
figures-accepted w start e h d p q = figures-enter w start e h ∙ (λ i. entered w (p i) (figures_of w start h) (q i) e.call) ∙ entered-accepted w d (figures_of w start h) e.call

pub figures-refused : (w : Meaning) (start : ℕ) (e : Entry) (h : History) (f : Fault) → e.answer ≡ Some f → figures_of w start (e ∷ h) ≡ figures_of w start h
figures-refused w start e h f q = figures-enter w start e h ∙ (λ i. entered w (day_after w start h) (figures_of w start h) (q i) e.call) ∙ still (figures_of w start h)
