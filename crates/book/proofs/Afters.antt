-- What a call leaves, by its answer. Assumes nothing.
use Rattle.std.proofs.Common.{◌≡◌, ℕ, Bool, true, false, cond, not, ◌&&◌, leb, ltb, is_some, ℤ, Some, None, Ok, Err, Option, Result, is_ok, is_err, sym, refl, ap}
use Rattle.ledger.specs.Calls.{refusal, done, after, today, price_fits, lots_fit, cash_fits, by_end, all_rows, after_parts, row_settled, row_closed}
use Rattle.ledger.specs.State.{State}
use Rattle.ledger.specs.Words.{all_below, ask, unless, reply}
use Rattle.ledger.specs.declared.call.Call.{Call}
use Rattle.ledger.specs.declared.call.Call.TheVariants.{Mark, Reprice, Settle, Close}
use Rattle.ledger.specs.declared.fault.Fault.{Fault}
use Rattle.ledger.specs.declared.fault.Fault.TheVariants.{NotTradable, PriceOutOfRange, NotRepriceable, ListTooShort, NothingToSettle, CashOutOfRange, ClassUnpriced, SettlingUnsettled, PartsOutOfRange, NoDayLeft}
use Rattle.std.proofs.lemmas.Bool.{false≢true}
use Rattle.terms.specs.Meaning.{Meaning}

-- an accepted reply refuses nothing
pub replied : {A : Type 0} (o : Option Fault) (x y : A) → reply o x ≡ Ok y → o ≡ None
replied None x y e = refl
replied (Some f) x y e = absurd (false≢true (ap is_ok e))

abbrev err_or : {A : Type 0} → Fault → Result A Fault → Option Fault
err_or g (Ok x) = Some g
err_or g (Err f) = Some f

pub replied-err : {A : Type 0} (o : Option Fault) (x : A) (f : Fault) → reply o x ≡ Err f → o ≡ Some f
replied-err None x f e = absurd (false≢true (ap is_err e))
replied-err (Some g) x f e = ap (err_or g) e

pub accepted : (w : Meaning) (s : State) (call : Call) → refusal w s call ≡ None → after w s call ≡ done w s call
accepted w s call e = ap (λ o. unless o (done w s call) s) e

pub refused : (w : Meaning) (s : State) (call : Call) (f : Fault) → refusal w s call ≡ Some f → after w s call ≡ s
refused w s call f e = ap (λ o. unless o (done w s call) s) e

pub mark-accepted : (w : Meaning) (s : State) (c : ℕ) (p : ℤ) → (today w s).tradable c ≡ true → price_fits p ≡ true → refusal w s (Mark c p) ≡ None
mark-accepted w s c p t f = λ i. ask (t i) NotTradable (ask (f i) PriceOutOfRange None)

pub reprice-accepted : (w : Meaning) (s : State) (c : ℕ) (p : ℤ) → (ltb c w.classes && (not ((today w s).tradable c) && is_some (s.market.last c))) ≡ true → price_fits p ≡ true → refusal w s (Reprice c p) ≡ None
reprice-accepted w s c p t f = λ i. ask (t i) NotRepriceable (ask (f i) PriceOutOfRange None)

pub settle-asked : (w : Meaning) (s : State) (f : ℤ) (room : ℕ) (b : Bool) → leb s.made.accounts room ≡ true → is_some (s.market.last w.settling) ≡ true → price_fits f ≡ true → all_rows s (λ r. cash_fits (row_settled (today w s) s.market f r).cash) ≡ b → refusal w s (Settle f room) ≡ ask b CashOutOfRange None
settle-asked w s f room b e1 e2 e3 e4 = λ i. ask (e1 i) ListTooShort (ask (e2 i) NothingToSettle (ask (e3 i) PriceOutOfRange (ask (e4 i) CashOutOfRange None)))

pub close-asked : (w : Meaning) (s : State) (room : ℕ) (b : Bool) → leb s.made.accounts room ≡ true → all_below w.classes (λ c. cond ((today w s).tradable c) (is_some (s.market.today c)) true) ≡ true → cond (today w s).taken_over (not (is_some (s.market.last w.settling))) true ≡ true → all_rows s (λ r. all_below w.classes (λ c. lots_fit (after_parts (today w s) r c))) ≡ true → by_end (today w s).next ≡ true → all_rows s (λ r. cash_fits (row_closed (today w s) s.market r).cash) ≡ b → refusal w s (Close room) ≡ ask b CashOutOfRange None
close-asked w s room b e1 e2 e3 e4 e5 e6 = λ i. ask (e1 i) ListTooShort (ask (e2 i) ClassUnpriced (ask (e3 i) SettlingUnsettled (ask (e4 i) PartsOutOfRange (ask (e5 i) NoDayLeft (ask (e6 i) CashOutOfRange None)))))

-- no other class succeeds to the settling class while that one has a last price
pub not-unsettled : (t o : Bool) → (t && o) ≡ false → cond t (not o) true ≡ true
not-unsettled true true e = sym e
not-unsettled true false e = refl
not-unsettled false o e = refl
