-- What a call of the book tells. Assumes nothing.
use Rattle.std.proofs.Common.{◌≡◌, ℕ, ◌<◌, List, [], ◌∷◌, length, take, set, drop, ℤ, Some, None, Ok, Err, Option, Result, MatchResult, refl, sym, ap, ◌∙◌, arith}
use Rattle.ledger.specs.Calls.{refusal, paid}
use Rattle.ledger.specs.Questions.{list_after, payment_lines, written}
use Rattle.ledger.specs.State.{State}
use Rattle.ledger.specs.declared.call.Call.{Call}
use Rattle.ledger.specs.declared.call.Call.TheVariants.{Trade, Mark, Reprice, Settle, Close}
use Rattle.ledger.specs.declared.payment.Payment.{Payment}
use Rattle.ledger.specs.Words.{unless, reply as reply_of_book}
use Rattle.ledger.specs.declared.fault.Fault.{Fault}
use Rattle.sheet.specs.Replies.{amounts, told, Tells}
use Rattle.sheet.specs.declared.cause.Cause.{Cause}
use Rattle.std.proofs.lemmas.List.{length-map}
use Rattle.std.proofs.lemmas.List.FromFn.{length-range_with_len}
use Rattle.std.specs.List.{range_with_len}
use Rattle.std.proofs.Math.Seq.{take-append_seam}
use Rattle.terms.specs.Meaning.{Meaning}

lines-long : (n : ℕ) (pays : ℕ → ℤ) → length (payment_lines n pays) ≡ n
lines-long n pays = length-map (range_with_len 0 n) (λ a. record { account = a; cents = pays a }) ∙ length-range_with_len 0 n

module _ (w : Meaning) (s : State) where
  pub settle-long : (k : Call) (f : ℤ) (room : ℕ) → k ≡ Settle f room → s.made.accounts ≡ length (amounts w s k)
  settle-long k f room e = sym (ap (λ k. length (amounts w s k)) e ∙ lines-long s.made.accounts (paid w s (Settle f room)))

  pub close-long : (k : Call) (room : ℕ) → k ≡ Close room → s.made.accounts ≡ length (amounts w s k)
  close-long k room e = sym (ap (λ k. length (amounts w s k)) e ∙ lines-long s.made.accounts (paid w s (Close room)))

  at-head : (n : ℕ) (pays : ℕ → ℤ) (list : List Payment) → take (length (payment_lines n pays)) (written list n pays) ≡ payment_lines n pays
  at-head n pays list = take-append_seam (payment_lines n pays) (drop n list)

  -- where a call is accepted, what it tells stands at the head of the list
  pub told-at-head : (k : Call) (list : List Payment) → refusal w s k ≡ None → take (length (amounts w s k)) (list_after w s k list) ≡ amounts w s k
  told-at-head (Trade buyer seller c n p) list e = refl
  told-at-head (Mark c p) list e = refl
  told-at-head (Reprice c p) list e = refl
  told-at-head (Settle f room) list e =
      ap (λ o. take (length (amounts w s (Settle f room))) (unless o (written list s.made.accounts (paid w s (Settle f room))) list)) e ∙ at-head s.made.accounts (paid w s (Settle f room)) list
  told-at-head (Close room) list e =
      ap (λ o. take (length (amounts w s (Close room))) (unless o (written list s.made.accounts (paid w s (Close room))) list)) e ∙ at-head s.made.accounts (paid w s (Close room)) list

not_refused : (o : Option Fault) (paid amounts : List Payment) → told o paid ≡ Ok amounts → o ≡ None
not_refused None paid amounts e = refl
not_refused (Some f) paid amounts e = absurd cc

-- what the reply tells stands at the head of the list
pub replied : (r : Result ℕ Cause) (o : Option Fault) (paid : List Payment) (count : ℕ) (list : List Payment) → MatchResult r (λ n. (told o paid ≡ Ok paid) × (n ≡ count)) (λ cause. told o paid ≡ Err cause) → (o ≡ None → take count list ≡ paid) → Tells (told o paid) r list
replied (Ok n) o paid count list e head =
    e.0 ∙ ap Ok (sym (ap (λ k. take k list) e.1 ∙ head (not_refused o paid paid e.0)))
replied (Err cause) o paid count list e head = e

-- one amount, which the book answers
pub one_told : (o : Option Fault) (x y : ℤ) (a : ℕ) (list : List Payment) → reply_of_book o x ≡ Ok y → list ≡ record { account = a; cents = y } ∷ [] → told o (record { account = a; cents = x } ∷ []) ≡ Ok list
one_told None x y a list e h = let q : x ≡ y = cc in ap (λ z. Ok (record { account = a; cents = z } ∷ [])) q ∙ ap Ok (sym h)
one_told (Some f) x y a list e h = absurd cc

pub first_set : {A : Type 0} (xs : List A) (x : A) → 0 < length xs → take 1 (set xs 0 x) ≡ x ∷ []
first_set [] x h = absurd (omega arith)
first_set (y ∷ xs) x h = refl
