-- Calls that write into the first lines of a list, and lists of calls. Assumes nothing.
use Rattle.std.proofs.Common.{◌≡◌, ℕ, ◌+◌, ◌<◌, ◌≤◌, min, leb, List, [], ◌∷◌, ◌++◌, reverse, length, take, drop, append_assoc, set, ℤ, Some, None, Option, sym, refl, ap, ◌∙◌, subst, ⊎_elim, arith}
use Rattle.ledger.proofs.Standing.{lives-on}
use Rattle.ledger.proofs.Tests.{ask-none}
use Rattle.ledger.specs.Calls.{refusal, done, after, paid}
use Rattle.ledger.specs.Ledger.{Life}
use Rattle.ledger.specs.Questions.{list_after, payment_lines, written}
use Rattle.ledger.specs.State.{State}
use Rattle.ledger.specs.Words.{unless}
use Rattle.ledger.specs.declared.call.Call.{Call}
use Rattle.ledger.specs.declared.call.Call.TheVariants.{Settle, Close}
use Rattle.ledger.specs.declared.entry.Entry.{Entry}
use Rattle.ledger.specs.declared.fault.Fault.{Fault}
use Rattle.ledger.specs.declared.payment.Payment.{Payment}
use Rattle.std.proofs.lemmas.List.{length-take, reverse-append, take_more_set, take-append-drop, drop-append-le}
use Rattle.std.proofs.lemmas.Bool.{cases_lt, le-leb, leb-true, lt-leb}
use Rattle.terms.specs.Laws.{Laws}
use Rattle.terms.specs.Meaning.{Meaning}

-- ---- the first lines of a list

-- a call on the first n lines of a list is as good as another one on the whole list
pub record Serves (w : Meaning) (s : State) (xs : List Payment) (n : ℕ) (part whole : Call) : Type 0 where
  pub answer : refusal w s part ≡ refusal w s whole
  pub left : after w s part ≡ after w s whole
  pub list : list_after w s part (take n xs) ++ drop n xs ≡ list_after w s whole xs

-- what is written into the first n lines of a list is written into the list
part-written : (n count : ℕ) (xs : List Payment) (pays : ℕ → ℤ) → count ≤ length (take n xs) → written (take n xs) count pays ++ drop n xs ≡ written xs count pays
part-written n count xs pays h =
    append_assoc (payment_lines count pays) (drop count (take n xs)) (drop n xs)
    ∙ ap (λ (l : List Payment). payment_lines count pays ++ l) (sym (drop-append-le count (take n xs) (drop n xs) h) ∙ ap (drop count) (take-append-drop n xs))

part-list : (o : Option Fault) (n count : ℕ) (xs : List Payment) (pays : ℕ → ℤ) → (o ≡ None → count ≤ length (take n xs)) → unless o (written (take n xs) count pays) (take n xs) ++ drop n xs ≡ unless o (written xs count pays) xs
part-list None n count xs pays h = part-written n count xs pays (h refl)
part-list (Some f) n count xs pays h = take-append-drop n xs

module _ (w : Meaning) (s : State) (n room : ℕ) (xs : List Payment) (e : n ≡ min room 32) (long : length xs ≡ 32) (few : s.made.accounts ≤ 32) where
  abbrev count : ℕ
  count = s.made.accounts

  abbrev first : ℕ
  first = length (take n xs)

  -- 32 lines are as good as more
  same-room : leb count first ≡ leb count room
  same-room =
      let l = length-take n xs in
      ⊎_elim
      (λ (h : room < count). lt-leb count first (omega (arith, l)) ∙ sym (lt-leb count room h))
      (λ (h : count ≤ room). le-leb count first (omega (arith, l)) ∙ sym (le-leb count room h))
      (cases_lt room count)

  pub close-serves : Serves w s xs n (Close first) (Close room)
  close-serves =
      let same : refusal w s (Close first) ≡ refusal w s (Close room) = rw same-room in
      record {
        answer = same;
        left = ap (λ o. unless o (done w s (Close room)) s) same;
        list =
            part-list (refusal w s (Close first)) n count xs (paid w s (Close room)) (λ r. leb-true count _ (ask-none (leb count first) _ _ r).0)
            ∙ ap (λ o. unless o (written xs count (paid w s (Close room))) xs) same;
      }

  pub settle-serves : (f z : ℤ) → z ≡ f → Serves w s xs n (Settle z first) (Settle f room)
  settle-serves f z e = subst (λ z. Serves w s xs n (Settle z first) (Settle f room)) (sym e) at-price
    where
      same : refusal w s (Settle f first) ≡ refusal w s (Settle f room)
      same = rw same-room

      at-price : Serves w s xs n (Settle f first) (Settle f room)
      at-price = record {
        answer = same;
        left = ap (λ o. unless o (done w s (Settle f room)) s) same;
        list =
            part-list (refusal w s (Settle f first)) n count xs (paid w s (Settle f room)) (λ r. leb-true count _ (ask-none (leb count first) _ _ r).0)
            ∙ ap (λ o. unless o (written xs count (paid w s (Settle f room))) xs) same;
      }

-- a call that writes into no list
pub unwritten : (o : Option Fault) (xs : List Payment) → unless o xs xs ≡ xs
unwritten None xs = refl
unwritten (Some f) xs = refl

-- ---- lists of calls

-- one call more
pub one-more : (w : Meaning) → Laws w → (entries : List Entry) (i : ℕ) (s t : State) (e : Entry) → i < length entries → Life w (reverse (take i entries)) s → e.answer ≡ refusal w s e.call → t ≡ after w s e.call → Life w (reverse (take (i + 1) (set entries i e))) t
one-more w law entries i s t e h life answer left =
    let told : reverse (take (i + 1) (set entries i e)) ≡ e ∷ reverse (take i entries) = ap reverse (take_more_set entries i e h) ∙ reverse-append (take i entries) (e ∷ []) in
    let same : record { call = e.call; answer = refusal w s e.call } ≡ e = λ j. record { call = e.call; answer = sym answer j } in
    subst (λ h. Life w h t) (sym told)
    (subst (λ e'. Life w (e' ∷ reverse (take i entries)) t) same (lives-on w law s e.call t left (reverse (take i entries)) life))
