-- A call that is noted. Assumes nothing.
use Rattle.std.proofs.Common.{◌≡◌, List, [], ◌∷◌, ◌++◌, reverse, Some, None, Ok, Err, Option, Result, is_ok, IsOk, if◌then◌else◌, refl, sym, ap, ◌∙◌, subst}
use Rattle.std.proofs.lemmas.Bool.{false≢true}
use Rattle.journal.specs.Journals.{entries_of, refused, noted}
use Rattle.journal.specs.declared.journal.Journal.{Journal}
use Rattle.ledger.specs.Calls.{refusal}
use Rattle.ledger.specs.History.{History}
use Rattle.ledger.specs.Ledger.{Life, LivesOn}
use Rattle.ledger.specs.State.{State}
use Rattle.ledger.specs.Words.{reply}
use Rattle.ledger.specs.declared.call.Call.{Call}
use Rattle.ledger.specs.declared.entry.Entry.{Entry}
use Rattle.ledger.specs.declared.fault.Fault.{Fault}
use Rattle.std.proofs.lemmas.List.{reverse-append}
use Rattle.std.proofs.Math.Logic.{∥∥₁_map}
use Rattle.std.specs.Result.{result_err}
use Rattle.terms.specs.Meaning.{Meaning}
use Rattle.terms.specs.declared.terms.Terms.{Ghosts}

-- with room for it a note is made
when_ok : {X E Y : Type 0} (r : Result X E) (a b : Y) → IsOk r → (if is_ok r then a else b) ≡ a
when_ok (Ok x) a b h = refl
when_ok (Err e) a b h = absurd (false≢true h)

told : (r : Result (Unit {0}) Fault) (o : Option Fault) → r ≡ reply o tt → result_err r ≡ o
told r None e = ap result_err e
told r (Some f) e = ap result_err e

-- the entries, as they were after room was made and then after the note was put behind them
pub noted-last : {T : Type 0} {g : Ghosts T} {X E : Type 0} (j : Journal T g) (call : Call) (reply_of : Result (Unit {0}) Fault) (e : Entry) (push : Result X E) (items items' : List Entry) → reply_of ≡ reply (refused j call) tt → e ≡ record { call = call; answer = result_err reply_of } → IsOk push → items ≡ entries_of j → items' ≡ (if is_ok push then items ++ e ∷ [] else items) → items' ≡ noted j call
noted-last j call r e push items items' answer note ok room pushed =
    let n : e ≡ record { call = call; answer = refused j call } = note ∙ (λ i. record { call = call; answer = told r (refused j call) answer i }) in
    pushed ∙ when_ok push (items ++ e ∷ []) items ok ∙ (λ i. room i ++ n i ∷ [])

-- the book lives on, with the call and its answer at the end of the entries
pub lived-more : (w : Meaning) (items items' : List Entry) (s t : State) (call : Call) → ∥ Life w (reverse items) s ∥₁ → LivesOn w s call t → items' ≡ items ++ record { call = call; answer = refusal w s call } ∷ [] → ∥ Life w (reverse items') t ∥₁
lived-more w items items' s t call lived on e =
    ∥∥₁_map lived (λ l. subst (λ (h : History). Life w h t) (sym (ap reverse e ∙ reverse-append items (record { call = call; answer = refusal w s call } ∷ []))) (on (reverse items) l))
