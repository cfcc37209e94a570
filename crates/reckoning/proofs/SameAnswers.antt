-- Two books over the same terms that were handed the same calls gave the same answers. Assumes nothing.
use Rattle.std.proofs.Common.{◌≡◌, ℕ, true, eqb, List, [], ◌∷◌, ◌++◌, map, reverse, length, get_or, drop, Some, None, Option, refl, sym, ap, ◌∙◌, subst, arith}
use Rattle.coded.specs.declared.class_line.ClassLine.{ClassLine}
use Rattle.ledger.proofs.Standing.{was-reached}
use Rattle.ledger.specs.Calls.{refusal, done, after}
use Rattle.ledger.specs.History.{History}
use Rattle.ledger.specs.Ledger.{Reached, Life}
use Rattle.ledger.specs.Make.{made_of}
use Rattle.ledger.specs.State.{Made, State, new_state}
use Rattle.ledger.specs.Words.{unless}
use Rattle.ledger.specs.declared.call.Call.{Call}
use Rattle.ledger.specs.declared.call.Call.TheVariants.{Trade, Mark, Reprice, Settle, Close}
use Rattle.ledger.specs.declared.entry.Entry.{Entry}
use Rattle.ledger.specs.declared.fault.Fault.{Fault}
use Rattle.reckoning.specs.Again.{answer_number, differing, Again}
use Rattle.std.proofs.Math.Logic.{∥∥₁_elim}
use Rattle.std.proofs.Math.Nat.{ℕ_set}
use Rattle.std.proofs.lemmas.List.{reverse-append, reverse-reverse, map-append}
use Rattle.terms.specs.Meaning.{Meaning}

-- a state without the class lines, of which no call and no answer speaks
abbrev unlined : Made → Made
unlined m = record m { lines = [] }

abbrev bare : State → State
bare s = record s { made = unlined s.made }

bare-refusal : (w : Meaning) (s : State) (call : Call) → refusal w (bare s) call ≡ refusal w s call
bare-refusal w s (Trade buyer seller c n p) = refl
bare-refusal w s (Mark c p) = refl
bare-refusal w s (Reprice c p) = refl
bare-refusal w s (Settle f room) = refl
bare-refusal w s (Close room) = refl

bare-unless : (o : Option Fault) (s t : State) → bare (unless o s t) ≡ unless o (bare s) (bare t)
bare-unless None s t = refl
bare-unless (Some f) s t = refl

bare-after : (w : Meaning) (s : State) (call : Call) → bare (after w s call) ≡ after w (bare s) call
bare-after w s call =
    bare-unless (refusal w s call) (done w s call) s ∙ ap (λ o. unless o (done w (bare s) call) (bare s)) (sym (bare-refusal w s call))

abbrev pub calls : List Entry → List Call
calls = map (λ e. e.call)

module _ (w w' : Meaning) (m m' : Made) (terms : w ≡ w') (begun : unlined m ≡ unlined m') where
  same-answers : (h h' : History) (s s' : State) → Reached w m h s → Reached w' m' h' s' → calls h ≡ calls h' → (h ≡ h') × (bare s ≡ bare s')
  same-answers [] [] s s' r r' q = (refl, ap bare r ∙ (λ i. new_state (terms i) (begun i)) ∙ sym (ap bare r'))
  same-answers [] (e' ∷ h') s s' r r' q = absurd (omega (arith, ap length q))
  same-answers (e ∷ h) [] s s' r r' q = absurd (omega (arith, ap length q))
  same-answers (e ∷ h) (e' ∷ h') s s' r r' q =
      let before = same-answers h h' r.0 r'.0 r.1 r'.1 (ap (drop 1) q) in
      let call : e.call ≡ e'.call = ap (λ (ks : List Call). get_or ks 0 e.call) q in
      let answer : e.answer ≡ e'.answer =
      r.2 ∙ sym (bare-refusal w r.0 e.call) ∙ (λ i. refusal (terms i) (before.1 i) (call i)) ∙ bare-refusal w' r'.0 e'.call ∙ sym r'.2 in (
        λ i. record { call = call i; answer = answer i } ∷ before.0 i,
        ap bare r.3 ∙ bare-after w r.0 e.call ∙ (λ i. after (terms i) (before.1 i) (call i)) ∙ sym (ap bare r'.3 ∙ bare-after w' r'.0 e'.call),
      )

calls-reverse : (xs : List Entry) → calls (reverse xs) ≡ reverse (calls xs)
calls-reverse [] = refl
calls-reverse (x ∷ xs) =
    ap calls (reverse-append (x ∷ []) xs) ∙ map-append (λ e. e.call) (reverse xs) (x ∷ [])
    ∙ ap (λ (ks : List Call). ks ++ x.call ∷ []) (calls-reverse xs)
    ∙ sym (reverse-append (x.call ∷ []) (calls xs))

same-as-itself : (n : ℕ) → eqb n n ≡ true
same-as-itself n = search arith

none-differing : (xs : List Entry) → differing xs xs ≡ 0
none-differing [] = refl
none-differing (x ∷ xs) = rw (same-as-itself (answer_number x.answer)) (none-differing xs)

-- over terms of the same meaning, from the same month and with as many accounts, no answer differs
pub none-differs : (w w' : Meaning) (month : ℕ) (lines : List ClassLine) (items : List Entry) (s : State) (n : ℕ) → w ≡ w' → month ≡ s.made.month → ∥ Again w (made_of month s.made.accounts lines) items n ∥₁ → ∥ Life w' (reverse items) s ∥₁ → n ≡ 0
none-differs w w' month lines items s n terms start again lived =
    ∥∥₁_elim again (ℕ_set _ _) (λ a. ∥∥₁_elim lived (ℕ_set _ _) (λ l.
    let m = made_of month s.made.accounts lines in
    let begun : unlined m ≡ unlined s.made = λ i. record { month = start i; accounts = s.made.accounts; lines = [] } in
    let reached : Reached w m (reverse a.entries) a.state = subst (λ m. Reached w m (reverse a.entries) a.state) a.made (was-reached w a.state.made (reverse a.entries) a.state a.life.always) in
    let e = same-answers w w' m s.made terms begun (reverse a.entries) (reverse items) a.state s reached (was-reached w' s.made (reverse items) s l.always) (calls-reverse a.entries ∙ ap reverse a.calls ∙ sym (calls-reverse items)) in
    let same : a.entries ≡ items = sym (reverse-reverse a.entries) ∙ ap reverse e.0 ∙ reverse-reverse items in
    a.count ∙ ap (differing items) same ∙ none-differing items))
