-- What a book's life says of it as it stands, and how it goes on. Assumes nothing.
use Rattle.std.proofs.Common.{◌≡◌, true, not, [], ◌∷◌, is_some, None, Option, sym, ap, subst}
use Rattle.std.proofs.Math.Logic.{∥∥₁_elim, ∥∥₁_map}
use Rattle.std.proofs.Props.{props}
use Rattle.book.specs.Stores.{meaning_in, state_in, terms_in, Ready}
use Rattle.book.specs.declared.store.Store.{Store}
use Rattle.ledger.proofs.Standing.{begins, lives-on, stands-now}
use Rattle.ledger.proofs.Tests.{not-given}
use Rattle.ledger.specs.Calls.{refusal, after}
use Rattle.ledger.specs.Ledger.{Keeps, Life, Lived, LivesOn}
use Rattle.ledger.specs.Make.{make_refusal}
use Rattle.ledger.specs.State.{Made, State, new_state}
use Rattle.ledger.specs.declared.call.Call.{Call}
use Rattle.ledger.specs.declared.fault.Fault.{Fault}
use Rattle.terms.specs.Laws.{Laws}
use Rattle.terms.specs.Meaning.{Meaning}
use Rattle.terms.specs.declared.terms.Terms.{Ghosts}

keeps-prop : (w : Meaning) (s : State) → IsProp (Keeps w s)
keeps-prop w s = hlevel props

-- a book that lived keeps what every book keeps, and its make was accepted
pub lived-keeps : (w : Meaning) (s : State) → ∥ Lived w s ∥₁ → Keeps w s
lived-keeps w s lived = ∥∥₁_elim lived (keeps-prop w s) (λ l. (stands-now w s.made l.history s l.life.always).keeps)

pub lived-made : (w : Meaning) (s : State) → ∥ Lived w s ∥₁ → make_refusal w s.made ≡ None
lived-made w s lived =
    let told : IsProp (not (is_some (make_refusal w s.made)) ≡ true) = hlevel props in
    not-given (make_refusal w s.made) (∥∥₁_elim lived told (λ l. ap (λ (o : Option Fault). not (is_some o)) l.life.made))

-- a call more
pub lived-on : (w : Meaning) (s : State) (call : Call) (t : State) → ∥ Lived w s ∥₁ → LivesOn w s call t → ∥ Lived w t ∥₁
lived-on w s call t lived f = ∥∥₁_map lived (λ l. record { history = record { call = call; answer = refusal w s call } ∷ l.history; life = f l.history l.life })

-- a new store begins a life
pub new-life : {T : Type 0} {g : Ghosts T} (s : Store T g) (terms : T) (m : Made) → Laws (g.meaning terms) → make_refusal (g.meaning terms) m ≡ None → terms_in s ≡ terms → state_in s ≡ new_state (g.meaning terms) m → Life (meaning_in s) [] (state_in s)
new-life {g = g} s terms m law q same e =
    subst (λ x. Life (g.meaning x) [] (state_in s)) (sym same)
    (subst (Life (g.meaning terms) []) (sym e) (begins (g.meaning terms) law m q))

pub lived-new : (w : Meaning) (s : State) → Life w [] s → ∥ Lived w s ∥₁
lived-new w s l = ∣ record { history = []; life = l } ∣₁

-- what a call may rely on of the store of a book
pub ready : {T : Type 0} {g : Ghosts T} (s : Store T g) → ∥ Lived (meaning_in s) (state_in s) ∥₁ → Ready s
ready {g = g} s lived = record {
  keeps = lived-keeps (g.meaning s.dated.terms) (state_in s) lived;
  made = lived-made (g.meaning s.dated.terms) (state_in s) lived;
}

-- a store that a call left as it is defined has lived
pub lived-after : {T : Type 0} {g : Ghosts T} (s t : Store T g) (call : Call) → Laws (meaning_in s) → terms_in t ≡ terms_in s → state_in t ≡ after (meaning_in s) (state_in s) call → ∥ Lived (meaning_in s) (state_in s) ∥₁ → ∥ Lived (meaning_in t) (state_in t) ∥₁
lived-after {g = g} s t call law same e lived =
    subst (λ x. ∥ Lived (g.meaning x) (state_in t) ∥₁) (sym same)
    (lived-on (g.meaning s.dated.terms) (state_in s) call (state_in t) lived (lives-on (g.meaning s.dated.terms) law (state_in s) call (state_in t) e))
