-- A book's day, its count of trades, its prices and its last prices are those that its history tells. Assumes nothing.
use Rattle.std.proofs.Common.{◌≡◌, ℕ, ◌+◌, Bool, cond, ◌&&◌, [], ◌∷◌, Some, None, Option, sym, refl, ◌∙◌, arith}
use Rattle.calendars.proofs.Firsts.{none_found}
use Rattle.calendars.specs.Walks.{first_from}
use Rattle.ledger.proofs.Days.{first_found}
use Rattle.ledger.proofs.Rules.{market_done}
use Rattle.ledger.proofs.Tests.{names-true, names-yes}
use Rattle.ledger.proofs.Weights.{source_is, source-here}
use Rattle.ledger.specs.History.{History, accepted, is_trade, is_close, day_after, trade_count, giver, mark_of, last_of, prices, lasts}
use Rattle.ledger.specs.State.{Market, new_market, start_day}
use Rattle.ledger.specs.declared.call.Call.{Call}
use Rattle.ledger.specs.declared.call.Call.TheVariants.{Trade, Mark, Reprice, Settle, Close}
use Rattle.ledger.specs.declared.entry.Entry.{Entry}
use Rattle.ledger.specs.declared.fault.Fault.{Fault}
use Rattle.ledger.specs.Words.{from}
use Rattle.std.proofs.lemmas.Bool.{false≢true}
use Rattle.terms.specs.Day.{next_day, source_below}
use Rattle.terms.specs.Laws.{Laws, names}
use Rattle.terms.specs.Meaning.{Meaning, tradable, successor}

-- the class that hands over to a class is the one that it succeeds
source-is-giver : (w : Meaning) → Laws w → (d t : ℕ) → source_below (λ c. successor (w.on d c)) t w.classes ≡ giver w d t
source-is-giver w law d t = by (giver w d t) refl (source_below next t w.classes) refl
  where
    next : ℕ → Option ℕ
    next c = successor (w.on d c)

    hands : ℕ → Bool
    hands c = names (next c) t

    none : (o : Option ℕ) → source_below next t w.classes ≡ o → first_from hands 0 w.classes ≡ None → o ≡ None
    none None e q = refl
    none (Some c) e q =
        let s = source_is next t w.classes c e in
        absurd (false≢true (sym (none_found hands w.classes 0 q c (omega arith) (omega (arith, s.0))) ∙ names-yes (next c) t s.1))

    by : (o : Option ℕ) → giver w d t ≡ o → (u : Option ℕ) → source_below next t w.classes ≡ u → source_below next t w.classes ≡ giver w d t
    by None e u f = f ∙ none u f e ∙ sym e
    by (Some c) e u f =
        let r = first_found hands w.classes 0 c e in
        let g = names-true (next c) t r.inside in
        source-here next t w.classes c (omega (arith, r.to)) (λ b z. law.apart d c b t g z) g ∙ sym e

pub record Follows (w : Meaning) (start : ℕ) (h : History) (k : Market) : Type 0 where
  pub day : day_after w start h ≡ k.day
  pub count : trade_count h ≡ k.accepted
  pub today : prices w start h ≡ k.today
  pub last : lasts w start h ≡ k.last

pub new-follows : (w : Meaning) (start : ℕ) → Follows w start [] (new_market (start_day w start))
unfolding day_after trade_count prices lasts
new-follows w start = record { day = refl; count = refl; today = refl; last = refl }

-- what an accepted call leaves
module _ (w : Meaning) (k : Market) where
  day-done : (call : Call) → cond (is_close call) (next_day w k.day) k.day ≡ (market_done w k call).day
  day-done (Trade buyer seller c n p) = refl
  day-done (Mark c p) = refl
  day-done (Reprice c p) = refl
  day-done (Settle f room) = refl
  day-done (Close room) = refl

  count-done : (call : Call) → cond (is_trade call) (k.accepted + 1) k.accepted ≡ (market_done w k call).accepted
  count-done (Trade buyer seller c n p) = refl
  count-done (Mark c p) = refl
  count-done (Reprice c p) = refl
  count-done (Settle f room) = refl
  count-done (Close room) = refl

  today-done : (call : Call) → mark_of call k.today ≡ (market_done w k call).today
  today-done (Trade buyer seller c n p) = refl
  today-done (Mark c p) = refl
  today-done (Reprice c p) = refl
  today-done (Settle f room) = refl
  today-done (Close room) = refl

  last_done : Laws w → (call : Call) → last_of w k.day call k.today k.last ≡ (market_done w k call).last
  last_done law (Trade buyer seller c n p) = refl
  last_done law (Mark c p) = refl
  last_done law (Reprice c p) = refl
  last_done law (Settle f room) = refl
  last_done law (Close room) = λ i t. from (sym (source-is-giver w law k.day t) i) None (λ c. cond (tradable (w.on k.day c)) (k.today c) (k.last c))

-- what one entry leaves
module _ (w : Meaning) (start : ℕ) (e : Entry) (h : History) (k : Market) (f : Follows w start h k) where
  pub follows-accepted : Laws w → e.answer ≡ None → Follows w start (e ∷ h) (market_done w k e.call)
  unfolding day_after trade_count prices lasts
  follows-accepted law q = record {
    day = (λ i. cond (accepted (q i) && is_close e.call) (next_day w (f.day i)) (f.day i)) ∙ day-done w k e.call;
    count = (λ i. cond (accepted (q i) && is_trade e.call) (f.count i + 1) (f.count i)) ∙ count-done w k e.call;
    today = (λ i. cond (accepted (q i)) (mark_of e.call (f.today i)) (f.today i)) ∙ today-done w k e.call;
    last = (λ i. cond (accepted (q i)) (last_of w (f.day i) e.call (f.today i) (f.last i)) (f.last i)) ∙ last_done w k law e.call;
  }

  pub follows-refused : (x : Fault) → e.answer ≡ Some x → Follows w start (e ∷ h) k
  unfolding day_after trade_count prices lasts
  follows-refused x q = record {
    day = λ i. cond (accepted (q i) && is_close e.call) (next_day w (f.day i)) (f.day i);
    count = λ i. cond (accepted (q i) && is_trade e.call) (f.count i + 1) (f.count i);
    today = λ i. cond (accepted (q i)) (mark_of e.call (f.today i)) (f.today i);
    last = λ i. cond (accepted (q i)) (last_of w (f.day i) e.call (f.today i) (f.last i)) (f.last i);
  }
