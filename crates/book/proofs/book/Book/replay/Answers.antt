use Rattle.std.proofs.Common.{◌≡◌, ◌+◌, map, reverse, get_or, take, set, pos, None, refl, ap, ◌∙◌, subst, sym, arith}
use lib.Seq.{map-set_same}
use Rattle.book.proofs.Replays.{one-more}
use Rattle.book.specs.Books.{book_of, meaning_of}
use Rattle.ledger.proofs.Standing.{same-made}
use Rattle.ledger.specs.Calls.{after, refusal}
use Rattle.ledger.specs.Ledger.{Life}
use Rattle.ledger.specs.State.{State}
use Rattle.ledger.specs.declared.call.Call.TheVariants.{Trade}
use Rattle.ledger.specs.declared.entry.Entry.{Entry}
use Rattle.terms.specs.Meaning.{Meaning}
use Rattle.book.proofs.book.Book.replay.Goals as goal

pub loop-entry-preserved : goal.loop-entry-preserved
loop-entry-preserved g c =
    let i = c.loop-entry.entry-index in
    let es = c.loop-entry.entries in
    let so_far = c.loop-entry.invariant in
    let b = c.in_ok-book.book in
    let w = meaning_of b in
    let s = book_of c.loop-entry.book in
    let t = book_of c.enter.new.self in
    let same = ap g.T.Terms.meaning so_far.terms in
    let none : Entry = record { call = Trade 0 0 0 (pos 0) (pos 0); answer = None } in
    let k = (get_or es i none).call in
    let e : Entry = record { call = k; answer = refusal (meaning_of c.loop-entry.book) s k } in
    let told = c.enter.ensures.entry in
    let left : t ≡ after w s k = c.enter.ensures.after ∙ ap (λ (w : Meaning). after w s k) same in
    record {
      life = subst (λ (x : Entry). Life w (reverse (take (i + 1) (set es i x))) t) (sym told) (one-more w (g.met.T.Terms.lawful b.store.dated.terms) es i s t e (omega arith) so_far.life (ap (λ (w : Meaning). refusal w s k) same) left);
      terms = c.enter.ensures.terms ∙ so_far.terms;
      made = ap (λ (s : State). s.made) left ∙ same-made w s k ∙ so_far.made;
      calls = ap (λ (x : Entry). map (λ (e : Entry). e.call) (set es i x)) told ∙ map-set_same (λ (e : Entry). e.call) es i e none refl ∙ so_far.calls;
    }
