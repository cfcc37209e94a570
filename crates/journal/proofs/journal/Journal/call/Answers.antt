use Rattle.std.proofs.Common.{◌≡◌, [], ◌∷◌, length, reverse, IsOk, sym, ap, subst, arith, length-append}
use Rattle.book.specs.Books.{book_of}
use Rattle.journal.proofs.Notes.{noted-last, lived-more}
use Rattle.journal.specs.Journals.{noted, meaning_of, state_of, refused}
use Rattle.ledger.specs.Ledger.{Life}
use Rattle.journal.proofs.journal.Journal.call.Goals as goal

pub invariant_of-self-2 : goal.invariant_of-self-2
invariant_of-self-2 g c =
    let j = c.args.self.now in
    let call = c.args.call in
    let ok : IsOk c.push.result = c.push.ensures.succeeds (omega (arith, c.in_ok-reserve.ensures.ok)) in
    let last : c.push.new.self.items ≡ noted j call = noted-last j call c.call-answer.result c.entry.result c.push.result c.reserve.new.self.items c.push.new.self.items c.call-answer.ensures.answer c.entry.ensures ok c.reserve.ensures.items c.push.ensures.items in
    record {
      lived = subst (λ t. ∥ Life (g.T.Terms.meaning t) (reverse c.push.new.self.items) (book_of c.call-answer.new.self) ∥₁) (sym c.call-answer.ensures.terms) (lived-more (meaning_of j) j.entries.items c.push.new.self.items (state_of j) (book_of c.call-answer.new.self) call j.lived c.call-answer.ensures.life last);
      few = omega (arith, ap length last, length-append j.entries.items (record { call = call; answer = refused j call } ∷ []), c.if-len-ge-MOST_CALLS.false, c.len.ensures);
    }

pub returns-clause-entries : goal.returns-clause-entries
returns-clause-entries g c =
    let ok : IsOk c.push.result = c.push.ensures.succeeds (omega (arith, c.in_ok-reserve.ensures.ok)) in
    noted-last c.args.self.now c.args.call c.call-answer.result c.entry.result c.push.result c.reserve.new.self.items c.push.new.self.items c.call-answer.ensures.answer c.entry.ensures ok c.reserve.ensures.items c.push.ensures.items
