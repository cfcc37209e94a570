use Rattle.std.proofs.Common.{List, ◌++◌, drop, ap, ◌∙◌}
use Rattle.book.proofs.Fresh.{was-accepted}
use Rattle.book.proofs.Lives.{lived-made}
use Rattle.book.proofs.Replays.{close-serves}
use Rattle.book.specs.Books.{book_of, meaning_of}
use Rattle.ledger.specs.Words.{reply}
use Rattle.ledger.specs.declared.payment.Payment.{Payment}
use Rattle.book.proofs.book.Book.close_with.Goals as goal

pub returns : goal.returns
returns g c =
    let b = c.args.self.now in
    let w = meaning_of b in
    let s = book_of b in
    let n = c.min.result in
    let few = (was-accepted w s.made (lived-made w s b.lived)).few in
    let h = close-serves w s n c.args.room c.args.list.now c.min.ensures c.told-list few in
    record {
      answer = c.close.ensures.answer ∙ ap (λ o. reply o tt) h.answer;
      after = c.close.ensures.after ∙ h.left;
      list = ap (λ (l : List Payment). l ++ drop n c.args.list.now) c.close.ensures.list ∙ h.list;
      terms = c.close.ensures.terms;
    }
