use Rattle.std.proofs.Common.{◌≡◌, IfOk, subst, to_z, of_z}
use mir.Syntax.{w32}
use Rattle.book.specs.Books.{book_of}
use Rattle.journal.specs.Journals.{terms_of, state_of}
use Rattle.ledger.specs.State.{State}
use Rattle.life.specs.DayCalls.{day_calls}
use Rattle.std.proofs.lemmas.Int.{to_z-of_z}
use Rattle.life.proofs.day_calls.day_calls.Goals as goal

pub returns : goal.returns
returns g c =
    let j = c.args.desk.now.journal in
    let price = to_z w32 (of_z w32 c.args.price) in
    let over = subst (λ terms. IfOk c.calls_on.result (λ calls. calls.items ≡ day_calls (g.T.Terms.meaning terms) (book_of c.book.result.now) price)) c.book.ensures.terms c.calls_on.ensures in
    let on = subst (λ (s : State). IfOk c.calls_on.result (λ calls. calls.items ≡ day_calls (g.T.Terms.meaning (terms_of j)) s price)) c.book.ensures.state over in
    subst (λ p. IfOk c.calls_on.result (λ calls. calls.items ≡ day_calls (g.T.Terms.meaning (terms_of j)) (state_of j) p)) (to_z-of_z w32 c.args.price c.ranges.price) on
