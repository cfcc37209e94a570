use Rattle.std.proofs.Common.{sym, ap, ◌∙◌, rules}
use Rattle.book.proofs.Replays.{unwritten}
use Rattle.book.specs.Books.{book_of, meaning_of, listed}
use Rattle.ledger.proofs.Standing.{lives-on}
use Rattle.ledger.specs.Calls.{refusal}
use Rattle.ledger.specs.declared.call.Call.{Call}
use Rattle.ledger.specs.declared.call.Call.TheVariants.{Reprice}
use Rattle.book.proofs.book.Book.call.Goals as goal

pub returns-in-Trade-clause-life : goal.returns-in-Trade-clause-life
returns-in-Trade-clause-life g c = lives-on _ (g.met.T.Terms.lawful c.args.self.now.store.dated.terms) _ _ _ (search rules)

pub returns-in-Reprice-clause-list : goal.returns-in-Reprice-clause-list
returns-in-Reprice-clause-list g c =
    let b = c.args.self.now in
    let xs = c.args.list.now in
    sym (ap (λ (k : Call). listed b k xs) c.in-Reprice.is ∙ unwritten (refusal (meaning_of b) (book_of b) (Reprice c.in-Reprice.class c.in-Reprice.price)) xs)

pub returns-in-Settle-clause-life : goal.returns-in-Settle-clause-life
returns-in-Settle-clause-life g c = lives-on _ (g.met.T.Terms.lawful c.args.self.now.store.dated.terms) _ _ _ (search rules)

pub returns-in-Close-clause-life : goal.returns-in-Close-clause-life
returns-in-Close-clause-life g c = lives-on _ (g.met.T.Terms.lawful c.args.self.now.store.dated.terms) _ _ _ (search rules)
