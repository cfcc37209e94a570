use Rattle.std.proofs.Common.{rules}
use Rattle.book.proofs.Lives.{lived-after}
use Rattle.book.specs.Stores.{meaning_in, state_in}
use Rattle.ledger.proofs.Standing.{lives-on}
use Rattle.ledger.specs.declared.call.Call.TheVariants.{Mark}
use Rattle.book.proofs.book.Book.mark.Goals as goal

pub invariant_of-self : goal.invariant_of-self
invariant_of-self g c =
    let s = c.args.self.now.store in
    record { lived = lived-after s c.mark.new.self (Mark c.args.class c.args.price) (g.met.T.Terms.lawful s.dated.terms) c.mark.ensures.terms (search rules) c.args.self.now.lived }

pub returns-clause-life : goal.returns-clause-life
returns-clause-life g c =
    let s = c.args.self.now.store in
    lives-on (meaning_in s) (g.met.T.Terms.lawful s.dated.terms) (state_in s) (Mark c.args.class c.args.price) _ (search rules)
