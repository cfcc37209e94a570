use Rattle.std.proofs.Common.{rules, length}
use Rattle.book.proofs.Lives.{ready, lived-after}
use Rattle.book.specs.Stores.{meaning_in, state_in}
use Rattle.ledger.proofs.Standing.{lives-on}
use Rattle.ledger.specs.declared.call.Call.TheVariants.{Settle}
use Rattle.book.proofs.book.Book.settle.Goals as goal

pub settle-requires : goal.settle-requires
settle-requires g c = ready c.args.self.now.store c.args.self.now.lived

pub invariant_of-self : goal.invariant_of-self
invariant_of-self g c =
    let s = c.args.self.now.store in
    record { lived = lived-after s c.settle.new.self (Settle c.args.price (length c.args.list.now)) (g.met.T.Terms.lawful s.dated.terms) c.settle.ensures.terms (search rules) c.args.self.now.lived }

pub returns-clause-life : goal.returns-clause-life
returns-clause-life g c =
    let s = c.args.self.now.store in
    lives-on (meaning_in s) (g.met.T.Terms.lawful s.dated.terms) (state_in s) (Settle c.args.price (length c.args.list.now)) _ (search rules)
