use Rattle.std.proofs.Common.{rules}
use Rattle.book.proofs.Lives.{ready, lived-after}
use Rattle.book.specs.Stores.{meaning_in, state_in}
use Rattle.ledger.proofs.Standing.{lives-on}
use Rattle.ledger.specs.declared.call.Call.TheVariants.{Trade}
use Rattle.book.proofs.book.Book.trade.Goals as goal

pub trade-requires : goal.trade-requires
trade-requires g c = ready c.args.self.now.store c.args.self.now.lived

pub invariant_of-self : goal.invariant_of-self
invariant_of-self g c =
    let s = c.args.self.now.store in
    record { lived = lived-after s c.trade.new.self (Trade c.args.buyer c.args.seller c.args.class c.args.lots c.args.price) (g.met.T.Terms.lawful s.dated.terms) c.trade.ensures.terms (search rules) c.args.self.now.lived }

pub returns-clause-life : goal.returns-clause-life
returns-clause-life g c =
    let s = c.args.self.now.store in
    lives-on (meaning_in s) (g.met.T.Terms.lawful s.dated.terms) (state_in s) (Trade c.args.buyer c.args.seller c.args.class c.args.lots c.args.price) _ (search rules)
