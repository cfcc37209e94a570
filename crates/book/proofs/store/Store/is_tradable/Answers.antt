use Rattle.std.proofs.Common.{ap, ◌∙◌, sym, arith}
use Rattle.book.specs.Stores.{meaning_in, state_in}
use Rattle.ledger.proofs.Classes.{tradable-known}
use Rattle.terms.specs.Day.{Day}
use Rattle.book.proofs.store.Store.is_tradable.Goals as goal

pub returns-clause-is : goal.returns-clause-is
returns-clause-is g c = c.is_tradable.ensures ∙ ap (λ (d : Day). d.tradable c.args.class) c.day.ensures.day

pub returns-clause-known : goal.returns-clause-known
returns-clause-known g c = λ e.
    let s = c.args.self.now in
    let law = g.met.T.Terms.lawful s.dated.terms in
    omega (arith, law.twelve, tradable-known (meaning_in s) law (state_in s).market.day c.args.class (sym (returns-clause-is g c) ∙ e))
