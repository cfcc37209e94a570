use Rattle.std.proofs.Common.{◌≡◌, None, rules}
use Rattle.book.proofs.Lives.{new-life, lived-new}
use Rattle.book.specs.Stores.{meaning_in, state_in}
use Rattle.ledger.specs.Make.{made_of, make_refusal}
use Rattle.book.proofs.book.Book.make.Goals as goal

pub invariant_of-result : goal.invariant_of-result
invariant_of-result g c =
    let m = made_of c.args.month c.args.accounts c.args.lines.now in
    let q : make_refusal (g.T.Terms.meaning c.args.terms) m ≡ None = search rules in
    let s = c.made.result in
    record { lived = lived-new (meaning_in s) (state_in s) (new-life s c.args.terms m (g.met.T.Terms.lawful c.args.terms) q c.made.ensures.terms c.made.ensures.state) }

pub returns-clause-life : goal.returns-clause-life
returns-clause-life g c =
    let m = made_of c.args.month c.args.accounts c.args.lines.now in
    let q : make_refusal (g.T.Terms.meaning c.args.terms) m ≡ None = search rules in
    new-life c.made.result c.args.terms m (g.met.T.Terms.lawful c.args.terms) q c.made.ensures.terms c.made.ensures.state
