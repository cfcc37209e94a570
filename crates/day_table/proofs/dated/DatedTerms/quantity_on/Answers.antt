use Rattle.std.proofs.Common.{ap, sym, ◌∙◌}
use Rattle.day_table.proofs.Columns.{same-quantity, class-at, quantity-at, day-classes, day-quantities}
use Rattle.terms.specs.Meaning.{months_of}
use Rattle.day_table.proofs.dated.DatedTerms.quantity_on.Goals as goal

pub returns-then-same_months : goal.returns-then-same_months
returns-then-same_months g c =
    let w = g.T.Terms.meaning c.args.self.now.terms in
    let k = c.args.self.now.table in
    let i = c.args.class in
    let e = c.args.self.now.read in
    quantity-at w k.day i k.quantity (day-quantities w k k.day e) c.requires.class
    ∙ same-quantity w (w.on k.day i) (w.on c.args.day i) (ap months_of (sym (class-at w k.day i k.table (day-classes w k k.day e) c.requires.class)) ∙ c.same_months.ensures c.if-same_months.true ∙ ap months_of (class-at w c.args.day i c.args.classes.now c.requires.known c.requires.class))
