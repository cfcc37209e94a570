use Rattle.std.proofs.Common.{◌≡◌, Some, sym, ap, ◌∙◌}
use Rattle.terms.specs.Meaning.{class_quantity}
use Rattle.terms.proofs.ClassQuantities.{class-sum, no-quantity}
use Rattle.day_table.proofs.Columns.{class-at}
use Rattle.day_table.proofs.reading.quantity_at.Goals as goal

pub months_quantity-requires-clause-few : goal.months_quantity-requires-clause-few
months_quantity-requires-clause-few g c =
    let w = g.T.Terms.meaning c.args.terms.now in
    ((g.met.T.Terms.lawful c.args.terms.now).ranges c.args.day c.args.class c.in-Some.class (sym (class-at w c.args.day c.args.class c.args.classes.now c.requires.known c.requires.class) ∙ c.in-Some.is)).few

pub months_quantity-requires-clause-last : goal.months_quantity-requires-clause-last
months_quantity-requires-clause-last g c =
    let w = g.T.Terms.meaning c.args.terms.now in
    ((g.met.T.Terms.lawful c.args.terms.now).ranges c.args.day c.args.class c.in-Some.class (sym (class-at w c.args.day c.args.class c.args.classes.now c.requires.known c.requires.class) ∙ c.in-Some.is)).last

pub returns-in-Some : goal.returns-in-Some
returns-in-Some g c =
    let w = g.T.Terms.meaning c.args.terms.now in
    let t = c.in-Some.class in
    let on : w.on c.args.day c.args.class ≡ Some t = sym (class-at w c.args.day c.args.class c.args.classes.now c.requires.known c.requires.class) ∙ c.in-Some.is in
    let r = (g.met.T.Terms.lawful c.args.terms.now).ranges c.args.day c.args.class t on in
    c.months_quantity.ensures ∙ sym (ap (class_quantity w) on ∙ class-sum w t r.last)

pub returns-in-None : goal.returns-in-None
returns-in-None g c =
    let w = g.T.Terms.meaning c.args.terms.now in
    sym (ap (class_quantity w) (sym (class-at w c.args.day c.args.class c.args.classes.now c.requires.known c.requires.class) ∙ c.in-None.is) ∙ no-quantity w)
