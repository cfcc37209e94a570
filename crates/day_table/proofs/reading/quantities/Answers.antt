use Rattle.std.proofs.Common.{rules}
use Rattle.terms.proofs.Made.{made-by}
use Rattle.terms.specs.Meaning.{class_quantity}
use Rattle.day_table.proofs.reading.quantities.Goals as goal

pub returns : goal.returns
returns g c =
    let w = g.T.Terms.meaning c.args.terms.now in
    made-by _ _ (λ i. class_quantity w (w.on c.args.day i)) (λ i y q k. (search rules, search rules)) c.from_fn.result 12 0 c.from_fn.ensures.items
