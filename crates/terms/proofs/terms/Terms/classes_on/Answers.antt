use Rattle.std.proofs.Common.{None, rules}
use Rattle.terms.proofs.Made.{made-by}
use Rattle.terms.proofs.terms.Terms.classes_on.Goals as goal

pub returns : goal.returns
returns g c =
    made-by _ _ ((g.Self.Terms.meaning c.args.self.now).on c.args.day) (λ i y q k. (search rules, search rules)) c.from_fn.result 12 None c.from_fn.ensures.items
