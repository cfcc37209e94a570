use Rattle.std.proofs.Common.{rules, ◌∙◌, arith}
use borrow.Author.Tests.{tests}
use Rattle.std.proofs.lemmas.Iterator.{YieldsList-from_range}
use Rattle.std.proofs.lemmas.Iterator.Consumers.{YieldsList-from_filter_map}
use Rattle.telling.proofs.Picking.{offered, items-are, picks}
use Rattle.telling.proofs.longest.longest_class.Goals as goal

pub returns-clause-longest : goal.returns-clause-longest
returns-clause-longest g c =
    let w = g.T.Terms.meaning c.args.terms.now in
    let run = c.max_by_key.ensures.runs in
    picks w c.args.day run.0 _ _ c.max_by_key.result
    (items-are run.0 c.filter_map.result _ run.1 run.2 (YieldsList-from_filter_map _ (λ k. offered k (w.on c.args.day k)) (YieldsList-from_range 0 w.classes w.classes (c.filter_map.ensures.source ∙ (λ j. record { start = 0; end = c.classes.ensures j })) (omega arith)) c.filter_map.ensures.closure (λ x r q k. search (rules, tests))))
    (λ x k q h. search (rules, tests))
    run.3
