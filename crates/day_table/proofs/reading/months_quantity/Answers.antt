use Rattle.std.proofs.Common.{◌+◌, ◌∙◌, arith, rules, tests}
use Rattle.std.proofs.lemmas.Iterator.{YieldsList-from_map, YieldsList-from_range}
use Rattle.std.proofs.lemmas.Iterator.Consumers.{sum_by_from_yields_List, fits_by_from_yields_list}
use Rattle.terms.proofs.ClassQuantities.{told, told-sum, run-most}
use Rattle.day_table.proofs.reading.months_quantity.Goals as goal

pub sum-requires-clause-fits : goal.sum-requires-clause-fits
sum-requires-clause-fits g c =
    let law = g.met.T.Terms.lawful c.args.terms.now in
    let q = (g.T.Terms.meaning c.args.terms.now).quantity in
    let months = c.args.months in
    fits_by_from_yields_list (told q) _ c.map.result _ (YieldsList-from_map _ _ (YieldsList-from_range months.first (months.first + months.count) months.count c.map.ensures.source (omega arith)) c.map.ensures.closure (λ x r q k. search (rules, tests))) (omega (arith, c.requires.few, told-sum q months.count months.first c.requires.last, run-most q months.count months.first c.requires.last (λ m l. (law.quantities m l).1)))

pub returns : goal.returns
returns g c =
    let q = (g.T.Terms.meaning c.args.terms.now).quantity in
    let months = c.args.months in
    sum_by_from_yields_List (told q) _ c.map.result c.sum.result c.sum.ensures.ran (YieldsList-from_map _ _ (YieldsList-from_range months.first (months.first + months.count) months.count c.map.ensures.source (omega arith)) c.map.ensures.closure (λ x r q k. search (rules, tests))) ∙ told-sum q months.count months.first c.requires.last
