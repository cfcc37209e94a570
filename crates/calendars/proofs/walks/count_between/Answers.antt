use Rattle.std.proofs.Common.{◌-◌, cond, ◌∙◌, arith, rules, tests}
use Rattle.std.proofs.lemmas.Iterator.{YieldsList-from_map, YieldsList-from_range}
use Rattle.std.proofs.lemmas.Iterator.Consumers.{sum_by_from_yields_List, fits_by_from_yields_list}
use Rattle.calendars.proofs.CountedDays.{counted, counted_most}
use Rattle.calendars.proofs.walks.count_between.Goals as goal

pub sum-requires-clause-fits : goal.sum-requires-clause-fits
sum-requires-clause-fits g c =
    let f = g.S.DaySet.has c.args.days.now in
    let n = c.args.to - c.args.from in
    fits_by_from_yields_list (λ d. cond (f d) 1 0) _ c.map.result _ (YieldsList-from_map _ _ (YieldsList-from_range c.args.from _ n c.map.ensures.source (omega arith)) c.map.ensures.closure (λ x r q k. search (rules, tests))) (omega (arith, counted_most f n c.args.from))

pub returns : goal.returns
returns g c =
    let f = g.S.DaySet.has c.args.days.now in
    let n = c.args.to - c.args.from in
    let is = sum_by_from_yields_List (λ d. cond (f d) 1 0) _ c.map.result c.sum.result c.sum.ensures.ran (YieldsList-from_map _ _ (YieldsList-from_range c.args.from _ n c.map.ensures.source (omega arith)) c.map.ensures.closure (λ x r q k. search (rules, tests))) in
    record { is = is ∙ counted f c.args.from c.args.to; bound = omega (arith, is, counted_most f n c.args.from) }
