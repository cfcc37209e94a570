use Rattle.std.proofs.Common.{◌+◌, ◌≡◌, Some, sym, ap, ◌∙◌, arith, rules, tests}
use Rattle.std.proofs.lemmas.Iterator.{YieldsList-from_map, YieldsList-from_range}
use Rattle.std.proofs.lemmas.Iterator.Consumers.{sum_by_from_yields_List, fits_by_from_yields_list}
use Rattle.terms.specs.Meaning.{class_quantity}
use Rattle.terms.proofs.ClassQuantities.{class-sum, no-quantity, told, told-sum, run-most, parts-and-successors}
use Rattle.terms.proofs.quantity.quantity_of.Goals as goal

pub returns-in_default-clause-is : goal.returns-in_default-clause-is
returns-in_default-clause-is g c =
    let w = g.T.Terms.meaning c.args.terms.now in
    sym (ap (class_quantity w) (sym c.class_on.ensures ∙ c.in_default.is) ∙ no-quantity w)

pub returns-in_default-clause-law : goal.returns-in_default-clause-law
returns-in_default-clause-law g c = parts-and-successors _ (g.met.T.Terms.lawful c.args.terms.now)

pub sum-requires-clause-fits : goal.sum-requires-clause-fits
sum-requires-clause-fits g c =
    let law = g.met.T.Terms.lawful c.args.terms.now in
    let q = (g.T.Terms.meaning c.args.terms.now).quantity in
    let months = c.in-Some.class.months in
    let r = law.ranges c.args.day c.args.class c.in-Some.class (sym c.class_on.ensures ∙ c.in-Some.is) in
    fits_by_from_yields_list (told q) _ c.map.result _ (YieldsList-from_map _ _ (YieldsList-from_range months.first (months.first + months.count) months.count c.map.ensures.source (omega arith)) c.map.ensures.closure (λ x r q k. search (rules, tests))) (omega (arith, r.few, told-sum q months.count months.first r.last, run-most q months.count months.first r.last (λ m l. (law.quantities m l).1)))

pub returns : goal.returns
returns g c =
    let w = g.T.Terms.meaning c.args.terms.now in
    let law = g.met.T.Terms.lawful c.args.terms.now in
    let t = c.in-Some.class in
    let on : w.on c.args.day c.args.class ≡ Some t = sym c.class_on.ensures ∙ c.in-Some.is in
    let r = law.ranges c.args.day c.args.class t on in
    let is = sum_by_from_yields_List (told w.quantity) _ c.map.result c.sum.result c.sum.ensures.ran (YieldsList-from_map _ _ (YieldsList-from_range t.months.first (t.months.first + t.months.count) t.months.count c.map.ensures.source (omega arith)) c.map.ensures.closure (λ x r q k. search (rules, tests))) ∙ told-sum w.quantity t.months.count t.months.first r.last in
    record {
      is = is ∙ sym (ap (class_quantity w) on ∙ class-sum w t r.last);
      bound = omega (arith, is, r.few, run-most w.quantity t.months.count t.months.first r.last (λ m l. (law.quantities m l).1));
      law = parts-and-successors w law;
    }
