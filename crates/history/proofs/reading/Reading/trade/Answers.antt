use Rattle.std.proofs.Common.{◌≡◌, eqb, ◌+ℤ◌, ap, ◌∙◌, arith, w64, to_z, of_z}
use mir.Syntax.{w128}
use Rattle.amounts.specs.SumsOfWhole.{if_z}
use Rattle.history.proofs.Readings.{cost-small, more-small}
use Rattle.ledger.specs.Words.{at}
use Rattle.std.proofs.lemmas.Int.{to_z-of_z}
use Rattle.terms.specs.Meaning.{has}
use Rattle.history.proofs.reading.Reading.trade.Goals as goal

pub invariant_of-self-clause-nets_small : goal.invariant_of-self-clause-nets_small
invariant_of-self-clause-nets_small g c i h =
    let k = c.args.self.now in
    more-small k.calls (at k.nets i) _ c.args.dealt (has c.class_on-here.result i) (c.add_in.ensures i ∙ ap (λ d. at k.nets i +ℤ if_z (has c.class_on-here.result i) d) (to_z-of_z w64 c.args.dealt c.ranges.dealt)) (k.nets_small i h) c.requires.1

pub invariant_of-self-clause-since_small : goal.invariant_of-self-clause-since_small
invariant_of-self-clause-since_small g c i h =
    let k = c.args.self.now in
    more-small k.calls (at k.since i) _ c.args.dealt (eqb i c.args.class) (c.add_at.ensures i h ∙ ap (λ d. at k.since i +ℤ if_z (eqb i c.args.class) d) (to_z-of_z w64 c.args.dealt c.ranges.dealt)) (k.since_small i h) c.requires.1

pub invariant_of-self-clause-costs_small : goal.invariant_of-self-clause-costs_small
invariant_of-self-clause-costs_small g c =
    let e : to_z w128 (of_z w128 c.more_cost-self.result) ≡ c.args.self.now.costs +ℤ c.at_cost.result = grind (arith, to_z-of_z) in
    rw e (cost-small c.args.self.now.calls c.args.self.now.costs c.at_cost.result c.args.self.now.costs_small c.at_cost.ensures.bound)

pub returns-clause-nets : goal.returns-clause-nets
returns-clause-nets g c m h =
    let k = c.args.self.now in
    c.add_in.ensures m ∙ ap (λ d. at k.nets m +ℤ if_z (has c.class_on-here.result m) d) (to_z-of_z w64 c.args.dealt c.ranges.dealt) ∙ ap (λ t. at k.nets m +ℤ if_z (has t m) c.args.dealt) c.class_on-here.ensures
