use Rattle.day_table.proofs.Columns.{day-again}
use Rattle.terms.proofs.ClassQuantities.{parts-and-successors}
use Rattle.terms.proofs.Handovers.{months-follow}
use Rattle.day_table.proofs.dated.DatedTerms.go_to.Goals as goal

pub invariant_of-self : goal.invariant_of-self
invariant_of-self g c = record { read = day-again _ _ _ c.on-self.ensures }

pub returns-clause-months : goal.returns-clause-months
returns-clause-months g c = months-follow _ (g.met.T.Terms.lawful c.args.self.now.terms)

pub returns-clause-quantities : goal.returns-clause-quantities
returns-clause-quantities g c = parts-and-successors _ (g.met.T.Terms.lawful c.args.self.now.terms)
