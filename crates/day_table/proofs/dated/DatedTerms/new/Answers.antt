use Rattle.day_table.proofs.Columns.{day-again}
use Rattle.terms.proofs.ClassQuantities.{parts-and-successors}
use Rattle.day_table.proofs.dated.DatedTerms.new.Goals as goal

pub invariant_of-result : goal.invariant_of-result
invariant_of-result g c = record { read = day-again _ _ _ c.table_on-table.ensures }

pub returns-clause-quantities : goal.returns-clause-quantities
returns-clause-quantities g c = parts-and-successors _ (g.met.T.Terms.lawful c.args.terms)
