use Rattle.terms.proofs.Handovers.{months-follow}
use Rattle.terms.proofs.handover.heir.Goals as goal

pub returns-in_err-class-clause-law : goal.returns-in_err-class-clause-law
returns-in_err-class-clause-law g c = months-follow _ (g.met.T.Terms.lawful c.args.terms.now)

pub returns-in_err-part_with-clause-law : goal.returns-in_err-part_with-clause-law
returns-in_err-part_with-clause-law g c = months-follow _ (g.met.T.Terms.lawful c.args.terms.now)

pub returns-in_ok-part_with-clause-law : goal.returns-in_ok-part_with-clause-law
returns-in_ok-part_with-clause-law g c = months-follow _ (g.met.T.Terms.lawful c.args.terms.now)

pub returns-else-has_parts-clause-law : goal.returns-else-has_parts-clause-law
returns-else-has_parts-clause-law g c = months-follow _ (g.met.T.Terms.lawful c.args.terms.now)
