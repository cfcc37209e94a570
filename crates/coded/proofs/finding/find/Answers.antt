use Rattle.std.proofs.Common.{rules}
use Rattle.std.proofs.lemmas.Fn.{always_returns_same}
use Rattle.std.specs.Ordering.{nat_cmp}
use Rattle.coded.proofs.Found.{searched}
use Rattle.coded.proofs.finding.find.Goals as goal

-- the closure compares an entry's code with the one that is sought
pub returns : goal.returns
returns g c =
    let facts = c.binary_search_by.ensures in
    let compared = facts.position (λ e. nat_cmp (g.E.Coded.number e) c.args.code) (always_returns_same _ _ _ (λ a r f' called. search rules)) in
    rw c.ok.ensures.value (searched g.E.Coded.number c.args.entries.now c.args.code _ facts.bound compared)
