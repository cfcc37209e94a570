use Rattle.std.proofs.Common.{reverse, take}
use Rattle.history.specs.Told.{Told}
use Rattle.history.proofs.read.read_account.Given as goal

abbrev pub invariant-loop-entry : goal.invariant-loop-entry
invariant-loop-entry g l = Told (g.T.Terms.meaning l.terms) l.month (reverse (take l.entry-index l.entries)) l.account l.reading
