use Rattle.std.proofs.Common.{◌^◌}
use Rattle.book.proofs.Loops.{Summed}
use Rattle.ledger.specs.Words.{at}
use Rattle.journal.proofs.sums.total.Given as goal

abbrev pub invariant-loop-part : goal.invariant-loop-part
invariant-loop-part l = Summed (at l.parts) (2 ^ 112) l.part-index l.sum
