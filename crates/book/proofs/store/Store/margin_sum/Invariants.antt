use Rattle.std.proofs.Common.{◌^◌}
use Rattle.book.proofs.Loops.{Summed}
use Rattle.book.specs.Stores.{meaning_in, state_in}
use Rattle.ledger.specs.Questions.{margin_in}
use Rattle.book.proofs.store.Store.margin_sum.Given as goal

abbrev pub invariant-loop-class : goal.invariant-loop-class
invariant-loop-class g l = Summed (margin_in (meaning_in l.self) (state_in l.self) l.account) (2 ^ 101) l.class l.sum
