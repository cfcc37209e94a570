use Rattle.std.proofs.Common.{◌^◌, refl, arith, lit<}
use mir.Syntax.{w128}
use Rattle.amounts.proofs.Exact.{small-fits}
use Rattle.book.proofs.Loops.{sum_fits, sum-turn}
use Rattle.ledger.specs.Words.{at}
use Rattle.std.proofs.lemmas.Int.{to_z-of_z}
use Rattle.journal.proofs.sums.total.Goals as goal

pub overflow_add-sum : goal.overflow_add-sum
overflow_add-sum c =
    let f = at c.args.parts.now in
    let i = c.loop-part.part-index in
    sum_fits w128 f (2 ^ 112) i 1200 (lit< tt) (omega (arith, c.loop-part-test.true, c.requires.0)) _ (f i) _ c.loop-part.invariant (to_z-of_z w128 (f i) (small-fits w128 (f i) (omega (arith, c.requires.1 i c.loop-part-test.true)))) refl (c.requires.1 i c.loop-part-test.true)

pub loop-part-preserved : goal.loop-part-preserved
loop-part-preserved c =
    let f = at c.args.parts.now in
    let i = c.loop-part.part-index in
    sum-turn w128 f (2 ^ 112) i 1200 (lit< tt) (omega (arith, c.loop-part-test.true, c.requires.0)) _ (f i) _ c.loop-part.invariant (to_z-of_z w128 (f i) (small-fits w128 (f i) (omega (arith, c.requires.1 i c.loop-part-test.true)))) refl (c.requires.1 i c.loop-part-test.true)
