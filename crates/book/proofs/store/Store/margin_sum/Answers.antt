use Rattle.std.proofs.Common.{◌^◌, ◌<◌, arith, lit<}
use mir.Syntax.{w128}
use Rattle.book.proofs.Loops.{sum-turn}
use Rattle.book.specs.Stores.{meaning_in, state_in}
use Rattle.ledger.specs.Questions.{margin_in}
use Rattle.std.proofs.lemmas.Int.{to_z-of_z}
use Rattle.book.proofs.store.Store.margin_sum.Goals as goal

pub loop-class-preserved : goal.loop-class-preserved
loop-class-preserved g c =
    let s = c.args.self.now in
    let r = c.margin_in-sum in
    let h : c.loop-class.class < 12 = omega (arith, c.day.ensures.twelve) in
    sum-turn w128 (margin_in (meaning_in s) (state_in s) c.args.account) (2 ^ 101) c.loop-class.class 12 (lit< tt) h _ r.result _ c.loop-class.invariant (to_z-of_z w128 _ (record { sfits = r.type_inv })) r.ensures.is r.ensures.bound
