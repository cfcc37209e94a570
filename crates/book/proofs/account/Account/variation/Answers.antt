use Rattle.std.proofs.Common.{arith, lit<, w64}
use Rattle.std.proofs.lemmas.Int.{to_z-of_z}
use Rattle.book.proofs.Loops.{sum_fits, sum-turn, sum-end}
use Rattle.book.proofs.account.Account.variation.Goals as goal

pub overflow_add-sum : goal.overflow_add-sum
overflow_add-sum c =
    let r = c.class_variation-sum in
    sum_fits w64 _ 178802682000000000 c.loop-class.class 12 (lit< tt) (omega arith) _ r.result _ c.loop-class.invariant (to_z-of_z w64 _ (record { sfits = r.type_inv })) r.ensures.is r.ensures.bound

pub loop-class-preserved : goal.loop-class-preserved
loop-class-preserved c =
    let r = c.class_variation-sum in
    sum-turn w64 _ 178802682000000000 c.loop-class.class 12 (lit< tt) (omega arith) _ r.result _ c.loop-class.invariant (to_z-of_z w64 _ (record { sfits = r.type_inv })) r.ensures.is r.ensures.bound

pub returns : goal.returns
returns c =
    let s = sum-end _ 178802682000000000 c.loop-class.class c.args.classes 12 _ (omega arith) c.requires.0 c.loop-class.invariant in
    record { is = s.is; bound = s.bound }
