use Rattle.std.proofs.Common.{◌≡◌, pos, ◌+ℤ◌, ◌∙◌, arith, w64, to_z, of_z}
use Rattle.amounts.specs.SumsOfWhole.{if_z}
use Rattle.history.proofs.Runs.{run_more}
use Rattle.ledger.proofs.Figures.{plus-zero}
use Rattle.ledger.specs.Words.{at}
use Rattle.std.proofs.lemmas.Int.{to_z-of_z}
use Rattle.std.proofs.lemmas.List.{length-set}
use Rattle.history.proofs.steps.add_in_months.Goals as goal

pub loop-month-preserved : goal.loop-month-preserved
loop-month-preserved c =
    let l = c.loop-month in
    let n = to_z w64 (of_z w64 c.args.lots) in
    let here : to_z w64 (of_z w64 (to_z w64 (of_z w64 (at l.nets l.month)) +ℤ n)) ≡ at l.nets l.month +ℤ n = grind (arith, to_z-of_z) in (
      omega arith,
      length-set l.nets l.month _ ∙ l.invariant.1,
      run_more (λ b x. x +ℤ if_z b n) plus-zero (pos 0) _ c.args.nets.now l.nets c.args.months.first l.month l.invariant.0 (omega (arith, l.invariant.1)) l.invariant.2 here,
    )
