use Rattle.std.proofs.Common.{cond, Some, None, refl, ◌∙◌, arith, w32, to_z, of_z}
use Rattle.history.proofs.Runs.{run_more}
use Rattle.ledger.specs.History.{first_of}
use Rattle.std.proofs.lemmas.List.{length-set}
use Rattle.history.proofs.steps.settle_months.Goals as goal

pub loop-month-preserved : goal.loop-month-preserved
loop-month-preserved c =
    let l = c.loop-month in
    let p = to_z w32 (of_z w32 c.args.price) in (
      omega arith,
      length-set l.finals l.month _ ∙ l.invariant.1,
      run_more (λ b o. first_of (cond b (Some p) None) o) (λ o. refl) None (Some p) c.args.finals.now l.finals c.args.months.first l.month l.invariant.0 (omega (arith, l.invariant.1)) l.invariant.2 refl,
    )
