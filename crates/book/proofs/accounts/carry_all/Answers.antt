use Rattle.std.proofs.Common.{◌≡◌, true, subst, arith}
use Rattle.book.proofs.Passes.{turn, passed-more}
use Rattle.day_table.specs.Table.{day_in}
use Rattle.ledger.specs.Calls.{lots_fit, after_parts}
use Rattle.ledger.specs.Words.{all_below}
use Rattle.book.proofs.accounts.carry_all.Goals as goal

pub carry-requires-clause-keeps : goal.carry-requires-clause-keeps
carry-requires-clause-keeps c =
    let k = c.args.day.now in
    subst (λ r. all_below k.classes (λ c. lots_fit (after_parts (day_in k) r c)) ≡ true) (turn _ _ _ _ c.loop-account.invariant c.index-accounts-account.result (omega arith)) (c.requires.keeps c.loop-account.account (omega arith))

pub loop-account-preserved : goal.loop-account-preserved
loop-account-preserved c =
    passed-more _ _ _ _ c.loop-account.invariant c.index-accounts-account.result c.carry.new.self (omega arith) c.carry.ensures
