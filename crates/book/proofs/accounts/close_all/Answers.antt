use Rattle.std.proofs.Common.{◌≡◌, arith, to_z, of_z, w64}
use Rattle.book.proofs.Passes.{passed-more}
use Rattle.ledger.specs.Words.{at}
use Rattle.std.proofs.lemmas.Int.{ints}
use Rattle.book.proofs.accounts.close_all.Goals as goal

pub loop-account-preserved : goal.loop-account-preserved
loop-account-preserved c =
    let pay : to_z w64 (of_z w64 (at c.args.pays.now c.loop-account.account)) ≡ at c.args.pays.now c.loop-account.account = omega (arith, ints) in
    passed-more _ _ _ _ c.loop-account.invariant c.index-accounts-account.result c.close.new.self (omega arith) (rw pay at c.close.ensures)
