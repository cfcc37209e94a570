use Rattle.std.proofs.Common.{◌≡◌, pos, ◌+ℤ◌, arith, to_z, of_z, w64}
use Rattle.std.proofs.lemmas.Int.{ints}
use Rattle.ledger.specs.Words.{at}
use Rattle.book.proofs.Places.{read_set}
use Rattle.book.proofs.account.Account.settle.Goals as goal

pub returns : goal.returns
returns c =
    let x = c.args.self.now in
    let cash : to_z w64 (of_z w64 c.more_cash-self.result) ≡ x.cash +ℤ c.args.cents = omega (arith, ints) in
    λ i. record {
      lots = λ k. read_set x.lots c.args.class k (pos 0) (pos 0) (omega arith) i;
      traded = at x.traded;
      cost = at x.cost;
      cash = cash i;
    }
