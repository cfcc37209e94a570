use Rattle.std.proofs.Common.{◌≡◌, neg_ℤ, arith, to_z, of_z, w32}
use Rattle.std.proofs.lemmas.Int.{ints}
use Rattle.book.proofs.Sides.{untouched, both-sides}
use Rattle.book.specs.Rows.{rows_of}
use Rattle.book.proofs.accounts.exchange.Goals as goal

pub take-requires-2-clause-room : goal.take-requires-2-clause-room
take-requires-2-clause-room c =
    let m : to_z w32 (of_z w32 c.negative.result) ≡ neg_ℤ c.args.lots = omega (arith, ints) in
    let p : to_z w32 (of_z w32 c.args.price) ≡ c.args.price = omega (arith, ints) in
    rw (m, p, untouched c.args.buyer c.args.seller _ (rows_of c.args.accounts.now) (rows_of c.take.new.accounts) c.requires.apart c.take.ensures.rows) c.requires.sold

pub returns-clause-rows : goal.returns-clause-rows
returns-clause-rows c =
    let n : to_z w32 (of_z w32 c.args.lots) ≡ c.args.lots = omega (arith, ints) in
    let m : to_z w32 (of_z w32 c.negative.result) ≡ neg_ℤ c.args.lots = omega (arith, ints) in
    let p : to_z w32 (of_z w32 c.args.price) ≡ c.args.price = omega (arith, ints) in
    both-sides c.args.buyer c.args.seller c.args.class c.args.lots c.args.price c.requires.apart (rows_of c.args.accounts.now) (rows_of c.take.new.accounts) (rows_of c.take-2.new.accounts) (rw (p, n) at c.take.ensures.rows) (rw (p, m) at c.take-2.ensures.rows)
