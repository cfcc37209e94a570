use Rattle.std.proofs.Common.{◌≡◌, ◌≤◌, ℤ, pos, nat_abs, rules, arith}
use Rattle.book.proofs.Loops.{made-each}
use Rattle.book.specs.Markets.{market_of}
use Rattle.day_table.specs.Table.{day_in}
use Rattle.ledger.specs.Calls.{newest}
use Rattle.ledger.specs.Words.{or_zero}
use Rattle.terms.proofs.Made.{each-made}
use Rattle.book.proofs.quotes.newest_cents.Goals as goal

pub returns-clause-is : goal.returns-clause-is
returns-clause-is c = λ d n k h.
    each-made _ _ (λ i (y : ℤ). y ≡ or_zero (newest (day_in c.args.day.now) (market_of 0 0 c.args.prices.now) i)) (λ i y q k. (search rules, search rules)) c.from_fn.result 12 c.from_fn.ensures.items k (pos 0) h

pub returns-clause-small : goal.returns-clause-small
returns-clause-small c =
    made-each _ _ (λ i (y : ℤ). nat_abs y ≤ 100000) (λ i y q k. (search rules, search rules)) c.from_fn.result 12 (pos 0) c.from_fn.ensures.items (λ k l. omega arith)
