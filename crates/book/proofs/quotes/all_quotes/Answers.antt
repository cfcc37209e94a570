use Rattle.std.proofs.Common.{◌≡◌, pos, rules, arith}
use Rattle.book.proofs.Loops.{made-each}
use Rattle.book.specs.Markets.{market_of}
use Rattle.book.specs.Quotes.{quote_on, SmallQuote}
use Rattle.book.specs.declared.quotes.Quote.{Quote}
use Rattle.day_table.specs.Table.{day_in}
use Rattle.terms.proofs.Made.{each-made}
use Rattle.book.proofs.quotes.all_quotes.Goals as goal

pub returns-clause-is : goal.returns-clause-is
returns-clause-is c = λ d n k h.
    each-made _ _ (λ i (y : Quote). y ≡ quote_on (day_in c.args.day.now) (market_of 0 0 c.args.prices.now) i) (λ i y q k. (search rules, search rules)) c.from_fn.result 12 c.from_fn.ensures.items k (record { quantity = 0; today = pos 0; last = pos 0 }) h

pub returns-clause-small : goal.returns-clause-small
returns-clause-small c =
    made-each _ _ (λ i (y : Quote). SmallQuote y) (λ i y q k. (search rules, search rules)) c.from_fn.result 12 (record { quantity = 0; today = pos 0; last = pos 0 }) c.from_fn.ensures.items
    (λ k l. record { quantity = omega arith; today = omega arith; last = omega arith })
