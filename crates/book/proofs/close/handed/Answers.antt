use Rattle.std.proofs.Common.{None, sym, ap, ◌∙◌}
use Rattle.book.specs.Markets.{market_of}
use Rattle.day_table.specs.Table.{day_in}
use Rattle.ledger.specs.Calls.{newest}
use Rattle.ledger.specs.Words.{from}
use Rattle.book.proofs.close.handed.Goals as goal

pub returns-in-Some-clause-last : goal.returns-in-Some-clause-last
returns-in-Some-clause-last c =
    c.newest.ensures 0 0 ∙ ap (λ o. from o None (newest (day_in c.args.day.now) (market_of 0 0 c.args.prices.now))) (sym c.in-Some.is)
