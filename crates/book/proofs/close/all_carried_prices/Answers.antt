use Rattle.std.proofs.Common.{◌≡◌, Bool, true, false, cond, get_or, Option, None, ℤ, sym, refl, ap, ◌∙◌, arith, rules}
use Rattle.std.proofs.lemmas.List.{get_or_past}
use Rattle.book.proofs.Loops.{made-each}
use Rattle.book.proofs.Markets.{no_prices}
use Rattle.book.specs.Markets.{cents_in, market_of}
use Rattle.book.specs.declared.prices.Prices.{Prices}
use Rattle.day_table.specs.Table.{day_in}
use Rattle.ledger.specs.Calls.{newest}
use Rattle.ledger.specs.Words.{from}
use Rattle.book.proofs.close.all_carried_prices.Goals as goal

none-both : (b : Bool) → ◌≡◌ {A = Option ℤ} None (cond b None None)
none-both true = refl
none-both false = refl

pub returns-clause-last : goal.returns-clause-last
returns-clause-last c = λ d n.
    let sources = c.args.sources.now in
    made-each _ _ (λ t (y : Prices). cents_in y.last ≡ from (get_or sources t None) None (newest (day_in c.args.day.now) (market_of 0 0 c.args.prices.now))) (λ i y q k. (search rules, search rules)) c.from_fn.result 12 no_prices c.from_fn.ensures.items
    (λ t l. sym (ap (λ s. from s None (newest (day_in c.args.day.now) (market_of 0 0 c.args.prices.now))) (get_or_past sources t None (omega arith))))

pub returns-clause-today : goal.returns-clause-today
returns-clause-today c = λ d n.
    made-each _ _ (λ t (y : Prices). cents_in y.today ≡ None) (λ i y q k. (search rules, search rules)) c.from_fn.result 12 no_prices c.from_fn.ensures.items (λ t l. refl)

pub returns-clause-repriced : goal.returns-clause-repriced
returns-clause-repriced c = λ d n.
    let sources = c.args.sources.now in
    let prices = (market_of 0 0 c.args.prices.now).repriced in
    made-each _ _ (λ t (y : Prices). cents_in y.repriced ≡ cond ((day_in c.args.next.now).tradable t) None (from (get_or sources t None) None prices)) (λ i y q k. (search rules, search rules)) c.from_fn.result 12 no_prices c.from_fn.ensures.items
    (λ t l. none-both ((day_in c.args.next.now).tradable t) ∙ sym (ap (λ s. cond ((day_in c.args.next.now).tradable t) None (from s None prices)) (get_or_past sources t None (omega arith))))
