use Rattle.std.proofs.Common.{◌+ℤ◌, ◌<◌, length, ap, ◌∙◌, arith}
use Rattle.amounts.specs.SumsOfWhole.{sum_z}
use Rattle.book.proofs.Closes.{variations, parts, no-parts-pay, nothing-more}
use Rattle.book.specs.Quotes.{quote_at, quote_pay}
use Rattle.book.specs.Rows.{rows_of, parts_pay_at}
use Rattle.book.specs.Stores.{state_in}
use Rattle.day_table.specs.Table.{day_in}
use Rattle.ledger.specs.Calls.{variation_pay, parts_pay, close_pay}
use Rattle.ledger.specs.Words.{at}
use Rattle.book.proofs.store.Store.close_pays.Goals as goal

pub returns-then-not-day : goal.returns-then-not-day
returns-then-not-day g c = λ a h.
    let b = state_in c.args.self.now in
    let t = c.day-day.result.now in
    let d = day_in t in
    let l : a < length c.deref.result.now = omega (arith, h, ap length c.deref.ensures.0) in
    let v = c.variation_pays-pays.ensures.is a l (omega (arith, l, c.deref.ensures.1))
    ∙ ap (λ xs. sum_z t.classes (λ k. quote_pay (quote_at c.all_quotes-quotes.result k) (rows_of xs a) k)) c.deref.ensures.0
    ∙ variations d b.market (b.rows a) c.day-day.ensures.twelve c.all_quotes-quotes.result (c.all_quotes-quotes.ensures.is b.market.day b.market.accepted) in
    nothing-more _ (sum_z d.classes (variation_pay d b.market (b.rows a))) (parts_pay d b.market (b.rows a)) v (no-parts-pay d b.market (b.rows a) c.day-day.ensures.twelve (λ k p. (c.day-day.ensures.flagged c.if-not-day.true k p).1))
    ∙ ap (λ d. close_pay d b.market (b.rows a)) c.day-day.ensures.day

pub returns : goal.returns
returns g c = λ a h.
    let b = state_in c.args.self.now in
    let t = c.day-day.result.now in
    let d = day_in t in
    let l : a < length c.deref.result.now = omega (arith, h, ap length c.deref.ensures.0) in
    let m : a < length c.deref-2.result.now = omega (arith, h, ap length c.deref-2.ensures.0) in
    let v = c.variation_pays-pays.ensures.is a l (omega (arith, l, c.deref.ensures.1))
    ∙ ap (λ xs. sum_z t.classes (λ k. quote_pay (quote_at c.all_quotes-quotes.result k) (rows_of xs a) k)) c.deref.ensures.0
    ∙ variations d b.market (b.rows a) c.day-day.ensures.twelve c.all_quotes-quotes.result (c.all_quotes-quotes.ensures.is b.market.day b.market.accepted) in
    let u = ap (λ xs. parts_pay_at d (at c.newest_cents-newest.result) (rows_of xs a)) c.deref-2.ensures.0
    ∙ parts d b.market (b.rows a) c.day-day.ensures.twelve c.newest_cents-newest.result (c.newest_cents-newest.ensures.is b.market.day b.market.accepted) in
    c.pays_with_parts.ensures a m (omega (arith, m, c.deref-2.ensures.1))
    ∙ (λ i. v i +ℤ u i)
    ∙ ap (λ d. close_pay d b.market (b.rows a)) c.day-day.ensures.day
