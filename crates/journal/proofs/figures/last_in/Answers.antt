use Rattle.std.proofs.Common.{◌≡◌, pos, ◌-ℤ◌, ◌*ℤ◌, ap, ◌∙◌, arith, w32, w64, to_z, of_z}
use mir.Syntax.{w128}
use Rattle.book.specs.Books.{book_of, meaning_of}
use Rattle.journal.proofs.Totals.{zero-or}
use Rattle.ledger.specs.State.{quantity_now}
use Rattle.ledger.specs.Words.{at, or_zero}
use Rattle.std.proofs.lemmas.Int.{ints, to_z-of_z}
use Rattle.terms.specs.Meaning.{class_quantity}
use Rattle.journal.proofs.figures.last_in.Goals as goal

pub returns-clause-is : goal.returns-clause-is
returns-clause-is g c known inside =
    let b = c.args.book.now in
    let s = book_of b in
    let lots : to_z w64 (of_z w64 c.lots_before-lots.result) ≡ (s.rows c.args.account).lots c.args.class -ℤ at c.args.reading.now.since c.args.class = grind (arith, ints, to_z-of_z, c.lots_in.ensures.is known inside) in
    let quantity : c.quantity_of-quantity.result ≡ quantity_now (meaning_of b) s c.args.class =
    c.quantity_of-quantity.ensures.is ∙ (λ i. class_quantity (g.T.Terms.meaning (c.terms.ensures i)) ((g.T.Terms.meaning (c.terms.ensures i)).on (c.day.ensures i) c.args.class)) in
    let price : to_z w32 (of_z w32 c.unwrap_or.result) ≡ or_zero (s.market.last c.args.class) =
    to_z-of_z w32 c.unwrap_or.result (record { sfits = c.unwrap_or.type_inv }) ∙ c.unwrap_or.ensures ∙ zero-or c.last_price.result ∙ ap or_zero c.last_price.ensures in
    to_z-of_z w128 c.worth.result (record { sfits = c.worth.type_inv }) ∙ c.worth.ensures.is ∙ (λ i. lots i *ℤ (pos (quantity i) *ℤ price i))
