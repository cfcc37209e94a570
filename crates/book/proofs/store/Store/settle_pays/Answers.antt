use Rattle.std.proofs.Common.{◌<◌, length, ap, ◌∙◌, arith, w32}
use Rattle.std.proofs.lemmas.Int.{to_z-of_z}
use Rattle.amounts.specs.Amounts.{final_payment}
use Rattle.book.proofs.Settles.{pays-settled}
use Rattle.book.specs.Rows.{rows_of}
use Rattle.book.specs.Stores.{meaning_in, state_in}
use Rattle.ledger.specs.Calls.{today}
use Rattle.terms.specs.Day.{Day}
use Rattle.book.proofs.store.Store.settle_pays.Goals as goal

pub returns : goal.returns
returns g c = λ a h.
    let s = c.args.self.now in
    let b = state_in s in
    let l : a < length c.deref.result.now = omega (arith, h, ap length c.deref.ensures.0) in
    let q = c.quantity_of-quantity.ensures ∙ ap (λ (d : Day). d.quantity c.settling-class.result) c.day.ensures.day in
    let p = to_z-of_z w32 c.args.price c.ranges.price in
    let x = to_z-of_z w32 c.args.last c.ranges.last in
    c.settle_pays.ensures a l (omega (arith, l, c.deref.ensures.1))
    ∙ (λ i. final_payment c.quantity_of-quantity.result ((rows_of (c.deref.ensures.0 i) a).lots c.settling-class.result) (p i) (x i))
    ∙ pays-settled (today (meaning_in s) b) b.market c.args.price c.args.last (b.rows a) c.settling-class.result c.quantity_of-quantity.result c.settling-class.ensures.is q c.requires.last
