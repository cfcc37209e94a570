use Rattle.std.proofs.Common.{◌<◌, length, Some, ap, ◌∙◌, arith}
use Rattle.std.proofs.lemmas.List.{get_or_default}
use Rattle.book.specs.Markets.{cents_in}
use Rattle.book.proofs.Markets.{no_prices, repriced}
use Rattle.book.specs.declared.prices.Prices.{Prices}
use Rattle.book.proofs.pricing.reprice.Goals as goal

pub returns : goal.returns
returns c = λ d n.
    let ps = c.args.prices.now in
    let h : c.args.class < length ps = omega (arith, c.told-prices, c.requires) in
    let e = get_or_default ps c.args.class c.index-prices-class.result no_prices h in
    let m = c.repriced.ensures in
    repriced d n ps c.args.class _ h (Some c.args.price.cents) (ap (λ (p : Prices). p.last) m ∙ ap (λ (p : Prices). p.last) e) (ap (λ (p : Prices). p.today) m ∙ ap (λ (p : Prices). p.today) e) (ap (λ (p : Prices). cents_in p.repriced) m)
