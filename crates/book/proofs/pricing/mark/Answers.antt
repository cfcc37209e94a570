use Rattle.std.proofs.Common.{◌<◌, length, Some, ap, ◌∙◌, arith}
use Rattle.std.proofs.lemmas.List.{get_or_default}
use Rattle.book.specs.Markets.{cents_in}
use Rattle.book.proofs.Markets.{no_prices, marked}
use Rattle.book.specs.declared.prices.Prices.{Prices}
use Rattle.book.proofs.pricing.mark.Goals as goal

pub returns : goal.returns
returns c = λ d n.
    let ps = c.args.prices.now in
    let h : c.args.class < length ps = omega (arith, c.told-prices, c.requires) in
    let e = get_or_default ps c.args.class c.index-prices-class.result no_prices h in
    let m = c.marked.ensures in
    marked d n ps c.args.class _ h (Some c.args.price.cents) (ap (λ (p : Prices). p.last) m ∙ ap (λ (p : Prices). p.last) e) (ap (λ (p : Prices). p.repriced) m ∙ ap (λ (p : Prices). p.repriced) e) (ap (λ (p : Prices). cents_in p.today) m)
