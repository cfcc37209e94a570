use Rattle.std.proofs.Common.{◌<◌, length, ap, ◌∙◌, arith}
use Rattle.std.proofs.lemmas.List.{get_or_default}
use Rattle.book.proofs.Markets.{no_prices, settled}
use Rattle.book.specs.declared.prices.Prices.{Prices}
use Rattle.book.proofs.pricing.settle.Goals as goal

pub returns : goal.returns
returns c = λ d n.
    let ps = c.args.prices.now in
    let h : c.args.class < length ps = omega (arith, c.told-prices, c.requires) in
    let m = c.settled.ensures in
    let e = get_or_default ps c.args.class c.index-prices-class.result no_prices h in
    settled d n ps c.args.class _ h (ap (λ (p : Prices). p.last) m) (ap (λ (p : Prices). p.today) m ∙ ap (λ (p : Prices). p.today) e) (ap (λ (p : Prices). p.repriced) m)
