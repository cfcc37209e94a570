use Rattle.std.proofs.Common.{◌++◌, List, string_bytes, ap, ◌∙◌}
use Rattle.ledger.specs.declared.payment.Payment.{Payment}
use Rattle.life.specs.Told.{amount_told}
use Rattle.std.proofs.lemmas.List.{take_all}
use Rattle.std.specs.List.{flat_map}
use Rattle.life.proofs.told.Opening.tell_amounts.Goals as goal

pub returns : goal.returns
returns c =
    c.loop-amount.invariant
    ∙ ap (λ (l : List Payment). string_bytes c.args.text.now ++ flat_map (amount_told c.args.self.line c.args.self.day c.args.request) l) (take_all c.loop-amount.amount-index c.args.amounts.now c.loop-amount-test.false)
