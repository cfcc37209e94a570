use Rattle.std.proofs.Common.{◌++◌, List, Some, string_bytes, ap, ◌∙◌}
use Rattle.ledger.specs.declared.payment.Payment.{Payment}
use Rattle.sheet.specs.Answers.{answer_line, accepted}
use Rattle.std.proofs.lemmas.List.{take_all}
use Rattle.std.specs.List.{flat_map}
use Rattle.sheet.proofs.writing.write_amounts.Goals as goal

pub returns : goal.returns
returns c =
    c.loop-payment.invariant
    ∙ ap (λ (l : List Payment). string_bytes c.args.text.now ++ flat_map (λ p. answer_line (accepted c.args.line (Some p))) l) (take_all c.loop-payment.payment-index c.args.amounts.now c.loop-payment-test.false)
