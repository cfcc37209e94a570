use Rattle.std.proofs.Common.{◌≡◌, ◌++◌, Some, string_bytes, take}
use Rattle.sheet.specs.Answers.{answer_line, accepted}
use Rattle.std.specs.List.{flat_map}
use Rattle.sheet.proofs.writing.write_amounts.Given as goal

abbrev pub invariant-loop-payment : goal.invariant-loop-payment
invariant-loop-payment l = string_bytes l.text ≡ string_bytes l.initial.text ++ flat_map (λ p. answer_line (accepted l.line (Some p))) (take l.payment-index l.amounts)
