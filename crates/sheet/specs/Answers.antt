-- One line of the answers, in bytes. Assumes nothing.
use Rattle.std.specs.Prelude.{ℕ, List, ◌++◌, Some, None, Option, codes, decimal}
use Rattle.std.specs.Fmt.{signed_decimal}
use Rattle.ledger.specs.declared.payment.Payment.{Payment}
use Rattle.sheet.specs.Causes.{cause_number}
use Rattle.sheet.specs.declared.answer.Answer.{Answer}
use Rattle.sheet.specs.declared.cause.LineFault.{LineFault}

-- the answer to a line that is refused, and to one that is accepted
abbrev pub refused : LineFault → Answer
refused fault = record { line = fault.line; refusal = cause_number fault.cause; amount = None }

abbrev pub accepted : ℕ → Option Payment → Answer
accepted line amount = record { line = line; refusal = 0; amount = amount }

-- the account and the cents, both blank where there are none
abbrev pub amount_text : Option Payment → List ℕ
amount_text None = codes ","
amount_text (Some p) = decimal p.account ++ (codes "," ++ signed_decimal p.cents)

abbrev pub answer_text : Answer → List ℕ
answer_text a = decimal a.line ++ (codes "," ++ (decimal a.refusal ++ (codes "," ++ amount_text a.amount)))

-- the same with its line feed
abbrev pub answer_line : Answer → List ℕ
answer_line a = answer_text a ++ codes "\n"
