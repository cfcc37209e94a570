-- What is told of one call, in sentences. Assumes nothing.
use Rattle.std.specs.Prelude.{ℕ, List, [], ◌++◌, ◌==◌, Ok, Err, Result, cond, codes, decimal, unsigned_abs}
use Rattle.std.specs.Fmt.{signed_decimal}
use Rattle.std.specs.List.{flat_map}
use Rattle.ledger.specs.declared.call.Call.{Call}
use Rattle.ledger.specs.declared.call.Call.TheVariants.{Trade, Mark, Reprice, Settle, Close}
use Rattle.ledger.specs.declared.payment.Payment.{Payment}
use Rattle.iso.specs.Written.{day_written}
use Rattle.questions.specs.Questions.{refusal_text}
use Rattle.rows.specs.declared.fault.SheetFault.{SheetFault}
use Rattle.rows.specs.declared.request.Request.{Request}
use Rattle.rows.specs.declared.request.Request.TheVariants.{Book, Margins}
use Rattle.sheet.specs.declared.cause.Cause.{Cause}

-- the line of the sheet and the day of the book, with which each sentence begins
abbrev pub opening : ℕ → ℕ → List ℕ
opening n d = codes "line " ++ (decimal n ++ (codes ", " ++ (day_written d ++ codes ": ")))

-- a refusal
abbrev pub refusal_told : ℕ → ℕ → Cause → List ℕ
refusal_told n d cause = opening n d ++ (refusal_text cause ++ codes "\n")

-- what pays an account
abbrev pub payer : Call → List ℕ
payer (Trade buyer seller c lots p) = codes "the trade"
payer (Mark c p) = codes "the mark"
payer (Reprice c p) = codes "the reprice"
payer (Settle p room) = codes "the final settlement"
payer (Close room) = codes "the close"

-- a payment, unless it is of no cents
abbrev pub payment_told : ℕ → ℕ → Call → Payment → List ℕ
payment_told n d call p =
    cond (unsigned_abs p.cents == 0) [] (opening n d ++ (codes "account " ++ (decimal p.account ++ (codes " is paid " ++ (signed_decimal p.cents ++ (codes " cents by " ++ (payer call ++ codes "\n")))))))

-- an account's margins
abbrev pub margins_told : ℕ → ℕ → Payment → List ℕ
margins_told n d p =
    opening n d ++ (codes "account " ++ (decimal p.account ++ (codes " has margins of " ++ (signed_decimal p.cents ++ codes " cents\n"))))

abbrev pub amount_told : ℕ → ℕ → Request → Payment → List ℕ
amount_told n d (Book call) p = payment_told n d call p
amount_told n d (Margins a) p = margins_told n d p

-- a reply: what is paid or asked for, or the refusal; a line that the sheet refuses has no amounts
abbrev pub reply_told : ℕ → ℕ → Result Request SheetFault → Result (List Payment) Cause → List ℕ
reply_told n d asked (Err cause) = refusal_told n d cause
reply_told n d (Ok request) (Ok amounts) = flat_map (amount_told n d request) amounts
reply_told n d (Err fault) (Ok amounts) = []
