-- What a line of values is answered on what a book holds, and what it leaves. Assumes nothing.
use Rattle.std.specs.Prelude.{◌≡◌, ℕ, List, [], ◌∷◌, Some, None, Ok, Err, Option, Result, take, MatchResult}
use Rattle.ledger.specs.Calls.{refusal, after, paid}
use Rattle.ledger.specs.Questions.{margins_refusal, margins, payment_lines}
use Rattle.ledger.specs.State.{State}
use Rattle.ledger.specs.declared.call.Call.{Call}
use Rattle.ledger.specs.declared.call.Call.TheVariants.{Trade, Mark, Reprice, Settle, Close}
use Rattle.ledger.specs.declared.entry.Entry.{Entry}
use Rattle.ledger.specs.declared.fault.Fault.{Fault}
use Rattle.ledger.specs.declared.payment.Payment.{Payment}
use Rattle.rows.specs.declared.fault.SheetFault.{SheetFault}
use Rattle.rows.specs.declared.request.Request.{Request}
use Rattle.rows.specs.declared.request.Request.TheVariants.{Book as OfBook, Margins as OfMargins}
use Rattle.sheet.specs.Answers.{answer_line, refused, accepted}
use Rattle.sheet.specs.declared.cause.Cause.{Cause}
use Rattle.sheet.specs.declared.cause.Cause.TheVariants.{Sheet, Book}
use Rattle.std.specs.List.{flat_map}
use Rattle.terms.specs.Meaning.{Meaning}

-- an answer of the book, with the amounts that are told where it accepts
abbrev pub told : Option Fault → List Payment → Result (List Payment) Cause
told None amounts = Ok amounts
told (Some fault) amounts = Err (Book fault)

module _ (w : Meaning) (s : State) where
  -- what an accepted call tells: for a settle and a close what each account is paid, in account order
  abbrev pub amounts : Call → List Payment
  amounts (Trade buyer seller c n p) = []
  amounts (Mark c p) = []
  amounts (Reprice c p) = []
  amounts (Settle f room) = payment_lines s.made.accounts (paid w s (Settle f room))
  amounts (Close room) = payment_lines s.made.accounts (paid w s (Close room))

  -- the reply to a line of values, which asks something or is refused by the sheet
  abbrev pub reply : Result Request SheetFault → Result (List Payment) Cause
  reply (Err fault) = Err (Sheet fault)
  reply (Ok (OfBook call)) = told (refusal w s call) (amounts call)
  reply (Ok (OfMargins a)) = told (margins_refusal w s a) (record { account = a; cents = margins w s a } ∷ [])

  -- what the book holds afterwards
  abbrev pub left : Result Request SheetFault → State
  left (Err fault) = s
  left (Ok (OfBook call)) = after w s call
  left (Ok (OfMargins a)) = s

  -- what the line adds to the history of the book
  abbrev pub noted : Result Request SheetFault → List Entry
  noted (Err fault) = []
  noted (Ok (OfBook call)) = record { call = call; answer = refusal w s call } ∷ []
  noted (Ok (OfMargins a)) = []

-- a reply as a desk gives it: a fault, or how many payments at the head of a list are told
abbrev pub Tells : Result (List Payment) Cause → Result ℕ Cause → List Payment → Type 0
Tells told r list = MatchResult r (λ n. told ≡ Ok (take n list)) (λ cause. told ≡ Err cause)

-- the lines that tell a reply to line n
abbrev pub reply_text : ℕ → Result (List Payment) Cause → List ℕ
reply_text n (Err cause) = answer_line (refused (record { line = n; cause = cause }))
reply_text n (Ok []) = answer_line (accepted n None)
reply_text n (Ok (p ∷ ps)) = flat_map (λ p. answer_line (accepted n (Some p))) (p ∷ ps)
