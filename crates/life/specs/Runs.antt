-- A life: the lines of a sheet, one after the other on the same book, and what is told of them. Assumes nothing.
use Rattle.std.specs.Prelude.{ℕ, zero, suc, ◌+◌, Bool, true, false, List, [], ◌∷◌, ◌++◌, ℤ, Option, Some, None, Ok, Err, Result, cond, ◌&&◌, is_none, is_ok}
use Rattle.ledger.specs.Calls.{refusal}
use Rattle.ledger.specs.State.{State}
use Rattle.ledger.specs.declared.call.Call.{Call}
use Rattle.ledger.specs.declared.call.Call.TheVariants.{Trade, Mark, Reprice, Settle, Close}
use Rattle.ledger.specs.declared.entry.Entry.{Entry}
use Rattle.life.specs.DayCalls.{day_calls}
use Rattle.life.specs.Paths.{followed_text}
use Rattle.life.specs.Told.{reply_told, refusal_told}
use Rattle.products.specs.declared.product.Product.{Product}
use Rattle.rows.specs.Advances.{advance}
use Rattle.rows.specs.Requests.{request}
use Rattle.rows.specs.declared.advance.Advance.{Advance}
use Rattle.rows.specs.declared.fault.SheetFault.{SheetFault}
use Rattle.rows.specs.declared.request.Request.{Request}
use Rattle.rows.specs.declared.request.Request.TheVariants.{Book, Margins}
use Rattle.sheet.specs.Replies.{reply, left, noted}
use Rattle.sheet.specs.Sheets.{headed}
use Rattle.sheet.specs.declared.cause.LineFault.{LineFault}
use Rattle.terms.specs.Meaning.{Meaning}
use Rattle.text.specs.Lines.{lines}

-- how far a life has come: what has been told, what the book holds, and its calls with their answers
pub record Run : Type 0 where
  pub text : List ℕ
  pub state : State
  pub entries : List Entry

-- the run of a text, a state and entries
abbrev pub run_at : List ℕ → State → List Entry → Run
run_at text state entries = record { text = text; state = state; entries = entries }

-- after an accepted settle or close an account's path goes on
abbrev pub call_moves : Call → Bool
call_moves (Trade buyer seller c n p) = false
call_moves (Mark c p) = false
call_moves (Reprice c p) = false
call_moves (Settle p room) = true
call_moves (Close room) = true

abbrev pub moves : Result Request SheetFault → Bool
moves (Err fault) = false
moves (Ok (Book call)) = call_moves call
moves (Ok (Margins a)) = false

module _ (w : Meaning) (product : Product) (followed : Option ℕ) where
  -- a line that asks this: its reply, and the path of the account that is followed
  unfoldable pub asked_run : ℕ → Result Request SheetFault → Run → Run
  asked_run n asked r = record {
    text =
        r.text ++ (reply_told n r.state.market.day asked (reply w r.state asked) ++ cond (moves asked && is_ok (reply w r.state asked)) (followed_text w product (left w r.state asked) followed) []);
    state = left w r.state asked;
    entries = r.entries ++ noted w r.state asked;
  }

  abbrev pub call_run : ℕ → Call → Run → Run
  call_run n call r = asked_run n (Ok (Book call)) r

  abbrev pub accepts : Call → Run → Bool
  accepts call r = is_none (refusal w r.state call)

  -- calls, up to the first that is refused
  unfoldable pub calls_run : ℕ → List Call → Run → Run
  calls_run n [] r = r
  calls_run n (call ∷ calls) r = cond (accepts call r) (calls_run n calls (call_run n call r)) (call_run n call r)

  -- whether none is refused
  unfoldable pub all_pass : ℕ → List Call → Run → Bool
  all_pass n [] r = true
  all_pass n (call ∷ calls) r = cond (accepts call r) (all_pass n calls (call_run n call r)) false

  -- the calls of a day that is advanced over
  abbrev pub calls_of : ℤ → Run → List Call
  calls_of price r = day_calls w r.state price

  abbrev pub day_run : ℕ → ℤ → Run → Run
  day_run n price r = calls_run n (calls_of price r) r

  abbrev pub day_passes : ℕ → ℤ → Run → Bool
  day_passes n price r = all_pass n (calls_of price r) r

  -- so many days, up to the first call that is refused
  unfoldable pub days_run : ℕ → ℤ → ℕ → Run → Run
  days_run n price zero r = r
  days_run n price (suc k) r = cond (day_passes n price r) (days_run n price k (day_run n price r)) (day_run n price r)

  -- a line that advances, or asks something else
  abbrev pub line_asks : ℕ → Option (Result Advance SheetFault) → Result Request SheetFault → Run → Run
  line_asks n None asked r = asked_run n asked r
  line_asks n (Some (Err fault)) asked r = asked_run n (Err fault) r
  line_asks n (Some (Ok a)) asked r = days_run n a.price a.days r

  abbrev pub line_run : List ℕ → ℕ → List ℕ → Run → Run
  line_run places n line r = line_asks n (advance places line) (request product places line) r

  -- the lines of values, from line n on
  unfoldable pub rows_run : List ℕ → ℕ → List (List ℕ) → Run → Run
  rows_run places n [] r = r
  rows_run places n (line ∷ rows) r = rows_run places (n + 1) rows (line_run places n line r)

  -- a sheet without a names line is refused
  abbrev pub body_run : Result (List ℕ × List (List ℕ)) LineFault → Run → Run
  body_run (Err fault) r = record {
    text = r.text ++ refusal_told fault.line r.state.market.day fault.cause;
    state = r.state;
    entries = r.entries;
  }
  body_run (Ok s) r = rows_run s.0 2 s.1 r

  -- a whole sheet
  abbrev pub sheet_run : List ℕ → Run → Run
  sheet_run sheet r = body_run (headed (lines sheet)) r
