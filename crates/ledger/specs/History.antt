-- What happened to a book, told as a list of calls with their answers, the latest first, and what the law reads off it:
-- from the terms' meaning, the start month and the history alone. Assumes nothing.
use Rattle.std.specs.Prelude.{ℕ, ◌+◌, Bool, true, false, cond, ◌&&◌, List, [], ◌∷◌, ℤ, pos, ◌+ℤ◌, ◌*ℤ◌, Some, None, Option, ◌==◌}
use Rattle.amounts.specs.SumsOfWhole.{if_z}
use Rattle.calendars.specs.Walks.{first_from}
use Rattle.ledger.specs.State.{start_day}
use Rattle.ledger.specs.Words.{put, from, share}
use Rattle.ledger.specs.declared.call.Call.{Call}
use Rattle.ledger.specs.declared.call.Call.TheVariants.{Trade, Mark, Reprice, Settle, Close}
pub use Rattle.ledger.specs.declared.entry.Entry.{Entry}
use Rattle.ledger.specs.declared.fault.Fault.{Fault}
use Rattle.terms.specs.Day.{next_day}
use Rattle.terms.specs.Laws.{names}
use Rattle.terms.specs.Meaning.{Meaning, has, tradable, successor, class_quantity}

abbrev pub History : Type 0
History = List Entry

abbrev pub accepted : Option Fault → Bool
accepted None = true
accepted (Some f) = false

abbrev pub is_trade : Call → Bool
is_trade (Trade buyer seller c n p) = true
is_trade (Mark c p) = false
is_trade (Reprice c p) = false
is_trade (Settle f room) = false
is_trade (Close room) = false

abbrev pub is_close : Call → Bool
is_close (Trade buyer seller c n p) = false
is_close (Mark c p) = false
is_close (Reprice c p) = false
is_close (Settle f room) = false
is_close (Close room) = true

-- the entry is an accepted trade, or an accepted close
abbrev pub trades : Entry → Bool
trades e = accepted e.answer && is_trade e.call

abbrev pub closes : Entry → Bool
closes e = accepted e.answer && is_close e.call

-- how many trades were accepted
unfoldable pub trade_count : History → ℕ
trade_count [] = 0
trade_count (e ∷ h) = cond (trades e) (trade_count h + 1) (trade_count h)

-- the day after the history: the start month's first open day, and one open day on for each accepted close
unfoldable pub day_after : Meaning → ℕ → History → ℕ
day_after w start [] = start_day w start
day_after w start (e ∷ h) = cond (closes e) (next_day w (day_after w start h)) (day_after w start h)

-- ---- what one accepted call means on a day

-- an account's buys less sells of a month: those of a trade whose class has the month that day
abbrev pub month_lots : Meaning → ℕ → Call → ℕ → ℕ → ℤ
month_lots w d (Trade buyer seller c n p) a m = if_z (has (w.on d c) m) (share buyer seller n a)
month_lots w d (Mark c p) a m = pos 0
month_lots w d (Reprice c p) a m = pos 0
month_lots w d (Settle f room) a m = pos 0
month_lots w d (Close room) a m = pos 0

-- an account's buys less sells in a class
abbrev pub class_lots : Call → ℕ → ℕ → ℤ
class_lots (Trade buyer seller c n p) a i = if_z (i == c) (share buyer seller n a)
class_lots (Mark c p) a i = pos 0
class_lots (Reprice c p) a i = pos 0
class_lots (Settle f room) a i = pos 0
class_lots (Close room) a i = pos 0

-- an account's trade at cost: lots × the class's quantity that day × price, sales negative
abbrev pub at_cost : Meaning → ℕ → Call → ℕ → ℤ
at_cost w d (Trade buyer seller c n p) a = pos (class_quantity w (w.on d c)) *ℤ (share buyer seller n a *ℤ p)
at_cost w d (Mark c p) a = pos 0
at_cost w d (Reprice c p) a = pos 0
at_cost w d (Settle f room) a = pos 0
at_cost w d (Close room) a = pos 0

-- the final price that a settle gives a month: those of the settling class that day
abbrev pub final_of : Meaning → ℕ → Call → ℕ → Option ℤ
final_of w d (Trade buyer seller c n p) m = None
final_of w d (Mark c p) m = None
final_of w d (Reprice c p) m = None
final_of w d (Settle f room) m = cond (has (w.on d w.settling) m) (Some f) None
final_of w d (Close room) m = None

-- the day's price that a mark gives a class
abbrev pub mark_of : Call → (ℕ → Option ℤ) → ℕ → Option ℤ
mark_of (Trade buyer seller c n p) today = today
mark_of (Mark c p) today = put today c (Some p)
mark_of (Reprice c p) today = today
mark_of (Settle f room) today = today
mark_of (Close room) today = λ c. None

-- the class that hands over to class t on a day, if one does
abbrev pub giver : Meaning → ℕ → ℕ → Option ℕ
giver w d t = first_from (λ c. names (successor (w.on d c)) t) 0 w.classes

-- the last prices that a call leaves: a close gives each class that of the class that hands over to it, the day's price
-- where that one was tradable; a settle takes that of the settling class
abbrev pub last_of : Meaning → ℕ → Call → (ℕ → Option ℤ) → (ℕ → Option ℤ) → ℕ → Option ℤ
last_of w d (Trade buyer seller c n p) today last = last
last_of w d (Mark c p) today last = last
last_of w d (Reprice c p) today last = last
last_of w d (Settle f room) today last = put last w.settling None
last_of w d (Close room) today last = λ t. from (giver w d t) None (λ c. cond (tradable (w.on d c)) (today c) (last c))

-- ---- what a history means

abbrev pub first_of : Option ℤ → Option ℤ → Option ℤ
first_of None o = o
first_of (Some p) o = Some p

module _ (w : Meaning) (start : ℕ) where
  -- an account's accepted buys less its accepted sells of a month
  unfoldable pub net : History → ℕ → ℕ → ℤ
  net [] a m = pos 0
  net (e ∷ h) a m = net h a m +ℤ if_z (accepted e.answer) (month_lots w (day_after w start h) e.call a m)

  -- the lots that an account traded in a class since the last accepted close
  unfoldable pub since : History → ℕ → ℕ → ℤ
  since [] a c = pos 0
  since (e ∷ h) a c = cond (closes e) (pos 0) (since h a c +ℤ if_z (accepted e.answer) (class_lots e.call a c))

  -- all accepted trades at cost
  unfoldable pub costs : History → ℕ → ℤ
  costs [] a = pos 0
  costs (e ∷ h) a = costs h a +ℤ if_z (accepted e.answer) (at_cost w (day_after w start h) e.call a)

  -- the accepted trades at cost, those since the last accepted close left out
  unfoldable pub booked : History → ℕ → ℤ
  booked [] a = pos 0
  booked (e ∷ h) a = cond (closes e) (costs h a) (booked h a)

  -- the final price of a month: none while it is not finally settled
  unfoldable pub final : History → ℕ → Option ℤ
  final [] m = None
  final (e ∷ h) m = first_of (cond (accepted e.answer) (final_of w (day_after w start h) e.call m) None) (final h m)

  -- the day's prices
  unfoldable pub prices : History → ℕ → Option ℤ
  prices [] = λ c. None
  prices (e ∷ h) = cond (accepted e.answer) (mark_of e.call (prices h)) (prices h)

  -- the last prices
  unfoldable pub lasts : History → ℕ → Option ℤ
  lasts [] = λ c. None
  lasts (e ∷ h) = cond (accepted e.answer) (last_of w (day_after w start h) e.call (prices h) (lasts h)) (lasts h)
