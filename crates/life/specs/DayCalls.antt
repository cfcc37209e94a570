-- The calls of a day that is advanced over. Assumes nothing.
use Rattle.std.specs.Prelude.{ℕ, Bool, List, [], ◌∷◌, ◌++◌, ℤ, cond, ◌&&◌, is_some, is_none, unwrap_or}
use Rattle.ledger.specs.State.{State, class_now}
use Rattle.ledger.specs.declared.call.Call.{Call}
use Rattle.ledger.specs.declared.call.Call.TheVariants.{Mark, Settle, Close}
use Rattle.rows.specs.Requests.{room}
use Rattle.std.specs.List.{range_with_len, flat_map}
use Rattle.terms.specs.Meaning.{Meaning, tradable}

-- a class is tradable and has no price of the day
abbrev pub unmarked : Meaning → State → ℕ → Bool
unmarked w s c = tradable (class_now w s c) && is_none (s.market.today c)

module _ (w : Meaning) (s : State) (price : ℤ) where
  -- the months that await it are settled at the given price
  abbrev pub settle_calls : List Call
  settle_calls = cond (is_some (s.market.last w.settling)) (Settle price room ∷ []) []

  -- a tradable class without a price of the day is marked: at its last price, or at the given price where it has none
  abbrev pub mark_calls : ℕ → List Call
  mark_calls c = cond (unmarked w s c) (Mark c (unwrap_or (s.market.last c) price) ∷ []) []

  -- the day is closed last
  abbrev pub day_calls : List Call
  day_calls = settle_calls ++ (flat_map mark_calls (range_with_len 0 w.classes) ++ (Close room ∷ []))
