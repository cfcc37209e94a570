-- The law of the ledger. Assumes nothing.
use Rattle.std.specs.Prelude.{◌≡◌, ℕ, ◌*◌, ◌<◌, ◌≤◌, false, [], ◌∷◌, ℤ, pos, ◌+ℤ◌, ◌-ℤ◌, ◌*ℤ◌, Some, None, unsigned_abs}
use Rattle.amounts.specs.SumsOfWhole.{sum_z, if_z}
use Rattle.ledger.specs.Calls.{refusal, after}
use Rattle.ledger.specs.History.{History, day_after, trade_count, net, since, booked, final, prices, lasts}
use Rattle.ledger.specs.Make.{make_refusal}
use Rattle.ledger.specs.State.{Made, State, class_now, new_state}
use Rattle.ledger.specs.Words.{or_zero}
use Rattle.ledger.specs.declared.call.Call.{Call}
use Rattle.terms.specs.Laws.{Laws}
use Rattle.terms.specs.Meaning.{Meaning, has, tradable, class_quantity}

module _ (w : Meaning) (h : History) (s : State) where
  -- the month in which the book began
  abbrev start : ℕ
  start = s.made.month

  -- what an account holds in a month: the sum of its lots in the classes that have the month on the book's day
  abbrev pub held : ℕ → ℕ → ℤ
  held a m = sum_z w.classes (λ c. if_z (has (w.on (day_after w start h) c) m) ((s.rows a).lots c))

  -- its holdings at last prices: the lots in each class less those traded there since the last accepted close
  abbrev pub at_last : ℕ → ℤ
  at_last a =
      sum_z w.classes (λ c. ((s.rows a).lots c -ℤ since w start h a c) *ℤ (pos (class_quantity w (w.on (day_after w start h) c)) *ℤ or_zero (lasts w start h c)))

  -- its settled months at final prices; a month that is not settled counts 0
  abbrev pub at_final : ℕ → ℤ
  at_final a = sum_z 1200 (λ m. net w start h a m *ℤ (pos (w.quantity m) *ℤ or_zero (final w start h m)))

  -- The law of the ledger.
  pub record Ledger : Type 0 where
    -- over all accounts, the lots in each class sum to zero, and so does the cash
    pub lots_balance : (c : ℕ) → sum_z s.made.accounts (λ a. (s.rows a).lots c) ≡ pos 0
    pub cash_balances : sum_z s.made.accounts (λ a. (s.rows a).cash) ≡ pos 0
    -- in a month not finally settled an account holds its accepted buys less its accepted sells of it
    pub open_months : (a m : ℕ) → a < s.made.accounts → final w start h m ≡ None → held a m ≡ net w start h a m
    -- in a settled month it holds nothing
    pub settled_months : (a m : ℕ) (f : ℤ) → a < s.made.accounts → final w start h m ≡ Some f → held a m ≡ pos 0
    -- its cash is its holdings at last prices, plus its settled months at final prices, less its trades at cost
    pub cash_explained : (a : ℕ) → a < s.made.accounts → (s.rows a).cash ≡ at_last a +ℤ at_final a -ℤ booked w start h a

  -- The book's day, its prices, its count of trades and an account's trades of the day are those that its history tells.
  pub record Agrees : Type 0 where
    pub day : s.market.day ≡ day_after w start h
    pub count : s.market.accepted ≡ trade_count h
    pub today : (c : ℕ) → s.market.today c ≡ prices w start h c
    pub last : (c : ℕ) → s.market.last c ≡ lasts w start h c
    pub traded : (a c : ℕ) → (s.rows a).traded c ≡ since w start h a c

-- What every book keeps, whatever was called.
pub record Keeps (w : Meaning) (s : State) : Type 0 where
  -- at most 100,000 trades were accepted, and the day's trades are no more than these allow: 1,000 lots each, at most
  -- 100,000 cents a lot
  pub few : s.market.accepted ≤ 100000
  pub traded : (a c : ℕ) → unsigned_abs ((s.rows a).traded c) ≤ 1000 * s.market.accepted
  pub cost : (a c : ℕ) → unsigned_abs ((s.rows a).cost c) ≤ 100000000 * s.market.accepted
  -- nobody holds lots of a number that is no class
  pub beyond : (a c : ℕ) → w.classes ≤ c → (s.rows a).lots c ≡ pos 0
  -- a repricing stands only in a class that is not tradable and has a last price
  pub repriced : (c : ℕ) (p : ℤ) → s.market.repriced c ≡ Some p → (tradable (class_now w s c) ≡ false) × (s.market.last c ≡ None → ⊥)

pub record Stands (w : Meaning) (h : History) (s : State) : Type 0 where
  pub law : Ledger w h s
  pub agrees : Agrees w h s
  pub keeps : Keeps w s

-- A book is reached from its make by a history: each call was given exactly the answer that is defined, and did exactly what
-- is defined, on what the calls before it had left.
abbrev pub Reached : Meaning → Made → History → State → Type 0
Reached w m [] s = s ≡ new_state w m
Reached w m (e ∷ h) s = (t : State) × Reached w m h t × (e.answer ≡ refusal w t e.call) × (s ≡ after w t e.call)

-- The same, and all this stands at the start and after each call.
abbrev pub Always : Meaning → Made → History → State → Type 0
Always w m [] s = (s ≡ new_state w m) × Stands w [] s
Always w m (e ∷ h) s = (t : State) × Always w m h t × (e.answer ≡ refusal w t e.call) × (s ≡ after w t e.call) × Stands w (e ∷ h) s

-- The life of a book: its make was accepted, its history reached it, and the law held all along.
pub record Life (w : Meaning) (h : History) (s : State) : Type 0 where
  pub made : make_refusal w s.made ≡ None
  pub always : Always w s.made h s

-- Some history reached it so.
pub record Lived (w : Meaning) (s : State) : Type 0 where
  pub history : History
  pub life : Life w history s

-- Whatever history a book has had, a call adds itself and its answer to it.
abbrev pub LivesOn : Meaning → State → Call → State → Type 0
LivesOn w s call t = (h : History) → Life w h s → Life w (record { call = call; answer = refusal w s call } ∷ h) t

-- Every book that any accepted make began and any history reached has the accounts, the month and the class lines that it was
-- made with, and the law holds of it all along, under all terms that keep their laws.
abbrev pub LedgerStands : Type 0
LedgerStands =
    (w : Meaning) → Laws w → (m : Made) → make_refusal w m ≡ None → (h : History) (s : State) → Reached w m h s → (s.made ≡ m) × Life w h s
