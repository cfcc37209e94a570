-- What a history tells of one account, as the law of the ledger reads it. Assumes nothing.
use Rattle.std.specs.Prelude.{◌≡◌, ℕ, ◌<◌, length, None, slice_index_or}
use Rattle.history.specs.declared.reading.Reading.{Reading}
use Rattle.ledger.specs.History.{History, day_after, net, since, costs, booked, final}
use Rattle.ledger.specs.Words.{at}
use Rattle.terms.specs.Meaning.{Meaning}

-- a reading has come to the end of a history, which began in a month
pub record Told (w : Meaning) (start : ℕ) (h : History) (a : ℕ) (k : Reading) : Type 0 where
  pub calls : k.calls ≡ length h
  pub day : k.day ≡ day_after w start h
  pub nets : (m : ℕ) → m < 1200 → at k.nets m ≡ net w start h a m
  pub finals : (m : ℕ) → m < 1200 → slice_index_or k.finals m None ≡ final w start h m
  pub since : (c : ℕ) → c < 12 → at k.since c ≡ since w start h a c
  pub costs : k.costs ≡ costs w start h a
  pub booked : k.booked ≡ booked w start h a
