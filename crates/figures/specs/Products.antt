-- The law of the ledger for the products: books of Baseload, Peakload and wheat over any calendar. Assumes nothing.
use Rattle.std.specs.Prelude.{◌≡◌, ℕ, Bool, true, false, None}
use Rattle.ledger.specs.History.{History}
use Rattle.ledger.specs.Ledger.{Reached, Life}
use Rattle.ledger.specs.Make.{make_refusal}
use Rattle.ledger.specs.State.{Made, State}
use Rattle.power.specs.Hours.{baseload, peakload}
use Rattle.power.specs.Power.{power}
use Rattle.terms.specs.Meaning.{Meaning}
use Rattle.wheat.specs.Wheat.{wheat}

-- after any accepted make and any history, a book over these terms has what it was made with, and the law of the ledger holds
-- of it, at the start and after each call
abbrev pub LawHolds : Meaning → Type 0
LawHolds w = (m : Made) → make_refusal w m ≡ None → (h : History) (s : State) → Reached w m h s → (s.made ≡ m) × Life w h s

abbrev pub baseload_terms : (ℕ → Bool) → Meaning
baseload_terms opens = power opens baseload true

abbrev pub peakload_terms : (ℕ → Bool) → Meaning
peakload_terms opens = power opens peakload false

-- all three products, over the same open days
pub record AllProducts (opens : ℕ → Bool) : Type 0 where
  pub baseload_law : LawHolds (baseload_terms opens)
  pub peakload_law : LawHolds (peakload_terms opens)
  pub wheat_law : LawHolds (wheat opens)
