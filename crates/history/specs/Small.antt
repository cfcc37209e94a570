-- How large the figures of a reading can be. Assumes nothing.
use Rattle.std.specs.Prelude.{◌≡◌, ℕ, ◌+◌, ◌*◌, ◌^◌, ◌<◌, ◌≤◌, List, ℤ, Some, Option, unsigned_abs}
use Rattle.ledger.specs.Words.{at}
use Rattle.terms.specs.declared.class_terms.ClassTerms.{ClassTerms}

-- each call adds at most 2^31 lots to a month or a class, of which there are n, and at most 2^76 at cost
abbrev pub SmallLots : ℕ → ℕ → List ℤ → Type 0
SmallLots n calls xs = (i : ℕ) → i < n → unsigned_abs (at xs i) ≤ calls * 2 ^ 31

abbrev pub SmallCost : ℕ → ℤ → Type 0
SmallCost calls x = unsigned_abs x ≤ calls * 2 ^ 76

-- a list of n numbers has room for lots in each of them
pub record RoomFor (n : ℕ) (xs : List ℤ) (lots : ℤ) : Type 0 where
  pub each : (i : ℕ) → i < n → unsigned_abs (at xs i) ≤ 2 ^ 62
  pub more : unsigned_abs lots ≤ 2 ^ 31

-- the months of a class are months
abbrev pub MonthsIn : Option ClassTerms → Type 0
MonthsIn class = (t : ClassTerms) → class ≡ Some t → t.months.first + t.months.count ≤ 1200
