-- The longest tradable class of a day. Assumes nothing.
use Rattle.std.specs.Prelude.{◌≡◌, ℕ, ◌<◌, ◌≤◌, true, false, Some, IfSome}
use Rattle.terms.specs.Meaning.{Meaning, tradable, months_of}
use Rattle.terms.specs.declared.class_terms.Months.{Months}

-- a tradable class, with its months
pub record IsTradable (w : Meaning) (day class : ℕ) (run : Months) : Type 0 where
  pub is_tradable : tradable (w.on day class) ≡ true
  pub has_run : months_of (w.on day class) ≡ Some run

-- no tradable class has more months
abbrev pub NoneLonger : Meaning → ℕ → ℕ → Type 0
NoneLonger w day count = (c : ℕ) → c < w.classes → tradable (w.on day c) ≡ true → IfSome (months_of (w.on day c)) (λ m. m.count ≤ count)

-- no class is tradable on the day
abbrev pub NoneTradable : Meaning → ℕ → Type 0
NoneTradable w day = (c : ℕ) → c < w.classes → tradable (w.on day c) ≡ false
