-- One fact on quantities, for all terms. Assumes nothing.
use Rattle.std.specs.Prelude.{◌≡◌, ℕ, ◌<◌, true, cond, Some}
use Rattle.calendars.specs.Walks.{Next}
use Rattle.terms.specs.Meaning.{Meaning, sum_below, is_part, has_some_part, successor, class_quantity}

-- a class with parts has as much as its parts together, and a successor as much as the class that it succeeds
pub record PartsAndSuccessors (w : Meaning) : Type 0 where
  pub parts : (d c : ℕ) → has_some_part (w.on d c) ≡ true → sum_below w.classes (λ p. cond (is_part (w.on d c) p) (class_quantity w (w.on d p)) 0) ≡ class_quantity w (w.on d c)
  pub successors : (d c s e : ℕ) → successor (w.on d c) ≡ Some s → Next w.opens d e → e < 35430 → class_quantity w (w.on e s) ≡ class_quantity w (w.on d c)
