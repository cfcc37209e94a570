-- Which class has a month on the next open day. Assumes nothing.
use Rattle.std.specs.Prelude.{◌≡◌, ℕ, ◌<◌, true, cond, ◌&&◌, Some, None, Option}
use Rattle.calendars.specs.Walks.{first_from, Next}
use Rattle.terms.specs.Laws.{is_taken_over}
use Rattle.terms.specs.Meaning.{Meaning, has, is_part, has_some_part, successor}

-- the successor of a class that may be none
abbrev pub successor_of : Meaning → ℕ → Option ℕ → Option ℕ
successor_of w d None = None
successor_of w d (Some c) = successor (w.on d c)

-- the part of a class that has a month
abbrev pub part_with : Meaning → ℕ → ℕ → ℕ → Option ℕ
part_with w d c m = first_from (λ p. is_part (w.on d c) p && has (w.on d p) m) 0 12

-- the class to which a class hands a month over at the day's close: its successor, or that of the part with the month
abbrev pub heir_of : Meaning → ℕ → ℕ → ℕ → Option ℕ
heir_of w d c m = successor_of w d (cond (has_some_part (w.on d c)) (part_with w d c m) (Some c))

-- no month is lost: the class to which it is handed over has it on the next open day, and only the settling class keeps
-- it from being handed over, on a day when another class succeeds to it
pub record MonthsFollow (w : Meaning) : Type 0 where
  pub follows : (d c m e s : ℕ) → has (w.on d c) m ≡ true → heir_of w d c m ≡ Some s → Next w.opens d e → e < 35430 → has (w.on e s) m ≡ true
  pub ends : (d c m : ℕ) → has (w.on d c) m ≡ true → heir_of w d c m ≡ None → (c ≡ w.settling) × (is_taken_over w d ≡ true)
